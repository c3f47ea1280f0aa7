use Rattle.std.proofs.Common.{◌≡◌, List, Some, ◌++◌, length, reverse, ap, sym, subst, ◌∙◌}
use Rattle.propositional_logic.specs.Literal.{Literal}
use Rattle.propositional_logic.specs.Clause.{IsClauseOf, IsWithinVariables, IsTautology}
use Rattle.refutation_log.specs.Entry.{clauses_of}
use Rattle.refutation_log.specs.Follows.{Follows, clause_named}
use Rattle.unit_propagate.specs.Trail.{literals_of}
use Rattle.conflict_learn.specs.declared.conflicts.Learned.{Learned}
use Rattle.conflict_learn.specs.Learnt.{clause_level, IsLearnt}
use Rattle.conflict_learn.specs.Analysis.{IsAnalysis}
use Rattle.conflict_learn.proofs.WholeLemmas.{the_conflict, if_ok_both}
use Rattle.conflict_learn.proofs.LearntLemmas.{kept_within, kept_has_one_sign, learnt_follows, learnt_is}
use Rattle.conflict_learn.proofs.conflicts.learn.Goals as goal

pub finish-requires-clause-known : goal.finish-requires-clause-known
finish-requires-clause-known c =
    let cl = c.args.base.now.clauses.items ++ clauses_of c.args.seen.now in
    let h = the_conflict cl (literals_of c.args.trail.now.marks) c.args.number c.clause_at-conflict.result.now c.requires.falsified c.clause_at-conflict.ensures in
    let top = c.highest_level-top.ensures ∙ ap (clause_level c.args.trail.now.marks) c.lits.ensures.value in
    let f = rw c.lits-2.ensures.value at c.in_ok-analysis.ensures in
    subst (λ t. IsAnalysis cl c.args.trail.now.marks t (length c.args.trail.now.marks) c.in_ok-analysis.analysis.places c.in_ok-analysis.analysis.lits.items c.in_ok-analysis.analysis.hints.items) (sym top)
    (f c.args.trail.now.vars cl c.len-end.ensures.trail h.0 h.1)

pub with_hints-requires-clause-within : goal.with_hints-requires-clause-within
with_hints-requires-clause-within c =
    let a = c.in_ok-finish.ensures in
    subst (IsWithinVariables c.args.base.now.vars) (sym c.deref.ensures.value)
    (subst (λ n. IsWithinVariables n c.finish.new.self.lits.items) (sym c.requires.variables)
    (kept_within (c.args.base.now.clauses.items ++ clauses_of c.args.seen.now) c.args.trail.now.vars c.args.trail.now.marks c.len-end.ensures.trail c.highest_level-top.result a.0 c.finish.new.self.lits.items c.finish.new.self.hints.items a.1))

pub with_hints-requires-clause-one_sign : goal.with_hints-requires-clause-one_sign
with_hints-requires-clause-one_sign c =
    let a = c.in_ok-finish.ensures in
    subst (λ ls. IsTautology ls → ⊥) (sym c.deref.ensures.value)
    (kept_has_one_sign (c.args.base.now.clauses.items ++ clauses_of c.args.seen.now) c.args.trail.now.vars c.args.trail.now.marks c.len-end.ensures.trail c.highest_level-top.result a.0 c.finish.new.self.lits.items c.finish.new.self.hints.items a.1)

pub returns-clause-follows : goal.returns-clause-follows
returns-clause-follows c =
    let cl = c.args.base.now.clauses.items ++ clauses_of c.args.seen.now in
    let a = c.in_ok-finish.ensures in
    if_ok_both (λ (l : Learned). IsClauseOf c.deref.result.now l.clause) (λ (l : Learned). l.hints ≡ reverse c.finish.new.self.hints.items) (λ (l : Learned). Follows cl l.clause l.hints)
    c.with_hints.result c.with_hints.ensures.clause c.with_hints.ensures.hints (λ l is hs.
    subst (λ xs. Follows cl l.clause xs) (sym hs)
    (learnt_follows cl c.args.trail.now.vars c.args.trail.now.marks c.len-end.ensures.trail c.highest_level-top.result a.0 c.finish.new.self.lits.items l.clause c.finish.new.self.hints.items a.1
    (subst (λ xs. IsClauseOf xs l.clause) c.deref.ensures.value is)))

pub returns-clause-learnt : goal.returns-clause-learnt
returns-clause-learnt c =
    let cl = c.args.base.now.clauses.items ++ clauses_of c.args.seen.now in
    let a = c.in_ok-finish.ensures in
    let h = the_conflict cl (literals_of c.args.trail.now.marks) c.args.number c.clause_at-conflict.result.now c.requires.falsified c.clause_at-conflict.ensures in
    let top = c.highest_level-top.ensures ∙ ap (clause_level c.args.trail.now.marks) c.lits.ensures.value in
    if_ok_both (λ (l : Learned). IsClauseOf c.deref.result.now l.clause) (λ (l : Learned). l.hints ≡ reverse c.finish.new.self.hints.items)
    (λ (l : Learned). (d : List Literal) → clause_named cl c.args.number ≡ Some d → IsLearnt c.args.trail.now.marks d l.clause)
    c.with_hints.result c.with_hints.ensures.clause c.with_hints.ensures.hints (λ l is hs d named.
    let n = h.0 in
    let same : c.clause_at-conflict.result.now ≡ d = cc in
    learnt_is cl c.args.trail.now.vars c.args.trail.now.marks c.len-end.ensures.trail c.highest_level-top.result a.0 c.finish.new.self.lits.items l.clause c.finish.new.self.hints.items a.1
    (subst (λ xs. IsClauseOf xs l.clause) c.deref.ensures.value is) d (top ∙ ap (clause_level c.args.trail.now.marks) same))
