use Rattle.std.proofs.Common.{◌≡◌, Err, ap, subst, rules}
use Rattle.std.proofs.lemmas.Result.{err_from_is_err_and}
use Rattle.propositional_logic.specs.declared.clauses.ClauseFault.TheVariants.{Tautology}
use Rattle.propositional_logic.specs.Clause.{IsClauseOf, IsTautology}
use Rattle.propositional_logic.proofs.Repeats.{clause_of_permutation, clause_of_rising, tautology_of_permutation, clause_within, clause_no_tautology}
use Rattle.propositional_logic.proofs.clauses.Clause.new.Goals as goal

pub returns-in_err-lits-clause-tautology : goal.returns-in_err-lits-clause-tautology
returns-in_err-lits-clause-tautology c h =
    let p = err_from_is_err_and c.from_residual-in_err-lits.result c.from_residual-in_err-lits.ensures.1 in
    let e : c.in_err-lits.field-0.0 ≡ Tautology = cc (p.1, p.2, h) in
    let t : IsTautology c.in_ok-sorted.sorted.items = subst IsTautology c.deref.ensures.value (c.in_err-lits.ensures.tautology (ap Err e)) in
    (c.if-has_bad_variable.ensures.none, tautology_of_permutation c.args.lits.now c.in_ok-sorted.sorted.items c.in_ok-sorted.ensures.permutation t)

pub returns-then-is_rising-clause-ok : goal.returns-then-is_rising-clause-ok
returns-then-is_rising-clause-ok c = clause_of_rising c.args.lits.now _ (search rules) c.if-is_rising.ensures

pub returns-then-is_rising-clause-within : goal.returns-then-is_rising-clause-within
returns-then-is_rising-clause-within c = clause_within c.args.vars c.args.lits.now _ (returns-then-is_rising-clause-ok c) c.if-has_bad_variable.ensures.none

pub returns-then-is_rising-clause-no_tautology : goal.returns-then-is_rising-clause-no_tautology
returns-then-is_rising-clause-no_tautology c _ h = clause_no_tautology c.args.lits.now _ (returns-then-is_rising-clause-ok c) h

pub returns-clause-ok : goal.returns-clause-ok
returns-clause-ok c =
    clause_of_permutation c.args.lits.now c.in_ok-sorted.sorted.items c.in_ok-lits.lits.items c.in_ok-sorted.ensures.permutation
    (subst (λ xs. IsClauseOf xs c.in_ok-lits.lits.items) c.deref.ensures.value c.in_ok-lits.ensures.ok)

pub returns-clause-within : goal.returns-clause-within
returns-clause-within c = clause_within c.args.vars c.args.lits.now c.in_ok-lits.lits.items (returns-clause-ok c) c.if-has_bad_variable.ensures.none

pub returns-clause-no_tautology : goal.returns-clause-no_tautology
returns-clause-no_tautology c _ h = clause_no_tautology c.args.lits.now c.in_ok-lits.lits.items (returns-clause-ok c) h
