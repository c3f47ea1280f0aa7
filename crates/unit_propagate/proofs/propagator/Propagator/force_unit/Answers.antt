use Rattle.std.proofs.Common.{◌≡◌, ◌++◌, ◌∷◌, [], ◌+◌, Some, Contains, refl, sym, subst}
use Rattle.propositional_logic.specs.Literal.{Literal}
use Rattle.unit_propagate.specs.declared.marks.Mark.{Mark}
use Rattle.unit_propagate.specs.Trail.{literals_of}
use Rattle.unit_propagate.specs.Marks.{MarkList}
use Rattle.unit_propagate.specs.Propagator.{clauses_in}
use Rattle.unit_propagate.proofs.PropagatorLemmas.{valueless, last_there, Goes-push}
use Rattle.unit_propagate.proofs.ForceLemmas.{unit_within, unit_falsified, unit_reason}
use Rattle.unit_propagate.proofs.propagator.Propagator.force_unit.Goals as goal

pub returns-then-is_false-clause-falsified : goal.returns-then-is_false-clause-falsified
returns-then-is_false-clause-falsified c =
    unit_falsified (clauses_in c.args.base.now c.args.seen.now) c.args.self.now c.args.k c.single-lit.result c.requires.watching c.single-lit.ensures.value c.if-is_false.ensures.yes

pub push-requires-clause-within : goal.push-requires-clause-within
push-requires-clause-within c =
    unit_within (clauses_in c.args.base.now c.args.seen.now) c.args.self.now c.args.k c.single-lit.result c.requires.watching c.single-lit.ensures.value c.args.self.now.marks.vars c.requires.within

pub push-requires-clause-free : goal.push-requires-clause-free
push-requires-clause-free c = valueless c.args.self.now.marks.marks c.single-lit.result c.if-not-is_true.ensures.no c.if-is_false.ensures.no

pub returns-then-not-is_true-clause-forced : goal.returns-then-not-is_true-clause-forced
returns-then-not-is_true-clause-forced c =
    λ l at.
    let there = c.single-lit.ensures.value in
    let same : c.single-lit.result ≡ l = cc in
    let m : Mark = record { lit = c.single-lit.result; level = c.level-level.result; reason = Some (c.args.k + 1) } in
    subst (λ (x : MarkList). Contains (literals_of x.marks) l) (sym c.push.ensures)
    (subst (λ (x : Literal). Contains (literals_of (c.args.self.now.marks.marks ++ m ∷ [])) x) same (last_there c.args.self.now.marks.marks m))

pub returns-then-not-is_true-clause-goes : goal.returns-then-not-is_true-clause-goes
returns-then-not-is_true-clause-goes c =
    Goes-push (clauses_in c.args.base.now c.args.seen.now) c.args.self.now (record { lit = c.single-lit.result; level = c.level-level.result; reason = Some (c.args.k + 1) }) c.push.new.self (c.args.k + 1)
    c.push.ensures c.requires.kept c.requires.watching c.level-level.ensures.value refl
    (unit_reason (clauses_in c.args.base.now c.args.seen.now) c.args.self.now c.args.k c.single-lit.result c.requires.watching c.single-lit.ensures.value)
