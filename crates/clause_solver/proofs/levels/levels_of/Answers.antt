use Rattle.std.proofs.Common.{◌≡◌, ap, sym, ◌∙◌}
use Rattle.std.proofs.lemmas.Option.{slice_get_within}
use Rattle.propositional_logic.specs.Equality.{Decides-literal_eq}
use Rattle.unit_propagate.specs.declared.marks.Mark.{Mark}
use Rattle.unit_propagate.proofs.TrailLemmas.{at_place}
use Rattle.clause_solver.proofs.IdleLemmas.{free_not_false, true_not_false, true_from_level, below_not_false}
use Rattle.clause_solver.proofs.levels.levels_of.Goals as goal

pub returns-in_default-clause-falsity : goal.returns-in_default-clause-falsity
returns-in_default-clause-falsity c = λ level low. free_not_false c.args.trail.now.marks c.args.lit level (rw c.var.ensures.value at c.in_default.ensures.none)

pub at-other-requires : goal.at-other-requires
at-other-requires c = let m = c.in-Some.ensures.some in slice_get_within c.args.trail.now.marks c.in-Some.place m.0 m.1

pub returns-then-eq-clause-falsity : goal.returns-then-eq-clause-falsity
returns-then-eq-clause-falsity c = λ level low.
    let m : Mark = record { lit = c.at-other.result.0; level = c.at-other.result.1; reason = c.at-other.result.2 } in
    true_not_false c.args.trail.now.vars c.args.trail.now.marks c.args.lit level c.place.ensures.trail
    (at_place c.args.trail.now.marks c.in-Some.place m c.args.lit c.at-other.ensures ((Decides-literal_eq c.at-other.result.0 c.args.lit).0 (sym c.eq.ensures ∙ c.if-eq.true)))

pub returns-then-eq-clause-truth : goal.returns-then-eq-clause-truth
returns-then-eq-clause-truth c = λ level le high.
    true_from_level c.args.trail.now.vars c.args.trail.now.marks c.args.lit level c.in-Some.place (record { lit = c.at-other.result.0; level = c.at-other.result.1; reason = c.at-other.result.2 })
    c.place.ensures.trail c.at-other.ensures ((Decides-literal_eq c.at-other.result.0 c.args.lit).0 (sym c.eq.ensures ∙ c.if-eq.true)) le

pub returns-clause-falsity : goal.returns-clause-falsity
returns-clause-falsity c = λ level low.
    let m : Mark = record { lit = c.at-other.result.0; level = c.at-other.result.1; reason = c.at-other.result.2 } in
    let k = c.in-Some.ensures.some in
    let there = k.1 in
    let here = c.at-other.ensures in
    let same : m ≡ k.0 = cc in
    below_not_false c.args.trail.now.vars c.args.trail.now.marks c.args.lit level c.in-Some.place m c.place.ensures.trail here
    (ap (λ (x : Mark). x.lit.var) same ∙ k.2 ∙ c.var.ensures.value) low
