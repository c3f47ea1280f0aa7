use Rattle.std.proofs.Common.{sym, ◌∙◌}
use Rattle.std.proofs.lemmas.Option.{slice_get_within}
use Rattle.propositional_logic.specs.Literal.{negated}
use Rattle.propositional_logic.specs.Equality.{Decides-literal_eq}
use Rattle.unit_propagate.specs.declared.marks.Mark.{Mark}
use Rattle.unit_propagate.proofs.TrailLemmas.{free-no_literal, one_sign, at_place}
use Rattle.conflict_learn.proofs.analysis.falsifier.Goals as goal

pub returns-in_err-place-clause-none : goal.returns-in_err-place-clause-none
returns-in_err-place-clause-none c =
    rw c.from_residual.ensures (λ h. free-no_literal c.args.trail.now.marks (negated c.args.lit) (rw c.var.ensures.value at c.in_err-place.ensures.none) h)

pub at-other-requires : goal.at-other-requires
at-other-requires c = let m = c.in_ok-place.ensures.some in slice_get_within c.args.trail.now.marks c.in_ok-place.place m.0 m.1

pub returns-then-eq-clause-none : goal.returns-then-eq-clause-none
returns-then-eq-clause-none c = λ h.
    let m : Mark = record { lit = c.at-other.result.0; level = c.at-other.result.1; reason = c.at-other.result.2 } in
    one_sign c.args.trail.now.vars c.args.trail.now.marks c.args.lit c.place.ensures.trail
    (at_place c.args.trail.now.marks c.in_ok-place.place m c.args.lit c.at-other.ensures ((Decides-literal_eq c.at-other.result.0 c.args.lit).0 (sym c.eq.ensures ∙ c.if-eq.true))) h
