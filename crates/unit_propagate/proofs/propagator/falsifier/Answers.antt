use Rattle.std.proofs.Common.{◌≡◌, ◌≢◌, false, sym, ap, ◌∙◌, true≢false}
use Rattle.propositional_logic.specs.Literal.{Literal, negated, literal_eq}
use Rattle.propositional_logic.specs.Equality.{Decides-literal_eq}
use Rattle.unit_propagate.proofs.TrailLemmas.{free-no_literal}
use Rattle.unit_propagate.proofs.FalsifierLemmas.{value_of}
use Rattle.unit_propagate.proofs.propagator.falsifier.Goals as goal

apart : (a b : Literal) → literal_eq a b ≡ false → a ≢ b
apart a b e s = true≢false (sym ((Decides-literal_eq a b).1 s) ∙ e)

pub returns-in_err-slot-clause-none : goal.returns-in_err-slot-clause-none
returns-in_err-slot-clause-none c =
    absurd (free-no_literal c.args.marks.now.marks (negated c.args.lit) (rw c.var.ensures.value at c.in_err-slot.ensures.none) (c.requires (apart c.args.lit c.args.except (sym c.eq.ensures ∙ c.if-eq.false))))

pub returns-clause-some : goal.returns-clause-some
returns-clause-some c =
    let n = apart c.args.lit c.args.except (sym c.eq.ensures ∙ c.if-eq.false) in
    let h = c.in_ok-slot.ensures.some in
    (h.0, h.1, value_of c.args.marks.now.vars c.args.marks.now.marks c.in_ok-slot.field-0.place h.0 (negated c.args.lit) c.slot.ensures.trail h.1 (ap (λ (x : Literal). x.var) h.2 ∙ c.var.ensures.value) (c.requires n), n)
