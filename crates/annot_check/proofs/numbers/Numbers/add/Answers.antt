use Rattle.std.proofs.Common.{◌≡◌, ◌≤◌, ℕ, cond, Option, Some, inl, inr, sym, ap, subst, ◌∙◌}
use Rattle.std.specs.Prelude.{IfSome}
use Rattle.annot_check.specs.declared.numbers.Place.{Place}
use Rattle.annot_check.specs.declared.numbers.Numbers.{Numbers}
use Rattle.annot_check.specs.Numbers.{greatest_at, place_eq, pair_place}
use Rattle.annot_check.proofs.NumberLemmas.{adds}
use Rattle.annot_check.proofs.numbers.Numbers.add.Goals as goal

pub returns : goal.returns
returns c =
    let after : Numbers = record { greatest = c.insert.new.self } in
    let at : c.in_ok-place.place ≡ pair_place c.args.pair.now = c.in_ok-place.ensures in
    let found : c.greatest_at.result ≡ greatest_at c.args.self.now (pair_place c.args.pair.now) = c.greatest_at.ensures ∙ ap (greatest_at c.args.self.now) at in
    adds (greatest_at c.args.self.now) (greatest_at after) c.args.pair.now c.greater-number.result c.greater-number.ensures.own
    (subst (λ (o : Option ℕ). IfSome o (λ n. n ≤ c.greater-number.result)) found c.greater-number.ensures.over)
    (elim c.greater-number.ensures.one_of [ inl is ↦ inl is | inr there ↦ inr (sym found ∙ there) ])
    (λ q. subst (λ (p : Place). greatest_at after q ≡ cond (place_eq p q) (Some c.greater-number.result) (greatest_at c.args.self.now q)) at
    (c.in_ok-insert.ensures.updates.0 q))
