use Rattle.std.proofs.Common.{◌≡◌, ◌+◌, Some, ap, refl, subst, sym, ◌∙◌}
use Rattle.std.specs.Prelude.{position}
use Rattle.std.proofs.lemmas.Option.{none-some, same_Some}
use Rattle.unrealizable_core.specs.Shrink.{IsFirstOpenGuarantee, is_open}
use Rattle.unrealizable_core.proofs.Standings.{all_needed, first_open, not_all_needed}
use Rattle.unrealizable_core.proofs.shrink.Shrink.ask.Goals as goal

pub returns-in-Some-clause-least : goal.returns-in-Some-clause-least
returns-in-Some-clause-least c =
    let s = c.self.inside.standings.items in
    let found : position is_open s ≡ Some c.in-Some.place = ap (position is_open) (sym c.deref.ensures.value) ∙ sym c.in-Some.ensures in
    rw (← c.self.view_is) (λ n e. subst (IsFirstOpenGuarantee s) (same_Some (c.in-Some.place + 1) n e) (first_open s c.in-Some.place found c.self.invariant.1))

pub returns-in-Some-clause-none : goal.returns-in-Some-clause-none
returns-in-Some-clause-none c =
    let s = c.self.inside.standings.items in
    let found : position is_open s ≡ Some c.in-Some.place = ap (position is_open) (sym c.deref.ensures.value) ∙ sym c.in-Some.ensures in
    rw (← c.self.view_is) (λ e. absurd (none-some (c.in-Some.place + 1) (sym e)), λ all. absurd (not_all_needed s c.in-Some.place found all))

pub returns-in-None-clause-none : goal.returns-in-None-clause-none
returns-in-None-clause-none c =
    let s = c.self.inside.standings.items in
    rw (← c.self.view_is) (λ _. all_needed s (ap (position is_open) (sym c.deref.ensures.value) ∙ sym c.in-None.ensures), λ _. refl)
