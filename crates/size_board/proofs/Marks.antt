use Rattle.std.proofs.Common.{◌≡◌, ℕ, true, refl, ap, inl, inr, ◌⊎◌}
use Rattle.std.proofs.lemmas.Bool.{cond_both, cond-true, and_parts, and_from, eqb-true, eq-eqb}
use Rattle.letters_and_lassos.specs.declared.kinds.Side.{Side}
use Rattle.size_board.specs.declared.events.Claim.{Claim}
use Rattle.size_board.specs.declared.events.SizeState.{SizeState}
use Rattle.size_board.specs.declared.events.Event.{Event}
use Rattle.size_board.specs.declared.events.Event.TheVariants.{Claimed, Left, Found, Refuted, Full}
use Rattle.size_board.specs.States.{after_event, changed, is_at, event_claim}
use Rattle.size_board.proofs.Replays.{same_side-true, same_side-self}

-- an event that refutes, or that finds
abbrev pub Refutes : Event → Type 0
Refutes (Claimed worker at) = ⊥
Refutes (Left at) = ⊥
Refutes (Found at) = ⊥
Refutes (Refuted at) = Unit {0}
Refutes (Full at) = ⊥

abbrev pub Finds : Event → Type 0
Finds (Claimed worker at) = ⊥
Finds (Left at) = ⊥
Finds (Found at) = Unit {0}
Finds (Refuted at) = ⊥
Finds (Full at) = ⊥

changed_refuted : (s : SizeState) (e : Event) → (changed s e).is_refuted ≡ true → (s.is_refuted ≡ true) ⊎ Refutes e
changed_refuted s (Claimed worker at) is = inl is
changed_refuted s (Left at) is = inl is
changed_refuted s (Found at) is = inl is
changed_refuted s (Refuted at) is = inr tt
changed_refuted s (Full at) is = inl is

changed_found : (s : SizeState) (e : Event) → (changed s e).is_found ≡ true → (s.is_found ≡ true) ⊎ Finds e
changed_found s (Claimed worker at) is = inl is
changed_found s (Left at) is = inl is
changed_found s (Found at) is = inr tt
changed_found s (Refuted at) is = inl is
changed_found s (Full at) is = inl is

changed_stays : (s : SizeState) (e : Event) → s.is_found ≡ true → (changed s e).is_found ≡ true
changed_stays s (Claimed worker at) is = is
changed_stays s (Left at) is = is
changed_stays s (Found at) is = refl
changed_stays s (Refuted at) is = is
changed_stays s (Full at) is = is

-- an event that is of this side and size
pub record IsOf (e : Event) (side : Side) (n : ℕ) : Type 0 where
  pub side_is : (event_claim e).side ≡ side
  pub size_is : (event_claim e).size ≡ n

is_of : (e : Event) (side : Side) (n : ℕ) → is_at (event_claim e) side n ≡ true → IsOf e side n
is_of e side n is =
    let parts = and_parts _ _ is in
    record { side_is = same_side-true (event_claim e).side side parts.0; size_is = eqb-true (event_claim e).size n parts.1 }

module _ (side : Side) (n : ℕ) (s : SizeState) (e : Event) where
  -- a size is marked by an event of its own alone
  pub refuted_by : (after_event side n s e).is_refuted ≡ true → (s.is_refuted ≡ true) ⊎ (Refutes e × IsOf e side n)
  refuted_by =
      cond_both (is_at (event_claim e) side n) (changed s e) s (λ x. x.is_refuted ≡ true → (s.is_refuted ≡ true) ⊎ (Refutes e × IsOf e side n))
      (λ here is. elim (changed_refuted s e is) [ inl old ↦ inl old | inr new ↦ inr (new, is_of e side n here) ])
      (λ away is. inl is)

  pub found_by : (after_event side n s e).is_found ≡ true → (s.is_found ≡ true) ⊎ (Finds e × IsOf e side n)
  found_by =
      cond_both (is_at (event_claim e) side n) (changed s e) s (λ x. x.is_found ≡ true → (s.is_found ≡ true) ⊎ (Finds e × IsOf e side n))
      (λ here is. elim (changed_found s e is) [ inl old ↦ inl old | inr new ↦ inr (new, is_of e side n here) ])
      (λ away is. inl is)

  -- and stays so
  pub found_stays : s.is_found ≡ true → (after_event side n s e).is_found ≡ true
  found_stays is =
      cond_both (is_at (event_claim e) side n) (changed s e) s (λ x. x.is_found ≡ true) (λ here. changed_stays s e is) (λ away. is)

-- a size that is told as found is marked
pub found_here : (side : Side) (n : ℕ) (s : SizeState) → (after_event side n s (Found (record { side = side; size = n }))).is_found ≡ true
found_here side n s =
    let at : Claim = record { side = side; size = n } in
    ap (λ (x : SizeState). x.is_found) (cond-true (is_at at side n) (changed s (Found at)) s (and_from _ _ (same_side-self side) (eq-eqb n n refl)))
