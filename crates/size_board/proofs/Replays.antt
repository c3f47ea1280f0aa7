use Rattle.std.proofs.Common.{◌≡◌, ℕ, ◌+◌, ◌≤◌, true, false, cond, List, [], ◌∷◌, ◌++◌, length, refl, arith}
use Rattle.std.proofs.lemmas.List.Sums.{fold-append}
use Rattle.std.specs.List.{fold}
use Rattle.letters_and_lassos.specs.contracts.kinds.SidePartialEq.TheImpl.{ghosts as side_ghosts}
use Rattle.letters_and_lassos.specs.declared.kinds.Side.{Side}
use Rattle.letters_and_lassos.specs.declared.kinds.Side.TheVariants.{System, Environment}
use Rattle.size_board.specs.declared.events.SizeState.{SizeState}
use Rattle.size_board.specs.declared.events.Event.{Event}
use Rattle.size_board.specs.declared.events.Event.TheVariants.{Claimed, Left, Found, Refuted, Full}
use Rattle.size_board.specs.States.{after_event, changed, fresh, is_at, event_claim, replay}

-- one event more is replayed last
pub replay-push : (journal : List Event) (e : Event) (side : Side) (n : ℕ) → replay (journal ++ e ∷ []) side n ≡ after_event side n (replay journal side n) e
replay-push journal e side n = fold-append (after_event side n) fresh journal (e ∷ [])

-- a claim of the same side and size is meant
pub same_side-true : (a b : Side) → side_ghosts.eq a b ≡ true → a ≡ b
same_side-true System System e = refl
same_side-true System Environment e = absurd (cc)
same_side-true Environment System e = absurd (cc)
same_side-true Environment Environment e = refl

pub same_side-self : (a : Side) → side_ghosts.eq a a ≡ true
same_side-self System = refl
same_side-self Environment = refl

-- an event adds at most one claim
changed_claims : (s : SizeState) (e : Event) → (changed s e).claims ≤ s.claims + 1
changed_claims s (Claimed worker at) = omega arith
changed_claims s (Left at) = omega arith
changed_claims s (Found at) = omega arith
changed_claims s (Refuted at) = omega arith
changed_claims s (Full at) = omega arith

after_claims : (side : Side) (n : ℕ) (s : SizeState) (e : Event) → (after_event side n s e).claims ≤ s.claims + 1
after_claims side n s e =
    elim (is_at (event_claim e) side n) as (λ b. (cond b (changed s e) s).claims ≤ s.claims + 1) [ true ↦ changed_claims s e | false ↦ omega arith ]

fold_claims : (side : Side) (n : ℕ) (s : SizeState) (journal : List Event) → (fold (after_event side n) s journal).claims ≤ s.claims + length journal
fold_claims side n s [] = omega arith
fold_claims side n s (e ∷ journal) =
    omega (arith, fold_claims side n (after_event side n s e) journal, after_claims side n s e)

-- so there are no more claims than events
pub replay_claims : (journal : List Event) (side : Side) (n : ℕ) → (replay journal side n).claims ≤ length journal
replay_claims journal side n = omega (arith, fold_claims side n fresh journal)
