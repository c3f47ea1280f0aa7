use Rattle.std.proofs.Common.{◌≡◌, ℕ, ◌+◌, ◌<◌, ◌≤◌, ◌^◌, List, length, get_or, ap, arith}
use Rattle.letters_and_lassos.specs.declared.kinds.Side.{Side}
use Rattle.size_board.specs.declared.events.SizeState.{SizeState}
use Rattle.size_board.specs.declared.events.Event.{Event}
use Rattle.size_board.specs.States.{after_event, fresh, replay}
use Rattle.size_board.specs.Kept.{AreStates}
use Rattle.size_board.proofs.Replays.{replay_claims}

-- the states before place i are those after the event, the others as they were
pub record IsUpdated (side : Side) (event : Event) (old new : List SizeState) (i : ℕ) : Type 0 where
  pub done : (k : ℕ) → k < i → get_or new k fresh ≡ after_event side (k + 1) (get_or old k fresh) event
  pub rest : (k : ℕ) → i ≤ k → get_or new k fresh ≡ get_or old k fresh

-- the claims of a state are at most as many as the events, which are in memory
pub claims_fit : (journal : List Event) (side : Side) (states : List SizeState) (len cap k : ℕ) → AreStates journal side states → len ≡ length journal → len ≤ cap → cap < 2 ^ 63
    → k < length states → (get_or states k fresh).claims + 1 < 2 ^ 64
claims_fit journal side states len cap k are is within fits inside =
    let places : length states ≡ 8 = are.places in
    let same : (get_or states k fresh).claims ≡ (replay journal side (k + 1)).claims = ap (λ (s : SizeState). s.claims) (are.each k (omega (arith, places, inside))) in
    omega (arith, same, is, within, fits, replay_claims journal side (k + 1))
