use Rattle.std.specs.Prelude.{ℕ, ◌+◌, ◌-◌, ◌==◌, ◌&&◌, Bool, true, false, List, if◌then◌else◌}
use Rattle.std.specs.List.{fold}
use Rattle.letters_and_lassos.specs.declared.kinds.Side.{Side}
use Rattle.letters_and_lassos.specs.contracts.kinds.SidePartialEq.TheImpl.{ghosts as side_ghosts}
use Rattle.size_board.specs.declared.events.Claim.{Claim}
use Rattle.size_board.specs.declared.events.SizeState.{SizeState}
use Rattle.size_board.specs.declared.events.Event.{Event}
use Rattle.size_board.specs.declared.events.Event.TheVariants.{Claimed, Left, Found, Refuted, Full}

-- The state of a size is the replay of the journal's events in their order (this project's own).

-- the size that an event concerns
abbrev pub event_claim : Event → Claim
event_claim (Claimed worker at) = at
event_claim (Left at) = at
event_claim (Found at) = at
event_claim (Refuted at) = at
event_claim (Full at) = at

-- a size before any event: no claims and no mark
abbrev pub fresh : SizeState
fresh = record { claims = 0; is_found = false; is_refuted = false; is_full = false }

-- a size after an event that concerns it
abbrev pub changed : SizeState → Event → SizeState
changed s (Claimed worker at) = record s { claims = s.claims + 1 }
changed s (Left at) = record s { claims = s.claims - 1 }
changed s (Found at) = record s { is_found = true }
changed s (Refuted at) = record s { is_refuted = true }
changed s (Full at) = record s { is_full = true }

-- whether the claim is of this side and size
abbrev pub is_at : Claim → Side → ℕ → Bool
is_at claim side size = side_ghosts.eq claim.side side && (claim.size == size)

-- a size after any event
abbrev pub after_event : Side → ℕ → SizeState → Event → SizeState
after_event side size s e = if is_at (event_claim e) side size then changed s e else s

-- a size after the journal's events
abbrev pub replay : List Event → Side → ℕ → SizeState
replay journal side size = fold (after_event side size) fresh journal
