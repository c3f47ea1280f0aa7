use Rattle.std.specs.Prelude.{◌≡◌, ℕ, ◌+◌, ◌<◌, ◌≤◌, ◌&&◌, nat_lt, IsTrue, Option, Some, None, List, length, slice_index_or, if◌then◌else◌}
use Rattle.text_limits.specs.declared.TheConstants.{SMALL_LIMITS}
use Rattle.machine_model.specs.Machine.{MachineModel}
use Rattle.size_board.specs.declared.events.Claim.{Claim}
use Rattle.size_board.specs.declared.events.Event.TheVariants.{Claimed, Left, Found, Refuted, Full}
use Rattle.letters_and_lassos.specs.declared.kinds.Side.{Side}
use Rattle.letters_and_lassos.specs.declared.kinds.Side.TheVariants.{System, Environment}
use Rattle.machine_model.specs.declared.problems.Problem.{Problem}
use Rattle.size_board.specs.declared.events.SizeState.{SizeState}
use Rattle.size_board.specs.declared.events.Event.{Event}
use Rattle.size_board.specs.Names.{Named, AreNamed, SideHas, sizes_of, sought_by}
use Rattle.size_board.specs.States.{fresh, replay}
use Rattle.size_board.specs.Board.{BoardModel, IsSoundBoard, is_open, state_of}

-- the states of a side's sizes, as many as machines have states at most, that of size 1 first
pub record AreStates (journal : List Event) (side : Side) (states : List SizeState) : Type 0 where
  pub places : length states ≡ SMALL_LIMITS.machine
  pub each : (k : ℕ) → k < SMALL_LIMITS.machine → slice_index_or states k fresh ≡ replay journal side (k + 1)

-- what a board's fields keep
pub record AreKept (names : Named) (b : BoardModel) (system_states environment_states : List SizeState) (system : Problem) (environment : Option Problem) (system_sizes environment_sizes : ℕ) : Type 0 where
  pub sound : IsSoundBoard names b
  pub of_system : AreStates b.journal System system_states
  pub of_environment : AreStates b.journal Environment environment_states
  pub named : AreNamed names system environment system_sizes environment_sizes
  pub refuted_allowed : (side : Side) (n : ℕ) → IsTrue (state_of b side n).is_refuted → n ≤ sizes_of names side

-- an event that leaves the kept machines as they are, and marks no size refuted but an allowed one without an accepted machine
abbrev pub Allows : Named → Event → Type 0
Allows names (Claimed worker at) = Unit {0}
Allows names (Left at) = Unit {0}
Allows names (Found at) = ⊥
Allows names (Refuted at) = (at.size ≤ sizes_of names at.side) × ((m : MachineModel) → SideHas (sought_by names at.side) at.size m → ⊥)
Allows names (Full at) = Unit {0}

-- the first of some open sizes, or the next one where it is open and has fewer claims
abbrev pub earlier : Named → BoardModel → Option Claim → Claim → Option Claim
earlier names b None next = if is_open names b next.side next.size then Some next else None
earlier names b (Some c) next =
    if is_open names b next.side next.size && nat_lt (state_of b next.side next.size).claims (state_of b c.side c.size).claims then Some next else Some c
