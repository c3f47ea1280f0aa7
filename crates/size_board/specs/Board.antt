use Rattle.std.specs.Prelude.{◌≡◌, ℕ, ◌+◌, ◌<◌, ◌≤◌, ◌⊎◌, ◌&&◌, not, nat_lt, nat_le, Bool, false, IsTrue, Option, Some, None, is_none, List, [], ◌∷◌, ◌++◌, if◌then◌else◌}
use Rattle.std.specs.Option.{option_map_or}
use Rattle.letters_and_lassos.specs.declared.kinds.Side.{Side}
use Rattle.letters_and_lassos.specs.declared.kinds.Side.TheVariants.{System, Environment}
use Rattle.machine_model.specs.Machine.{MachineModel, size_of}
use Rattle.size_board.specs.declared.events.Claim.{Claim}
use Rattle.size_board.specs.declared.events.SizeState.{SizeState}
use Rattle.size_board.specs.declared.events.Event.{Event}
use Rattle.size_board.specs.declared.events.Event.TheVariants.{Found}
use Rattle.size_board.specs.Names.{Named, sizes_of, sought_by, SideHas}
use Rattle.size_board.specs.States.{replay}

-- a board: its journal, and for each side the smallest machine that was found, if any (this project's own)
pub record BoardModel : Type 0 where
  pub journal : List Event
  pub system : Option MachineModel
  pub environment : Option MachineModel

abbrev pub empty_board : BoardModel
empty_board = record { journal = []; system = None; environment = None }

-- the state of a size
abbrev pub state_of : BoardModel → Side → ℕ → SizeState
state_of b side size = replay b.journal side size

-- the side's kept machine
abbrev pub machine_of : BoardModel → Side → Option MachineModel
machine_of b System = b.system
machine_of b Environment = b.environment

abbrev pub other_side : Side → Side
other_side System = Environment
other_side Environment = System

-- the size of the side's smallest kept machine, or one more than its number of allowed sizes
abbrev pub high_of : Named → BoardModel → Side → ℕ
high_of names b side = option_map_or size_of (machine_of b side) (sizes_of names side + 1)

-- the least size from 1 on that isn't marked refuted
pub record IsLow (b : BoardModel) (side : Side) (low : ℕ) : Type 0 where
  pub some : 0 < low
  pub unmarked : (state_of b side low).is_refuted ≡ false
  pub below : (n : ℕ) → 0 < n → n < low → IsTrue (state_of b side n).is_refuted

-- a size is open where it is allowed, neither refuted nor full, below its side's high, and no machine of the other
-- side is kept
abbrev pub is_open : Named → BoardModel → Side → ℕ → Bool
is_open names b side size =
    nat_lt 0 size && nat_le size (sizes_of names side) && not (state_of b side size).is_refuted && not (state_of b side size).is_full
    && nat_lt size (high_of names b side) && is_none (machine_of b (other_side side))

-- one claim is to be given rather than another: its size has fewer claims, or as many and it is smaller, or it is
-- the same and the system's
abbrev pub ComesBefore : BoardModel → Claim → Claim → Type 0
ComesBefore b c d =
    ((state_of b c.side c.size).claims < (state_of b d.side d.size).claims)
    ⊎ (((state_of b c.side c.size).claims ≡ (state_of b d.side d.size).claims)
    × ((c.size < d.size) ⊎ ((c.size ≡ d.size) × ((c.side ≡ System) ⊎ (d.side ≡ Environment)))))

-- the claim that is to be given: it is open, and comes before each open one
pub record IsFirstOpenSize (names : Named) (b : BoardModel) (c : Claim) : Type 0 where
  pub open_size : IsTrue (is_open names b c.side c.size)
  pub first : (d : Claim) → IsTrue (is_open names b d.side d.size) → ComesBefore b c d

-- the board with one event more
abbrev pub with_event : BoardModel → Event → BoardModel
with_event b e = record { journal = b.journal ++ e ∷ []; system = b.system; environment = b.environment }

-- the machine that is kept once another one is found: the one that stood, unless the other one is smaller
abbrev pub smaller : Option MachineModel → MachineModel → MachineModel
smaller None m = m
smaller (Some kept) m = if nat_lt (size_of m) (size_of kept) then m else kept

-- the board after a machine of the side is found
abbrev pub with_machine : BoardModel → Side → MachineModel → BoardModel
with_machine b System m = record {
  journal = b.journal ++ Found (record { side = System; size = size_of m }) ∷ [];
  system = Some (smaller b.system m);
  environment = b.environment;
}
with_machine b Environment m = record {
  journal = b.journal ++ Found (record { side = Environment; size = size_of m }) ∷ [];
  system = b.system;
  environment = Some (smaller b.environment m);
}

-- a kept machine is accepted by its side, and its size is allowed and marked found
pub record IsKeptBy (names : Named) (b : BoardModel) (side : Side) (m : MachineModel) : Type 0 where
  pub accepted : SideHas (sought_by names side) (size_of m) m
  pub allowed : size_of m ≤ sizes_of names side
  pub marked : IsTrue (state_of b side (size_of m)).is_found

-- what a board keeps: no accepted machine has a size that is marked refuted, a kept machine is accepted, and none that
-- was found is smaller
pub record IsSoundBoard (names : Named) (b : BoardModel) : Type 0 where
  pub refuted : (side : Side) (n : ℕ) → IsTrue (state_of b side n).is_refuted → (m : MachineModel) → SideHas (sought_by names side) n m → ⊥
  pub kept : (side : Side) (m : MachineModel) → machine_of b side ≡ Some m → IsKeptBy names b side m
  pub smallest : (side : Side) (n : ℕ) → IsTrue (state_of b side n).is_found → high_of names b side ≤ n
