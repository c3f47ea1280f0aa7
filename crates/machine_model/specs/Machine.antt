use Rattle.std.specs.Prelude.{◌≡◌, ◌≢◌, ℕ, ◌+◌, ◌*◌, ◌/◌, ◌%◌, ◌^◌, ◌<◌, ◌≤◌, ◌⊎◌, List, [], length, Any, slice_index_or}
use Rattle.letters_and_lassos.specs.declared.kinds.Kind.{Kind}
use Rattle.letters_and_lassos.specs.declared.kinds.Kind.TheVariants.{Moore}
use Rattle.text_limits.specs.declared.TheConstants.{LARGE_LIMITS}
use Rattle.machine_model.specs.declared.machines.Row.{Row}
use Rattle.machine_model.specs.declared.machines.MachineFault.{MachineFault}
use Rattle.machine_model.specs.declared.machines.MachineFault.TheVariants.{WrongShape, NextOut, WriteOut, NotMoore}

-- a machine: how it writes, how many signals it reads and writes, and a row for each state and read letter,
-- that of state t on letter i at the place t * 2 ^ reads + i (textbooks of automata: Mealy and Moore machines)
pub record MachineModel : Type 0 where
  pub kind : Kind
  pub reads : ℕ
  pub writes : ℕ
  pub table : List Row

-- the number of states
abbrev pub size_of : MachineModel → ℕ
size_of m = length m.table / 2 ^ m.reads

-- the row of state t on read letter i
abbrev pub row_of : MachineModel → ℕ → ℕ → Row
row_of m t i = slice_index_or m.table (t * 2 ^ m.reads + i) (record { next = 0; writes = 0 })

-- the letter that the row at place k of a table writes
abbrev pub writes_in : List Row → ℕ → ℕ
writes_in table k = (slice_index_or table k (record { next = 0; writes = 0 })).writes

-- the state after state t on read letter i
abbrev pub next_of : MachineModel → ℕ → ℕ → ℕ
next_of m t i = (row_of m t i).next

-- the letter that state t writes on read letter i
abbrev pub writes_of : MachineModel → ℕ → ℕ → ℕ
writes_of m t i = (row_of m t i).writes

-- there is at least one state, and each has a row for each read letter
pub record HasShape (m : MachineModel) : Type 0 where
  pub some : m.table ≢ []
  pub whole : length m.table ≡ size_of m * 2 ^ m.reads

-- each next state is one of the machine
abbrev pub NextsAreStates : MachineModel → Type 0
NextsAreStates m = (t i : ℕ) → t < size_of m → i < 2 ^ m.reads → next_of m t i < size_of m

-- each written letter has signals of the machine alone
abbrev pub WritesAreLetters : MachineModel → Type 0
WritesAreLetters m = (t i : ℕ) → t < size_of m → i < 2 ^ m.reads → writes_of m t i < 2 ^ m.writes

-- a state writes the same on every read letter
abbrev pub WritesByState : MachineModel → Type 0
WritesByState m = (t i j : ℕ) → t < size_of m → i < 2 ^ m.reads → j < 2 ^ m.reads → writes_of m t i ≡ writes_of m t j

-- a machine of any size: its table is whole, in range, and of its kind
pub record IsMachine (m : MachineModel) : Type 0 where
  pub shape : HasShape m
  pub nexts : NextsAreStates m
  pub letters : WritesAreLetters m
  pub moore : m.kind ≡ Moore → WritesByState m

-- a machine that the program keeps: one of so few signals, and of fewer than 2 ^ 32 rows (limits of this project)
pub record IsKeptMachine (m : MachineModel) : Type 0 where
  pub machine : IsMachine m
  pub reads : m.reads ≤ LARGE_LIMITS.signals
  pub writes : m.writes ≤ LARGE_LIMITS.signals
  pub rows : length m.table < 2 ^ 32

-- the table is empty, or ends within a state's rows
abbrev pub IsMisshaped : MachineModel → Type 0
IsMisshaped m = (m.table ≡ []) ⊎ (length m.table % 2 ^ m.reads ≢ 0)

-- some row leads to a state that isn't there
abbrev pub HasNextOut : MachineModel → Type 0
HasNextOut m = Any (λ row. size_of m ≤ row.next) m.table

-- some row writes a signal that isn't there
abbrev pub HasWriteOut : MachineModel → Type 0
HasWriteOut m = Any (λ row. 2 ^ m.writes ≤ row.writes) m.table

-- two rows of one state write differently
pub record WritesByLetter (m : MachineModel) : Type 0 where
  pub state : ℕ
  pub one : ℕ
  pub other : ℕ
  pub is_state : state < size_of m
  pub one_is_letter : one < 2 ^ m.reads
  pub other_is_letter : other < 2 ^ m.reads
  pub differ : writes_of m state one ≢ writes_of m state other

-- why a table is no machine: of the four faults the first that applies
abbrev pub IsRefused : MachineModel → MachineFault → Type 0
IsRefused m WrongShape = IsMisshaped m
IsRefused m NextOut = HasShape m × HasNextOut m
IsRefused m WriteOut = HasShape m × NextsAreStates m × HasWriteOut m
IsRefused m NotMoore = HasShape m × NextsAreStates m × WritesAreLetters m × (m.kind ≡ Moore) × WritesByLetter m
