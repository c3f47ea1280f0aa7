-- What the circuit of a machine does (this project's own; runs of machines and of circuits are of textbooks and of AIGER 1.9).
use Rattle.std.specs.Prelude.{◌≡◌, ◌≢◌, ℕ, ◌<◌, ◌≤◌, ◌↔◌, Bool, List, All, Contains, length, map, slice_index}
use Rattle.std.specs.List.{range_with_len}
use Rattle.letters_and_lassos.specs.declared.kinds.Side.{Side}
use Rattle.letters_and_lassos.specs.declared.kinds.Side.TheVariants.{System}
use Rattle.letters_and_lassos.specs.Word.{Word, lasso_len}
use Rattle.letters_and_lassos.specs.Signals.{has}
use Rattle.machine_model.specs.Accepts.{SideAccepts}
use Rattle.machine_model.specs.Machine.{IsMachine, MachineModel, size_of}
use Rattle.machine_model.specs.Problem.{IsMachineOf, automaton_of, sized}
use Rattle.machine_model.specs.Run.{IsRun, IsRunLasso}
use Rattle.machine_model.specs.declared.problems.Problem.{Problem}
use Rattle.aiger_text.specs.Circuit.{Circuit, Valuation, HasStates, IsCircuitRun, Occurs}
use Rattle.gate_build.specs.Table.{latches_of}

-- some valuations make the lasso a run lasso of the circuit
abbrev pub IsRunOfCircuit : Circuit → Side → Word → Type 0
IsRunOfCircuit c side w = (values : ℕ → Valuation) × IsCircuitRun side c w values

-- whichever side the machine plays, a lasso is the letters of one of the circuit's run lassos exactly where it is
-- the letters of one of the machine's
pub record HasTheRunsOf (m : MachineModel) (c : Circuit) : Type 0 where
  pub runs : (side : Side) (w : Word) → IsRunOfCircuit c side w ↔ IsRun m side w

-- the machine, playing this side, is in this state at some position of some run lasso
pub record IsMetFor (side : Side) (m : MachineModel) (state : ℕ) : Type 0 where
  pub word : Word
  pub states : List ℕ
  pub run : IsRunLasso m side word states
  pub at : ℕ
  pub within : at < lasso_len word
  pub state_is : slice_index states at ≡ state

-- the latches' values in a state: latch j has bit j of its number
abbrev pub code_of : MachineModel → ℕ → List Bool
code_of m state = map (has state) (range_with_len 0 (latches_of m))

-- it meets so many states
pub record MeetsStatesFor (side : Side) (m : MachineModel) (n : ℕ) : Type 0 where
  pub states : List ℕ
  pub count : length states ≡ n
  pub different : (i k : ℕ) → i < k → k < length states → slice_index states i ≢ slice_index states k
  pub each_met : All (IsMetFor side m) states
  pub all_there : (state : ℕ) → IsMetFor side m state → Contains states state

-- both as the system's machine: by a law it makes no difference which side the machine plays
abbrev pub IsMet : MachineModel → ℕ → Type 0
IsMet m state = IsMetFor System m state

abbrev pub MeetsStates : MachineModel → ℕ → Type 0
MeetsStates m n = MeetsStatesFor System m n

-- The latches have exactly the values of the states that the machine meets. So the circuit has as many states as the
-- machine meets, and it has a number of states, which isn't above the machine's.
pub record HasTheStatesOf (m : MachineModel) (c : Circuit) : Type 0 where
  pub codes : (latches : List Bool) → Occurs c latches ↔ ((state : ℕ) × IsMet m state × (latches ≡ code_of m state))
  pub number : (n : ℕ) → HasStates c n ↔ MeetsStates m n
  pub some : (n : ℕ) × (n ≤ size_of m) × HasStates c n

-- a machine with as many states as this one meets, and with its kind, its signals and its runs
pub record HasCut (m : MachineModel) : Type 0 where
  pub cut : MachineModel
  pub is_machine : IsMachine cut
  pub kind : cut.kind ≡ m.kind
  pub reads : cut.reads ≡ m.reads
  pub writes : cut.writes ≡ m.writes
  pub meets : MeetsStates m (size_of cut)
  pub few : size_of cut ≤ size_of m
  pub runs : (side : Side) (w : Word) → IsRun cut side w ↔ IsRun m side w

-- each machine can be cut to the states that it meets
abbrev pub MachinesCanBeCut : Type 0
MachinesCanBeCut = (m : MachineModel) → IsMachine m → HasCut m

-- whichever side the machine plays, it meets the same states, and as many
pub record StatesAreOfEitherSide (m : MachineModel) : Type 0 where
  pub met : (side : Side) (state : ℕ) → IsMetFor side m state ↔ IsMet m state
  pub number : (side : Side) (n : ℕ) → MeetsStatesFor side m n ↔ MeetsStates m n

abbrev pub EitherSideMeetsTheStates : Type 0
EitherSideMeetsTheStates = (m : MachineModel) → IsMachine m → StatesAreOfEitherSide m

-- the problem's side accepts the machine, and none of the problem with fewer states; the problem's own size isn't
-- looked at (bounded synthesis of Finkbeiner and Schewe)
pub record IsSmallestOf (p : Problem) (m : MachineModel) : Type 0 where
  pub made : IsMachine m
  pub looked_for : IsMachineOf (sized p (size_of m)) m
  pub accepted : SideAccepts (automaton_of p) p.side m
  pub none_smaller : (n : ℕ) (other : MachineModel) → 1 ≤ n → n < size_of m → IsMachine other → IsMachineOf (sized p n) other
      → SideAccepts (automaton_of p) p.side other → ⊥

-- a smallest machine meets all of its states, and so its circuit has as many; cut to fewer it would be a smaller one
abbrev pub SmallestMeetsAllStates : Type 0
SmallestMeetsAllStates = (p : Problem) (m : MachineModel) → IsSmallestOf p m → MeetsStates m (size_of m)
