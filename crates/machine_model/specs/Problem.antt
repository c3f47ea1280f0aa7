use Rattle.std.specs.Prelude.{◌≡◌, ℕ, ◌+◌, ◌^◌, ◌<◌, ◌≤◌, All, Bool}
use Rattle.std.specs.Arc.{arc_value}
use Rattle.letters_and_lassos.specs.declared.kinds.Kind.{Kind}
use Rattle.letters_and_lassos.specs.declared.kinds.Side.{Side}
use Rattle.letters_and_lassos.specs.declared.kinds.Side.TheVariants.{System, Environment}
use Rattle.text_limits.specs.declared.Limits.{Limits}
use Rattle.text_limits.specs.declared.TheConstants.{SMALL_LIMITS}
use Rattle.machine_model.specs.Machine.{MachineModel, size_of}
use Rattle.machine_model.specs.Automaton.{AutomatonModel, states_of}
use Rattle.machine_model.specs.Counting.{CountsIn, is_local, is_numbered}
use Rattle.machine_model.specs.declared.automata.Edge.{Edge}
use Rattle.machine_model.specs.declared.counting.Counting.{Counting}
use Rattle.machine_model.specs.declared.problems.Problem.{Problem}

-- the automaton of the problem's side
abbrev pub automaton_of : Problem → AutomatonModel
automaton_of p = arc_value p.automaton

-- whether its annotations count by component
abbrev pub counts_locally : Problem → Bool
counts_locally p = is_local p.counting

-- whether its machines' states are numbered
abbrev pub numbers_states : Problem → Bool
numbers_states p = is_numbered p.counting

-- what a problem says, apart from where its automaton is kept
pub record Parts : Type 0 where
  pub automaton : AutomatonModel
  pub inputs : ℕ
  pub outputs : ℕ
  pub side : Side
  pub kind : Kind
  pub size : ℕ
  pub counting : Counting

abbrev pub parts_of : Problem → Parts
parts_of p = record {
  automaton = automaton_of p;
  inputs = p.inputs;
  outputs = p.outputs;
  side = p.side;
  kind = p.kind;
  size = p.size;
  counting = p.counting;
}

-- the same problem for another number of states
abbrev pub sized : Problem → ℕ → Problem
sized p n = record p { size = n }

-- how many signals the problem's machines read
abbrev pub reads_of : Problem → ℕ
reads_of p = elim p.side [ System ↦ p.inputs | Environment ↦ p.outputs ]

-- how many signals the problem's machines write
abbrev pub writes_of : Problem → ℕ
writes_of p = elim p.side [ System ↦ p.outputs | Environment ↦ p.inputs ]

-- the edge's cube names only the first n signals
pub record NamesSignals (n : ℕ) (e : Edge) : Type 0 where
  pub must : e.cube.must < 2 ^ n
  pub none_of : e.cube.not < 2 ^ n

-- a problem within limits
pub record IsProblemIn (limits : Limits) (p : Problem) : Type 0 where
  pub inputs : p.inputs ≤ limits.signals
  pub outputs : p.outputs ≤ limits.signals
  pub some : 1 ≤ p.size
  pub size : p.size ≤ limits.machine
  pub states : states_of (automaton_of p) ≤ limits.automaton.states
  pub signals : All (NamesSignals (p.inputs + p.outputs)) (automaton_of p).edges
  pub counting : CountsIn (automaton_of p) p.counting

-- one within the limits of every call that takes a problem (this project's own)
abbrev pub IsProblem : Problem → Type 0
IsProblem p = IsProblemIn SMALL_LIMITS p

-- a machine that the problem looks for: of its kind, its size and its signals
pub record IsMachineOf (p : Problem) (m : MachineModel) : Type 0 where
  pub kind : m.kind ≡ p.kind
  pub size : size_of m ≡ p.size
  pub reads : m.reads ≡ reads_of p
  pub writes : m.writes ≡ writes_of p

-- one problem is within the limits where the other is, and looks for the same machines
pub record AreAlike (p q : Problem) : Type 0 where
  pub problem : IsProblem p → IsProblem q
  pub machines : (m : MachineModel) → IsMachineOf p m → IsMachineOf q m

-- so it is where they say the same, wherever their automata are kept
abbrev pub EqualPartsAreAlike : Type 0
EqualPartsAreAlike = (p q : Problem) → parts_of p ≡ parts_of q → AreAlike p q
