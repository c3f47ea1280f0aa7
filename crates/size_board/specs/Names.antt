use Rattle.std.specs.Prelude.{◌≡◌, ℕ, ◌+◌, ◌<◌, ◌≤◌, All, Option, Some, None, [], false}
use Rattle.std.specs.Option.{option_map}
use Rattle.text_limits.specs.declared.TheConstants.{SMALL_LIMITS}
use Rattle.letters_and_lassos.specs.declared.kinds.Kind.{Kind}
use Rattle.letters_and_lassos.specs.declared.kinds.Kind.TheVariants.{Mealy}
use Rattle.letters_and_lassos.specs.declared.kinds.Side.{Side}
use Rattle.letters_and_lassos.specs.declared.kinds.Side.TheVariants.{System, Environment}
use Rattle.machine_model.specs.Machine.{MachineModel, IsMachine, size_of}
use Rattle.machine_model.specs.Automaton.{AutomatonModel, states_of}
use Rattle.machine_model.specs.Accepts.{SideAccepts}
use Rattle.machine_model.specs.Counting.{CountsIn}
use Rattle.machine_model.specs.Problem.{IsProblem, NamesSignals, automaton_of, sized}
use Rattle.machine_model.specs.declared.counting.Counting.{Counting}
use Rattle.machine_model.specs.declared.counting.Counting.TheVariants.{AllRejecting}
use Rattle.machine_model.specs.declared.problems.Problem.{Problem}

-- what a side looks for, whatever the number of states: a machine of this kind over these inputs and outputs that the
-- side's automaton accepts, by base clauses whose numbers count so (bounded synthesis of Finkbeiner and Schewe)
pub record Sought : Type 0 where
  pub automaton : AutomatonModel
  pub inputs : ℕ
  pub outputs : ℕ
  pub side : Side
  pub kind : Kind
  pub counting : Counting

-- what a problem looks for: all of it but its size
abbrev pub sought_of : Problem → Sought
sought_of p = record {
  automaton = automaton_of p;
  inputs = p.inputs;
  outputs = p.outputs;
  side = p.side;
  kind = p.kind;
  counting = p.counting;
}

-- how many signals the machines that are sought read and write
abbrev pub reads_of : Sought → ℕ
reads_of s = elim s.side [ System ↦ s.inputs | Environment ↦ s.outputs ]

abbrev pub writes_of : Sought → ℕ
writes_of s = elim s.side [ System ↦ s.outputs | Environment ↦ s.inputs ]

-- what is sought is within the limits of a problem, whose size apart
pub record IsSearchable (s : Sought) : Type 0 where
  pub inputs : s.inputs ≤ SMALL_LIMITS.signals
  pub outputs : s.outputs ≤ SMALL_LIMITS.signals
  pub states : states_of s.automaton ≤ SMALL_LIMITS.automaton.states
  pub signals : All (NamesSignals (s.inputs + s.outputs)) s.automaton.edges
  pub counting : CountsIn s.automaton s.counting

-- what a board is about: what the system looks for, what the environment looks for, if it looks for anything, and
-- the numbers of allowed sizes, which are the sizes from 1 on (this project's own)
pub record Named : Type 0 where
  pub system : Sought
  pub environment : Option Sought
  pub system_sizes : ℕ
  pub environment_sizes : ℕ

-- what the side looks for
abbrev pub sought_by : Named → Side → Option Sought
sought_by names System = Some names.system
sought_by names Environment = names.environment

-- the side's number of allowed sizes
abbrev pub sizes_of : Named → Side → ℕ
sizes_of names System = names.system_sizes
sizes_of names Environment = names.environment_sizes

-- each side looks for something of its own that is within the limits of a problem
pub record AreSearchable (names : Named) : Type 0 where
  pub system : IsSearchable names.system
  pub of_system : names.system.side ≡ System
  pub environment : (s : Sought) → names.environment ≡ Some s → IsSearchable s
  pub of_environment : (s : Sought) → names.environment ≡ Some s → s.side ≡ Environment

-- what a board is made of: what the two problems look for, each within the limits and of its side, at most as many allowed
-- sizes as machines have states, and none for an absent problem
pub record AreNamed (names : Named) (system : Problem) (environment : Option Problem) (system_sizes environment_sizes : ℕ) : Type 0 where
  pub of_system : names.system ≡ sought_of system
  pub of_environment : names.environment ≡ option_map sought_of environment
  pub system_number : names.system_sizes ≡ system_sizes
  pub environment_number : names.environment_sizes ≡ environment_sizes
  pub few : system_sizes ≤ SMALL_LIMITS.machine
  pub few_of_environment : environment_sizes ≤ SMALL_LIMITS.machine
  pub none_without_problem : environment ≡ None → environment_sizes ≡ 0
  pub searchable : AreSearchable names

-- an accepted machine of n states: one of the kind and the signals that are sought, which the side accepts
pub record IsSoughtMachine (sought : Sought) (n : ℕ) (m : MachineModel) : Type 0 where
  pub machine : IsMachine m
  pub kind : m.kind ≡ sought.kind
  pub size : size_of m ≡ n
  pub reads : m.reads ≡ reads_of sought
  pub writes : m.writes ≡ writes_of sought
  pub accepted : SideAccepts sought.automaton sought.side m

-- the same of a side, which accepts no machine where it looks for none
abbrev pub SideHas : Option Sought → ℕ → MachineModel → Type 0
SideHas None n m = ⊥
SideHas (Some sought) n m = IsSoughtMachine sought n m

-- a side's problem on a board: of that side, it looks for what is named, and with any number of states within the limits it is
-- a problem
pub record IsProblemOn (names : Named) (side : Side) (p : Problem) : Type 0 where
  pub sought : sought_by names side ≡ Some (sought_of p)
  pub side_is : p.side ≡ side
  pub problem : (n : ℕ) → 0 < n → n ≤ SMALL_LIMITS.machine → IsProblem (sized p n)

-- a size's problem: its side's, with so many states
pub record IsProblemAt (names : Named) (side : Side) (size : ℕ) (p : Problem) : Type 0 where
  pub sought : sought_by names side ≡ Some (sought_of p)
  pub side_is : p.side ≡ side
  pub size_is : p.size ≡ size
  pub problem : IsProblem p

-- names of nothing
abbrev pub no_names : Named
no_names = record {
  system = record { automaton = record { edges = []; rejecting = [] }; inputs = 0; outputs = 0; side = System; kind = Mealy; counting = AllRejecting false };
  environment = None;
  system_sizes = 0;
  environment_sizes = 0;
}
