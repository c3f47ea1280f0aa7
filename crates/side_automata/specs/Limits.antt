use Rattle.std.specs.Prelude.{◌≤◌, ℕ, List, All, IfSome}
use Rattle.ltl_formula.specs.declared.nodes.Node.{Node}
use Rattle.ltl_formula.specs.ListSignals.{HasSignalsBelow}
use Rattle.text_limits.specs.declared.TheConstants.{SMALL_LIMITS}
use Rattle.machine_model.specs.Automaton.{AutomatonModel, states_of}
use Rattle.machine_model.specs.Problem.{NamesSignals}
use Rattle.side_automata.specs.declared.automata.Automata.{Automata}

-- an automaton that a problem over n signals may have: of so few states, and its cubes name only the first n signals
pub record FitsProblem (n : ℕ) (a : AutomatonModel) : Type 0 where
  pub states : states_of a ≤ SMALL_LIMITS.automaton.states
  pub signals : All (NamesSignals n) a.edges

-- the automata of both sides are such
pub record FitProblems (n : ℕ) (a : Automata) : Type 0 where
  pub of_system : FitsProblem n a.system
  pub of_environment : IfSome a.environment (FitsProblem n)

-- the automata fit problems over as many signals as the list has
pub record FitProblemsOf (nodes : List Node) (a : Automata) : Type 0 where
  pub fit : (n : ℕ) → HasSignalsBelow n nodes → FitProblems n a
