-- The automaton of states that are named by what they are, a set of obligations and a counter, as far as a list names them (bounded
-- synthesis of Finkbeiner and Schewe; that it is cut off where the list ends is this project's own).
use Rattle.std.specs.Prelude.{◌==◌, ℕ, suc, false, List, [], ◌∷◌, ◌++◌, length, map, unwrap_or}
use Rattle.std.specs.List.{position}
use Rattle.ltl_formula.specs.declared.nodes.FormulaId.{FormulaId}
use Rattle.ltl_formula.specs.declared.nodes.Node.{Node}
use Rattle.obligation_sets.specs.declared.sets.Covering.{Covering}
use Rattle.obligation_sets.specs.declared.sets.Cover.{Cover}
use Rattle.obligation_sets.specs.Reduced.{covers_by}
use Rattle.machine_model.specs.declared.automata.Edge.{Edge}
use Rattle.machine_model.specs.Automaton.{AutomatonModel}
use Rattle.cobuchi_build.specs.declared.exploring.State.{State}
use Rattle.cobuchi_build.specs.Explored.{same_state, state_after}
use Rattle.cobuchi_build.specs.Occurring.{untils_of}
use Rattle.annot_check.specs.Pairs.{Listed}

-- the number of a state: its place in the list, or that of the last state, which stands for all that aren't named
abbrev pub number_of_state : List State → State → ℕ
number_of_state states state = unwrap_or (position (same_state state) states) (length states)

-- the edge of one cover of state n, which has this counter
abbrev pub edge_of : List FormulaId → List State → ℕ → ℕ → Cover → Edge
edge_of untils states n counter cover = record {
  from = n;
  cube = cover.cube;
  to = number_of_state states (state_after untils counter cover);
}

-- the edges of state n: one for each of the reduced covers of its set
abbrev pub edges_at : List Node → List FormulaId → List State → ℕ → State → List Edge
edges_at ns untils states n state = map (edge_of untils states n state.counter) (covers_by Covering.Reduced ns state.set)

-- the edges of some states, the first of which is state n
abbrev pub edges_from : List Node → List FormulaId → List State → ℕ → List State → List Edge
edges_from ns untils states n [] = []
edges_from ns untils states n (state ∷ more) = edges_at ns untils states n state ++ edges_from ns untils states (suc n) more

-- the automaton of these states and of one more, the last, which isn't rejecting and has no edges; a state is rejecting where its
-- counter is the number of the formula's untils
abbrev pub automaton_over : List Node → FormulaId → List State → AutomatonModel
automaton_over ns f states = record {
  edges = edges_from ns (untils_of ns f) states 0 states;
  rejecting = map (λ state. state.counter == length (untils_of ns f)) states ++ false ∷ [];
}

-- what a text names and lists: states, their automaton, and pairs of latch values and these states' numbers
pub record Named : Type 0 where
  pub states : List State
  pub automaton : AutomatonModel
  pub list : Listed
