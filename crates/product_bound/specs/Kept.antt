use Rattle.std.specs.Prelude.{◌≡◌, ℕ, ◌^◌, ◌<◌, ◌≤◌, All, List, Option, Some}
use Rattle.letters_and_lassos.specs.Cube.{Fits}
use Rattle.machine_model.specs.Course.{letter_of}
use Rattle.machine_model.specs.Machine.{MachineModel, next_of}
use Rattle.machine_model.specs.Automaton.{states_of}
use Rattle.machine_model.specs.Problem.{automaton_of}
use Rattle.machine_model.specs.declared.automata.Edge.{Edge}
use Rattle.machine_model.specs.declared.problems.Problem.{Problem}
use Rattle.product_bound.specs.Annotation.{HasNumber, bound_at, number_after, number_at}

-- The rule of a valid annotation, part by part (this project's own).

-- a number, if there is one, is at most the bound
pub record IsWithinBound (bound : ℕ) (number : Option ℕ) : Type 0 where
  pub small : (c : ℕ) → number ≡ Some c → c ≤ bound

-- so it is with each number of the automaton's state q
pub record IsStateWithin (p : Problem) (numbers : List (Option ℕ)) (q : ℕ) : Type 0 where
  pub each : (t : ℕ) → t < p.size → IsWithinBound (bound_at p q) (number_at p numbers t q)

-- and of each state
pub record AreWithin (p : Problem) (numbers : List (Option ℕ)) : Type 0 where
  pub states : (q : ℕ) → q < states_of (automaton_of p) → IsStateWithin p numbers q

-- from the pair (t, q) to the pair (s, r) the number is as an edge from q to r wants it
pub record KeepsNumber (p : Problem) (numbers : List (Option ℕ)) (t q s r : ℕ) : Type 0 where
  pub number : (c : ℕ) → number_at p numbers t q ≡ Some c → HasNumber p numbers s r (number_after p q r c)

-- so it is along this edge, from state t on this read letter, if it fits the whole letter
pub record KeepsEdge (p : Problem) (m : MachineModel) (numbers : List (Option ℕ)) (t read : ℕ) (e : Edge) : Type 0 where
  pub edge : Fits e.cube (letter_of p.side m t read) → KeepsNumber p numbers t e.from (next_of m t read) e.to

-- along each edge
pub record KeepsEdges (p : Problem) (m : MachineModel) (numbers : List (Option ℕ)) (t read : ℕ) : Type 0 where
  pub edges : All (KeepsEdge p m numbers t read) (automaton_of p).edges

-- on each read letter
pub record KeepsLetters (p : Problem) (m : MachineModel) (numbers : List (Option ℕ)) (t : ℕ) : Type 0 where
  pub letters : (read : ℕ) → read < 2 ^ m.reads → KeepsEdges p m numbers t read

-- and from each state of the machine
pub record KeepsStates (p : Problem) (m : MachineModel) (numbers : List (Option ℕ)) : Type 0 where
  pub states : (t : ℕ) → t < p.size → KeepsLetters p m numbers t
