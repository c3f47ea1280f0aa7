use Rattle.std.specs.Prelude.{ℕ, ◌^◌, ◌<◌, ◌≤◌, ◌⊎◌, Bool, false, List, length, All, Any, Contains, slice_index_or}
use Rattle.letters_and_lassos.specs.declared.letters.Letter.{Letter}
use Rattle.letters_and_lassos.specs.declared.cubes.Cube.{Cube}
use Rattle.letters_and_lassos.specs.Cube.{Fits}
use Rattle.machine_model.specs.declared.automata.Edge.{Edge}

-- a universal co-Büchi automaton: its edges, and for each state whether it is rejecting; the start is state 0
-- (bounded synthesis of Finkbeiner and Schewe)
pub record AutomatonModel : Type 0 where
  pub edges : List Edge
  pub rejecting : List Bool

-- the number of states
abbrev pub states_of : AutomatonModel → ℕ
states_of a = length a.rejecting

-- whether state q is rejecting
abbrev pub rejects : AutomatonModel → ℕ → Bool
rejects a q = slice_index_or a.rejecting q false

-- both ends of the edge are among n states
pub record JoinsStates (n : ℕ) (e : Edge) : Type 0 where
  pub from : e.from < n
  pub to : e.to < n

-- what every automaton keeps
pub record IsAutomaton (a : AutomatonModel) : Type 0 where
  pub some : 0 < states_of a
  pub few : states_of a < 2 ^ 32
  pub edges : All (JoinsStates (states_of a)) a.edges

-- an edge of the automaton names a state that isn't there
abbrev pub HasBadEdge : AutomatonModel → Type 0
HasBadEdge a = Any (λ e. (states_of a ≤ e.from) ⊎ (states_of a ≤ e.to)) a.edges

-- an edge leads from state q to state r, and its cube fits the letter
pub record HasEdge (a : AutomatonModel) (letter : Letter) (q r : ℕ) : Type 0 where
  pub cube : Cube
  pub stands : Contains a.edges (record { from = q; cube = cube; to = r })
  pub fits : Fits cube letter
