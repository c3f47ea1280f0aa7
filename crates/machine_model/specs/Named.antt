use Rattle.std.specs.Prelude.{◌≡◌, ℕ, ◌+◌, ◌<◌, ◌≤◌, Bool, true, false, ◌&&◌, List, length, slice_index_or, sum, take, if◌then◌else◌}
use Rattle.machine_model.specs.Automaton.{AutomatonModel, IsAutomaton, states_of}
use Rattle.machine_model.specs.Components.{are_joined, local_count, turns}
use Rattle.machine_model.specs.Reached.{leads}
use Rattle.machine_model.specs.declared.reached.StateSet.{StateSet}

-- How components are found: their names, and what is counted by these (this project's own).

-- whether each of two states is in the other's set
abbrev pub lead_both_ways : List StateSet → ℕ → ℕ → Bool
lead_both_ways sets q r = leads sets q r && leads sets r q

-- the least number below q that passes the test, or q
pub record IsLeastBelow (test : ℕ → Bool) (q least : ℕ) : Type 0 where
  pub within : least ≤ q
  pub passes : least < q → test least ≡ true
  pub others : (r : ℕ) → r < least → test r ≡ false

-- each state has the name of its component, its least state
pub record AreNamed (a : AutomatonModel) (names : List ℕ) : Type 0 where
  pub whole : IsAutomaton a
  pub places : length names ≡ states_of a
  pub at : (q : ℕ) → q < states_of a → IsLeastBelow (are_joined a q) q (slice_index_or names q 0)

-- at the name of each state's component stands whether it turns
pub record AreTurning (a : AutomatonModel) (names : List ℕ) (marks : List Bool) : Type 0 where
  pub places : length marks ≡ states_of a
  pub at : (q : ℕ) → q < states_of a → slice_index_or marks (slice_index_or names q 0) false ≡ turns a q

-- each state has the number of rejecting states that a run in its component can meet
pub record AreCounted (a : AutomatonModel) (counts : List ℕ) : Type 0 where
  pub places : length counts ≡ states_of a
  pub at : (q : ℕ) → q < states_of a → slice_index_or counts q 0 ≡ local_count a q

-- for each number of counts stands the sum of the first so many
pub record AreSums (counts sums : List ℕ) : Type 0 where
  pub places : length sums ≡ length counts + 1
  pub at : (k : ℕ) → k ≤ length counts → slice_index_or sums k 0 ≡ sum (take k counts)

-- the states of the component of state q got the name q (this project's own)
pub record IsOneMore (a : AutomatonModel) (q : ℕ) (old new : List ℕ) : Type 0 where
  pub places : length new ≡ length old
  pub at : (r : ℕ) → r < states_of a → slice_index_or new r 0 ≡ (if are_joined a q r then q else slice_index_or old r 0)

-- what a state is called once each component with a state below q has its name: the least state of its component, or, where that isn't
-- below q, no state's number
pub data IsNameSoFar (a : AutomatonModel) (q r name : ℕ) : Type 0 where
  named : name < q → are_joined a r name ≡ true → ((s : ℕ) → s < name → are_joined a r s ≡ false) → IsNameSoFar a q r name
  unnamed : name ≡ states_of a → ((s : ℕ) → s < q → are_joined a r s ≡ false) → IsNameSoFar a q r name

-- so it is with each state
pub record AreNamesBelow (a : AutomatonModel) (q : ℕ) (names : List ℕ) : Type 0 where
  pub places : length names ≡ states_of a
  pub at : (r : ℕ) → r < states_of a → IsNameSoFar a q r (slice_index_or names r 0)
