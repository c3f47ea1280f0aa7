use Rattle.std.specs.Prelude.{◌≡◌, ◌==◌, ℕ, ◌/◌, ◌%◌, ◌<◌, Bool, ◌&&◌, ◌||◌, List, [], length, slice_index_or}
use Rattle.std.specs.List.{list_any}
use Rattle.letters_and_lassos.specs.Signals.{has}
use Rattle.machine_model.specs.Automaton.{AutomatonModel, states_of}
use Rattle.machine_model.specs.Components.{is_reached}
use Rattle.machine_model.specs.declared.automata.Edge.{Edge}
use Rattle.machine_model.specs.declared.reached.StateSet.{StateSet}

-- How it is kept which states are reached from which: a set of states for each state (this project's own).

-- whether state q is in a set of states, of which each word says 64
abbrev pub is_in : List ℕ → ℕ → Bool
is_in words q = has (slice_index_or words (q / 64) 0) (q % 64)

-- the set has this state alone
pub record HasOnly (q : ℕ) (words : List ℕ) : Type 0 where
  pub at : (r : ℕ) → is_in words r ≡ (r == q)

-- the set got one more state
pub record HasAlso (q : ℕ) (old new : List ℕ) : Type 0 where
  pub at : (r : ℕ) → is_in new r ≡ (is_in old r || (r == q))

-- the set got those of the other one, where state k is in it
pub record IsPassed (k : ℕ) (other old new : List ℕ) : Type 0 where
  pub at : (r : ℕ) → is_in new r ≡ (is_in old r || (is_in old k && is_in other r))

-- whether state r is in the set of state q
abbrev pub leads : List StateSet → ℕ → ℕ → Bool
leads sets q r = is_in (slice_index_or sets q (record { words = [] })).words r

-- each of the first n states alone in its set
pub record AreAlone (n : ℕ) (sets : List StateSet) : Type 0 where
  pub places : length sets ≡ n
  pub at : (q r : ℕ) → q < n → leads sets q r ≡ (r == q)

-- whether one of the edges leads from state q to state r
abbrev pub is_edge : List Edge → ℕ → ℕ → Bool
is_edge edges q r = list_any (λ e. (q == e.from) && (r == e.to)) edges

-- the set of each state has the state itself and those that an edge leads to
pub record HasEdges (a : AutomatonModel) (sets : List StateSet) : Type 0 where
  pub places : length sets ≡ states_of a
  pub at : (q r : ℕ) → q < states_of a → leads sets q r ≡ ((r == q) || is_edge a.edges q r)

-- each set that has state k got what the set of state k has
pub record ArePassedOn (k : ℕ) (old new : List StateSet) : Type 0 where
  pub places : length new ≡ length old
  pub at : (q r : ℕ) → q < length old → leads new q r ≡ (leads old q r || (leads old q k && leads old k r))

-- the set of each state has the states that are reached from it
pub record AreReached (a : AutomatonModel) (sets : List StateSet) : Type 0 where
  pub places : length sets ≡ states_of a
  pub at : (q r : ℕ) → q < states_of a → r < states_of a → leads sets q r ≡ is_reached a (states_of a) q r
