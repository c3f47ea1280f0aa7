use Rattle.std.specs.Prelude.{◌≡◌, ℕ, ◌<◌, ◌≤◌, Bool, true, false, not, List, Contains, count_by, length, slice_index_or, slice_set}
use Rattle.machine_model.specs.Automaton.{AutomatonModel, states_of}
use Rattle.machine_model.specs.Components.{is_reached}
use Rattle.machine_model.specs.declared.automata.Edge.{Edge}
use Rattle.machine_model.specs.declared.marks.Way.{Way}
use Rattle.machine_model.specs.declared.marks.Way.TheVariants.{Ahead, Behind}

-- How the states are marked that edges lead to, along them or against them (this project's own).

-- the end of an edge that one leaves, and the one that one comes to
abbrev pub source_of : Way → Edge → ℕ
source_of Ahead e = e.from
source_of Behind e = e.to

abbrev pub target_of : Way → Edge → ℕ
target_of Ahead e = e.to
target_of Behind e = e.from

-- whether a path leads this way from state q to state r
abbrev pub is_led : AutomatonModel → Way → ℕ → ℕ → Bool
is_led a Ahead q r = is_reached a (states_of a) q r
is_led a Behind q r = is_reached a (states_of a) r q

abbrev pub is_marked : List Bool → ℕ → Bool
is_marked marks q = slice_index_or marks q false

-- how many states aren't marked
abbrev pub unmarked : List Bool → ℕ
unmarked marks = count_by not marks

-- marks that a path from state q gives all states that it leads to, and no others
pub record AreLedTo (a : AutomatonModel) (way : Way) (q : ℕ) (marks : List Bool) : Type 0 where
  pub places : length marks ≡ states_of a
  pub at : (r : ℕ) → r < states_of a → is_marked marks r ≡ is_led a way q r

-- what holds of marks that hold of an edge's end holds of its other end, too
pub record GoesAlong (way : Way) (edges : List Edge) (good : ℕ → Bool) : Type 0 where
  pub along : (e : Edge) → Contains edges e → good (source_of way e) ≡ true → good (target_of way e) ≡ true

-- a pass along these edges: marks are kept, those that come are behind marked ones, and some come, or the edges lead to no others
pub record IsPass (way : Way) (edges : List Edge) (old new : List Bool) (grows : Bool) : Type 0 where
  pub places : length new ≡ length old
  pub keeps : (r : ℕ) → is_marked old r ≡ true → is_marked new r ≡ true
  pub sound : (good : ℕ → Bool) → GoesAlong way edges good → ((r : ℕ) → is_marked old r ≡ true → good r ≡ true) → (r : ℕ) → is_marked new r ≡ true → good r ≡ true
  pub closed : grows ≡ false → GoesAlong way edges (is_marked new)
  pub fewer : grows ≡ true → unmarked new < unmarked old
  pub most : unmarked new ≤ unmarked old

-- the end that one comes to along a marked edge is marked now, and wasn't
pub record IsNewlyMarked (way : Way) (e : Edge) (old new : List Bool) : Type 0 where
  pub marked : is_marked old (source_of way e) ≡ true
  pub fresh : is_marked old (target_of way e) ≡ false
  pub set : new ≡ slice_set old (target_of way e) true

-- the marks stay as they are, since it is marked, or the end that one leaves isn't
pub record IsLeft (way : Way) (e : Edge) (old new : List Bool) : Type 0 where
  pub same : new ≡ old
  pub along : is_marked old (source_of way e) ≡ true → is_marked old (target_of way e) ≡ true
