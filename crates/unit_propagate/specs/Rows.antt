use Rattle.std.specs.Prelude.{◌≡◌, ◌≢◌, ℕ, List, [], ◌∷◌, ◌++◌, take, drop, length, slice_set, slice_index_or}
use Rattle.unit_propagate.specs.declared.rows.Watcher.{Watcher}

-- The list of watchers at a place of a table of lists.
abbrev pub row_at : List (List Watcher) → ℕ → List Watcher
row_at rows row = slice_index_or rows row []

-- A watcher is put last in one list.
pub record AddsTo (old new : List (List Watcher)) (row : ℕ) (watcher : Watcher) : Type 0 where
  pub size : length new ≡ length old
  pub here : row_at new row ≡ row_at old row ++ watcher ∷ []
  pub others : (other : ℕ) → other ≢ row → row_at new other ≡ row_at old other

-- A watcher is written at place i of one list.
pub record SetsAt (old new : List (List Watcher)) (row i : ℕ) (watcher : Watcher) : Type 0 where
  pub size : length new ≡ length old
  pub here : row_at new row ≡ slice_set (row_at old row) i watcher
  pub others : (other : ℕ) → other ≢ row → row_at new other ≡ row_at old other

-- The watchers from one place of a list up to another are taken out of it.
pub record CutsOut (old new : List (List Watcher)) (row from to : ℕ) : Type 0 where
  pub size : length new ≡ length old
  pub here : row_at new row ≡ take from (row_at old row) ++ drop to (row_at old row)
  pub others : (other : ℕ) → other ≢ row → row_at new other ≡ row_at old other

-- A watcher is put last in one list, and then one in another.
abbrev pub AddsBoth : List (List Watcher) → List (List Watcher) → ℕ → Watcher → ℕ → Watcher → Type 0
AddsBoth old new first x second y = (between : List (List Watcher)) × AddsTo old between first x × AddsTo between new second y
