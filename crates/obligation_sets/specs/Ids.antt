use Rattle.std.specs.Prelude.{◌==◌, ℕ, suc, ◌<◌, Bool, true, false, List, [], ◌∷◌, length, slice_index_or, slice_set}
use Rattle.std.specs.Cmp.Lexicographic.{pointwise}
use Rattle.std.specs.List.{list_all, list_any}
use Rattle.ltl_formula.specs.declared.nodes.FormulaId.{FormulaId}

-- Among a list of formulas a set of them is its flags, one for each place of the list (this project's own).

-- whether the formula is in the set
abbrev pub has_id : List Bool → FormulaId → Bool
has_id flags f = slice_index_or flags f.0 false

-- the set with this formula too
abbrev pub with_id : List Bool → FormulaId → List Bool
with_id flags f = slice_set flags f.0 true

-- the formulas of the set by rising id, where the flags begin at place k
abbrev pub ids_from : ℕ → List Bool → List FormulaId
ids_from k [] = []
ids_from k (true ∷ flags) = record { 0 = k } ∷ ids_from (suc k) flags
ids_from k (false ∷ flags) = ids_from (suc k) flags

-- the formulas of the set by rising id
abbrev pub ids_of : List Bool → List FormulaId
ids_of flags = ids_from 0 flags

-- whether two ids are the same
abbrev pub same_id : FormulaId → FormulaId → Bool
same_id f g = f.0 == g.0

-- whether two lists of ids are the same
abbrev pub same_ids : List FormulaId → List FormulaId → Bool
same_ids = pointwise same_id

-- the formula is among these
abbrev pub is_among : List FormulaId → FormulaId → Bool
is_among ids f = list_any (λ g. same_id g f) ids

-- each formula of a set is in another
abbrev pub all_among : List FormulaId → List FormulaId → Bool
all_among some ids = list_all (is_among ids) some

-- each id is above those before it
pub record IdsRise (ids : List FormulaId) : Type 0 where
  pub rise : (i j : ℕ) (d : FormulaId) → i < j → j < length ids → (slice_index_or ids i d).0 < (slice_index_or ids j d).0
