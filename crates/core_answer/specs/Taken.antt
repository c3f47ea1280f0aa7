-- What becomes of the documents once one more is known (this project's own).
use Rattle.std.specs.Prelude.{ℕ, Bool, true, false, List, [], ◌∷◌, ◌++◌}

-- one that defeats stands for fewer guarantees
abbrev pub document_taken : Bool → List ℕ → List ℕ → List ℕ
document_taken true bytes document = bytes
document_taken false bytes document = document

-- those of needed guarantees say nothing of fewer
abbrev pub others_taken : Bool → List ℕ → List (List ℕ) → List (List ℕ)
others_taken true bytes others = []
others_taken false bytes others = others ++ bytes ∷ []
