-- Bytes that are cut at a byte, and where a code of the crate cuts them.
use Rattle.std.specs.Prelude.{◌≡◌, ◌==◌, ℕ, List, ◌∷◌}
use Rattle.std.specs.List.{slice_split}

-- the parts before, between and behind the bytes that are `mark`
abbrev pub parts_at : ℕ → List ℕ → List (List ℕ)
parts_at mark bytes = slice_split (λ b. b == mark) bytes

-- the first part, and the bytes behind the mark that ends it
abbrev pub IsCut : ℕ → List ℕ → List ℕ → List ℕ → Type 0
IsCut mark bytes first behind = parts_at mark bytes ≡ first ∷ parts_at mark behind
