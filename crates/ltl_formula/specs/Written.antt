use Rattle.std.specs.Prelude.{◌≡◌, ℕ, List, ◌++◌, Result, MatchResult}
use Rattle.names_and_numbers.specs.Prefix.{IsPrefix}

-- the text went behind old, or only a part of it where the call failed
abbrev pub Writes : {T E : Type 0} → Result T E → List ℕ → List ℕ → List ℕ → Type 0
Writes result old text new = MatchResult result (λ _. new ≡ old ++ text) (λ _. IsPrefix old new)
