use Rattle.std.specs.Prelude.{◌==◌, ℕ, Bool, IsTrue}
use Rattle.std.specs.Int.{bit_at}

-- whether signal k is in a set of signals, which is a number: bit k is 1 (this project's own)
abbrev pub has : ℕ → ℕ → Bool
has signals k = bit_at signals k == 1

-- no signal is in both sets (this project's own)
abbrev pub AreApart : ℕ → ℕ → Type 0
AreApart a b = (k : ℕ) → IsTrue (has a k) → IsTrue (has b k) → ⊥
