-- Variables that are marked as leading to an input (this project's own).
use Rattle.std.specs.Prelude.{◌≡◌, ℕ, ◌+◌, ◌/◌, ◌||◌, Bool, true, false, List, [], ◌∷◌, Contains, length, slice_index_or, if◌then◌else◌}
use Rattle.aiger_text.specs.declared.circuits.Gate.{Gate}
use Rattle.aiger_text.specs.Circuit.{Circuit}
use Rattle.annot_check.specs.Valid.{LeadsToInput}

-- whether a literal's variable is marked
abbrev pub marked : List Bool → ℕ → Bool
marked leads literal = slice_index_or leads (literal / 2) false

-- how many variables aren't marked
abbrev pub unmarked : List Bool → ℕ
unmarked [] = 0
unmarked (b ∷ bs) = (if b then 0 else 1) + unmarked bs

-- each marked variable leads to an input
pub record AreSound (c : Circuit) (leads : List Bool) : Type 0 where
  pub size : length leads ≡ c.variables + 1
  pub sound : (v : ℕ) → slice_index_or leads v false ≡ true → LeadsToInput c v
  pub inputs : (literal : ℕ) → Contains c.inputs literal → marked leads literal ≡ true

-- a gate with a marked operand is marked
abbrev pub IsClosedAt : List Bool → Gate → Type 0
IsClosedAt leads gate = (marked leads gate.left || marked leads gate.right) ≡ true → marked leads gate.literal ≡ true

pub record AreClosed (c : Circuit) (leads : List Bool) : Type 0 where
  pub gates : (gate : Gate) → Contains c.gates gate → IsClosedAt leads gate
