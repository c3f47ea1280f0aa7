-- Values of variables kept in a list (this project's own).
use Rattle.std.specs.Prelude.{◌≡◌, ◌≢◌, ℕ, ◌/◌, ◌%◌, ◌<◌, ◌&&◌, Bool, false, List, length, All, slice_index, slice_index_or}
use Rattle.aiger_text.specs.declared.circuits.Gate.{Gate}
use Rattle.aiger_text.specs.Circuit.{Valuation, literal_value}

-- variable v has the value at place v
abbrev pub valuation : List Bool → Valuation
valuation values v = slice_index_or values v false

-- even literals of different variables, which have places in a list of n values
pub record AreVariables (n : ℕ) (literals : List ℕ) : Type 0 where
  pub even : (i : ℕ) → i < length literals → slice_index literals i % 2 ≡ 0
  pub some : (i : ℕ) → i < length literals → 0 < slice_index literals i / 2
  pub room : (i : ℕ) → i < length literals → slice_index literals i / 2 < n
  pub apart : (i k : ℕ) → i < k → k < length literals → slice_index literals i / 2 ≢ slice_index literals k / 2

-- literals whose variables have places in a list of n values
abbrev pub HaveRoom : ℕ → List ℕ → Type 0
HaveRoom n literals = (i : ℕ) → i < length literals → slice_index literals i / 2 < n

-- the variables of the literals have these values, and each other variable keeps its own
pub record Puts (literals : List ℕ) (bits old new : List Bool) : Type 0 where
  pub set : (i : ℕ) → i < length literals → slice_index_or new (slice_index literals i / 2) false ≡ slice_index_or bits i false
  pub others : (v : ℕ) → ((i : ℕ) → i < length literals → slice_index literals i / 2 ≢ v) → slice_index_or new v false ≡ slice_index_or old v false

-- the gate has the value of its operands' and
abbrev pub Agrees : Valuation → Gate → Type 0
Agrees values gate = literal_value values gate.literal ≡ (literal_value values gate.left && literal_value values gate.right)

-- every gate agrees, and each variable that no gate has keeps its value
pub record Settles (gates : List Gate) (old new : List Bool) : Type 0 where
  pub agree : All (Agrees (valuation new)) gates
  pub others : (v : ℕ) → ((i : ℕ) → i < length gates → (slice_index_or gates i (record { literal = 0; left = 0; right = 0 })).literal / 2 ≢ v) → slice_index_or new v false ≡ slice_index_or old v false
