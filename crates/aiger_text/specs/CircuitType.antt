-- What a circuit keeps, whoever made it (AIGER 1.9).
use Rattle.std.specs.Prelude.{◌≡◌, ◌≢◌, ℕ, ◌+◌, ◌*◌, ◌/◌, ◌%◌, ◌<◌, ◌≤◌, ◌⊎◌, List, [], ◌∷◌, ◌++◌, map, length, All, Contains, flat_map, slice_index, slice_index_or}
use Rattle.aiger_text.specs.declared.circuits.Gate.{Gate}
use Rattle.aiger_text.specs.Circuit.{Circuit}

-- the literals that input, latch and gate lines define
abbrev pub defined_literals : Circuit → List ℕ
defined_literals c = c.inputs ++ (map (λ latch. latch.literal) c.latches ++ map (λ gate. gate.literal) c.gates)

-- the literals that latch, output and gate lines use
abbrev pub used_literals : Circuit → List ℕ
used_literals c =
    map (λ latch. latch.next) c.latches ++ (c.outputs ++ flat_map (λ gate. gate.left ∷ gate.right ∷ []) c.gates)

-- an even literal of a variable that the header allows
pub record IsDefinable (c : Circuit) (literal : ℕ) : Type 0 where
  pub even : literal % 2 ≡ 0
  pub a_variable : literal ≢ 0
  pub in_range : literal ≤ 2 * c.variables + 1

-- a constant or a literal of a variable that a line defines
pub record IsDefined (c : Circuit) (literal : ℕ) : Type 0 where
  pub in_range : literal ≤ 2 * c.variables + 1
  pub defined : (literal / 2 ≡ 0) ⊎ Contains (defined_literals c) (2 * (literal / 2))

-- one variable's value hangs on the other's through gates
pub data DependsOn (gates : List Gate) : ℕ → ℕ → Type 0 where
  left : (gate : Gate) → Contains gates gate → DependsOn gates (gate.literal / 2) (gate.left / 2)
  right : (gate : Gate) → Contains gates gate → DependsOn gates (gate.literal / 2) (gate.right / 2)
  through : (a b c : ℕ) → DependsOn gates a b → DependsOn gates b c → DependsOn gates a c

-- What every circuit keeps: each variable is defined at most once and defined where it is used, none depends on
-- itself through gates, and there is a place for a name of each input and each output.
pub record IsCircuit (c : Circuit) : Type 0 where
  pub room : length c.inputs + (length c.latches + length c.gates) ≤ c.variables
  pub definable : All (IsDefinable c) (defined_literals c)
  pub once : (i k : ℕ) → i < k → k < length (defined_literals c) →
      slice_index (defined_literals c) i ≢ slice_index (defined_literals c) k
  pub all_defined : All (IsDefined c) (used_literals c)
  pub no_cycle : (v : ℕ) → DependsOn c.gates v v → ⊥
  pub input_places : length c.input_names ≡ length c.inputs
  pub output_places : length c.output_names ≡ length c.outputs

-- the gate at a place
abbrev pub gate_at : List Gate → ℕ → Gate
gate_at gates k = slice_index_or gates k (record { literal = 0; left = 0; right = 0 })

-- the gate doesn't use this variable
pub record Spares (gate : Gate) (variable : ℕ) : Type 0 where
  pub left : gate.left / 2 ≢ variable
  pub right : gate.right / 2 ≢ variable

-- Places of gates in an order in which each can be worked out from those before it: all gates are named, each
-- once, and none uses one that is named with it or after it (this project's own).
pub record IsOrder (gates : List Gate) (order : List ℕ) : Type 0 where
  pub all : (k : ℕ) → k < length gates → Contains order k
  pub places : All (λ k. k < length gates) order
  pub once : (i k : ℕ) → i < k → k < length order → slice_index order i ≢ slice_index order k
  pub behind : (i k : ℕ) → i ≤ k → k < length order → Spares (gate_at gates (slice_index order i)) ((gate_at gates (slice_index order k)).literal / 2)

-- gates that stand behind those that they use
abbrev pub AreSorted : List Gate → Type 0
AreSorted gates = (i k : ℕ) → i ≤ k → k < length gates → Spares (gate_at gates i) ((gate_at gates k).literal / 2)

-- the numbers below n, in order
pub record ArePlaces (n : ℕ) (places : List ℕ) : Type 0 where
  pub count : length places ≡ n
  pub each : (k : ℕ) → k < n → slice_index places k ≡ k
