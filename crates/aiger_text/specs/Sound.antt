-- What holds of the numbers that a file's lines state so far (this project's own).
use Rattle.std.specs.Prelude.{◌≡◌, ◌≢◌, ◌==◌, ℕ, ◌+◌, ◌*◌, ◌/◌, ◌%◌, ◌≤◌, List, [], ◌∷◌, length, All, if◌then◌else◌}
use Rattle.aiger_text.specs.declared.circuits.Latch.{Latch}
use Rattle.aiger_text.specs.declared.circuits.Gate.{Gate}
use Rattle.aiger_text.specs.declared.counts.Counts.{Counts}
use Rattle.aiger_text.specs.CircuitFile.{Draft}

-- a literal that the header allows
abbrev pub InRange : Counts → ℕ → Type 0
InRange counts literal = literal ≤ 2 * counts.variables + 1

-- an even one of a variable
pub record IsOwn (counts : Counts) (literal : ℕ) : Type 0 where
  pub even : literal % 2 ≡ 0
  pub some : literal ≢ 0
  pub within : InRange counts literal

pub record IsOwnLatch (counts : Counts) (latch : Latch) : Type 0 where
  pub own : IsOwn counts latch.literal
  pub next : InRange counts latch.next

pub record IsOwnGate (counts : Counts) (gate : Gate) : Type 0 where
  pub own : IsOwn counts gate.literal
  pub left : InRange counts gate.left
  pub right : InRange counts gate.right

-- how many elements have a literal of this variable
abbrev pub times_by : {X : Type 0} → (X → ℕ) → ℕ → List X → ℕ
times_by f v [] = 0
times_by f v (x ∷ xs) = (if f x / 2 == v then 1 else 0) + times_by f v xs

-- how many lines so far define this variable
abbrev pub how_often : Draft → ℕ → ℕ
how_often d v = times_by (λ literal. literal) v d.inputs + (times_by (λ latch. latch.literal) v d.latches + times_by (λ gate. gate.literal) v d.gates)

-- literals are in range, no variable is defined twice, and there are no more lines than the header counts
pub record IsSoundDraft (d : Draft) : Type 0 where
  pub inputs : All (IsOwn d.counts) d.inputs
  pub latches : All (IsOwnLatch d.counts) d.latches
  pub outputs : All (InRange d.counts) d.outputs
  pub gates : All (IsOwnGate d.counts) d.gates
  pub once : (v : ℕ) → how_often d v ≤ 1
  pub input_count : length d.inputs ≤ d.counts.inputs
  pub latch_count : length d.latches ≤ d.counts.latches
  pub gate_count : length d.gates ≤ d.counts.gates

-- the number of the line behind these
abbrev pub total : Draft → ℕ
total d = 2 + length d.inputs + length d.latches + length d.outputs + length d.gates
