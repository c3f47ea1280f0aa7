-- Walks along the gates that gates use (textbooks of graphs).
use Rattle.std.specs.Prelude.{◌≡◌, ◌≢◌, ℕ, ◌+◌, ◌/◌, ◌<◌, ◌≤◌, ◌⊎◌, Bool, true, false, Option, Some, None, List, length, Contains, slice_index, slice_index_or}
use Rattle.std.specs.List.{sum_by}
use Rattle.aiger_text.specs.declared.circuits.Gate.{Gate}
use Rattle.aiger_text.specs.declared.walks.Mark.{Mark}
use Rattle.aiger_text.specs.declared.walks.Mark.TheVariants.{New, Open, Done}
use Rattle.aiger_text.specs.declared.walks.Next.{Next}
use Rattle.aiger_text.specs.declared.walks.Next.TheVariants.{Close, Enter, Meet}
use Rattle.aiger_text.specs.CircuitType.{DependsOn, gate_at}

-- the gate's variable depends on itself through gates
abbrev pub IsOnCycle : List Gate → ℕ → Type 0
IsOnCycle gates k = DependsOn gates ((gate_at gates k).literal / 2) ((gate_at gates k).literal / 2)

-- some gate's variable does
pub record HasCycle (gates : List Gate) : Type 0 where
  pub place : ℕ
  pub within : place < length gates
  pub itself : IsOnCycle gates place

-- the first gate whose variable does
pub record IsFirstCycle (gates : List Gate) (k : ℕ) : Type 0 where
  pub within : k < length gates
  pub itself : IsOnCycle gates k
  pub first : (i : ℕ) → i < k → IsOnCycle gates i → ⊥

-- an operand of gate g is gate h
abbrev pub Uses : List Gate → ℕ → ℕ → Type 0
Uses gates g h =
    ((gate_at gates g).left / 2 ≡ (gate_at gates h).literal / 2) ⊎ ((gate_at gates g).right / 2 ≡ (gate_at gates h).literal / 2)

-- the table has each gate's place at the gate's variable
pub record Finds (gates : List Gate) (places : List (Option ℕ)) : Type 0 where
  pub within : (v k : ℕ) → slice_index_or places v None ≡ Some k → k < length gates
  pub own : (v k : ℕ) → slice_index_or places v None ≡ Some k → (gate_at gates k).literal / 2 ≡ v
  pub all : (k : ℕ) → k < length gates → slice_index_or places ((gate_at gates k).literal / 2) None ≡ Some k

abbrev pub mark_at : List Mark → ℕ → Mark
mark_at marks k = slice_index_or marks k Done

-- what is known of a walk: gates in the order are done and stand behind those that they use; the gates on the stack are
-- open, each using the next one
pub record IsWalk (gates : List Gate) (marks : List Mark) (stack order : List ℕ) : Type 0 where
  pub places : length marks ≡ length gates
  pub done_within : (i : ℕ) → i < length order → slice_index order i < length gates
  pub done : (i : ℕ) → i < length order → mark_at marks (slice_index order i) ≡ Done
  pub listed : (k : ℕ) → k < length gates → mark_at marks k ≡ Done → Contains order k
  pub once : (i k : ℕ) → i < k → k < length order → slice_index order i ≢ slice_index order k
  pub closed : (i h : ℕ) → i < length order → h < length gates → Uses gates (slice_index order i) h → mark_at marks h ≡ Done
  pub behind : (i k : ℕ) → i ≤ k → k < length order → Uses gates (slice_index order i) (slice_index order k) → ⊥
  pub open_within : (i : ℕ) → i < length stack → slice_index stack i < length gates
  pub is_open : (i : ℕ) → i < length stack → mark_at marks (slice_index stack i) ≡ Open
  pub apart : (i k : ℕ) → i < k → k < length stack → slice_index stack i ≢ slice_index stack k
  pub stacked : (k : ℕ) → k < length gates → mark_at marks k ≡ Open → Contains stack k
  pub path : (i : ℕ) → i + 1 < length stack → Uses gates (slice_index stack i) (slice_index stack (i + 1))

-- a gate to be entered: it is new, and the last one on the stack uses it
pub record MayEnter (gates : List Gate) (marks : List Mark) (stack : List ℕ) (place : ℕ) : Type 0 where
  pub within : place < length gates
  pub new : mark_at marks place ≡ New
  pub used : (i : ℕ) → i + 1 ≡ length stack → Uses gates (slice_index stack i) place

-- how much there is to do
abbrev pub weight : Mark → ℕ
weight New = 2
weight Open = 1
weight Done = 0

-- a step of the walk: done gates stay done, none becomes new, and less is to do
pub record Goes (old new : List Mark) : Type 0 where
  pub keeps_done : (k : ℕ) → mark_at old k ≡ Done → mark_at new k ≡ Done
  pub no_new : (k : ℕ) → mark_at new k ≡ New → mark_at old k ≡ New
  pub lower : sum_by weight new < sum_by weight old

-- what an operand asks for: nothing where no gate has its variable or that gate is done
abbrev pub AtOperand : List Gate → List Mark → ℕ → Next → Type 0
AtOperand gates marks literal Close = (h : ℕ) → h < length gates → literal / 2 ≡ (gate_at gates h).literal / 2 → mark_at marks h ≡ Done
AtOperand gates marks literal (Enter h) = (h < length gates) × (literal / 2 ≡ (gate_at gates h).literal / 2) × (mark_at marks h ≡ New)
AtOperand gates marks literal (Meet h) = (h < length gates) × (literal / 2 ≡ (gate_at gates h).literal / 2) × (mark_at marks h ≡ Open)

-- what a gate asks for by its operands
abbrev pub AtGate : List Gate → List Mark → ℕ → Next → Type 0
AtGate gates marks g Close = (h : ℕ) → h < length gates → Uses gates g h → mark_at marks h ≡ Done
AtGate gates marks g (Enter h) = (h < length gates) × (Uses gates g h) × (mark_at marks h ≡ New)
AtGate gates marks g (Meet h) = (h < length gates) × (Uses gates g h) × (mark_at marks h ≡ Open)

-- gates of different variables below n
pub record HaveVariables (gates : List Gate) (n : ℕ) : Type 0 where
  pub room : (k : ℕ) → k < length gates → (gate_at gates k).literal / 2 < n
  pub apart : (i k : ℕ) → i < k → k < length gates → (gate_at gates i).literal / 2 ≢ (gate_at gates k).literal / 2

-- the table has the places of the first n gates
pub record FindsUpTo (gates : List Gate) (places : List (Option ℕ)) (n : ℕ) : Type 0 where
  pub within : (v k : ℕ) → slice_index_or places v None ≡ Some k → k < n
  pub own : (v k : ℕ) → slice_index_or places v None ≡ Some k → (gate_at gates k).literal / 2 ≡ v
  pub all : (k : ℕ) → k < n → slice_index_or places ((gate_at gates k).literal / 2) None ≡ Some k

abbrev pub IsReached : List Bool → ℕ → Type 0
IsReached reached k = slice_index_or reached k false ≡ true

-- the gates that gate k uses are reached
abbrev pub IsVisited : List Gate → List Bool → ℕ → Type 0
IsVisited gates reached k = (h : ℕ) → h < length gates → Uses gates k h → IsReached reached h
