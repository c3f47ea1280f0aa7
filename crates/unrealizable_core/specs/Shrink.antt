-- Leaving out one at a time (this project's own): from numbers that are all kept, one that the others can do without is dropped,
-- until each that is kept is needed beside the others.
use Rattle.std.specs.Prelude.{◌≡◌, ◌≢◌, ℕ, ◌+◌, ◌-◌, ◌<◌, ◌≤◌, Bool, true, false, List, length, map, Option, None, Some, option_map, position, replicate, slice_index_or, slice_set}
use Rattle.unrealizable_core.specs.declared.shrink.Standing.{Standing}
use Rattle.unrealizable_core.specs.declared.shrink.Standing.TheVariants.{Open, Needed, Dropped}

-- how a number stands; they are counted from 1
abbrev pub standing_of : List Standing → ℕ → Standing
standing_of s n = slice_index_or s (n - 1) Dropped

-- it is one of the numbers, and wasn't dropped
pub record IsKeptGuarantee (s : List Standing) (n : ℕ) : Type 0 where
  pub first : 1 ≤ n
  pub last : n ≤ length s
  pub kept : standing_of s n ≢ Dropped

-- it is kept, and was answered false since the last drop
pub record IsNeeded (s : List Standing) (n : ℕ) : Type 0 where
  pub first : 1 ≤ n
  pub last : n ≤ length s
  pub needed : standing_of s n ≡ Needed

-- it is kept, and wasn't answered false since the last drop
pub record IsOpen (s : List Standing) (n : ℕ) : Type 0 where
  pub first : 1 ≤ n
  pub last : n ≤ length s
  pub opened : standing_of s n ≡ Open

-- it is the least of those, and above each that was answered false since the last drop
pub record IsFirstOpenGuarantee (s : List Standing) (n : ℕ) : Type 0 where
  pub is_open : IsOpen s n
  pub least : (m : ℕ) → IsOpen s m → n ≤ m
  pub above : (m : ℕ) → IsNeeded s m → m < n

-- questions are asked in order: what was answered false since the last drop stands below what is open
pub record IsInTurn (s : List Standing) : Type 0 where
  pub in_turn : (m n : ℕ) → IsNeeded s m → IsOpen s n → m < n

abbrev pub all_kept : ℕ → List Standing
all_kept count = replicate count Open

-- ---- questions and answers

abbrev pub is_open : Standing → Bool
is_open Open = true
is_open Needed = false
is_open Dropped = false

-- the number to ask about
abbrev pub asked : List Standing → Option ℕ
asked s = option_map (λ place. place + 1) (position is_open s)

abbrev pub reopened : Standing → Standing
reopened Open = Open
reopened Needed = Open
reopened Dropped = Dropped

-- once the number is dropped each answer that came before says nothing more; once it is needed nothing else changes
abbrev pub answered : Bool → ℕ → List Standing → List Standing
answered true n s = map reopened (slice_set s (n - 1) Dropped)
answered false n s = slice_set s (n - 1) Needed

abbrev pub told_about : Option ℕ → Bool → List Standing → List Standing
told_about None defeat s = s
told_about (Some n) defeat s = answered defeat n s

-- after the answer to the question
abbrev pub told : Bool → List Standing → List Standing
told defeat s = told_about (asked s) defeat s
