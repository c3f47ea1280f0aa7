use Rattle.std.specs.Prelude.{◌≡◌, ℕ, ◌+◌, ◌*◌, ◌^◌, ◌<◌, ◌≤◌, Bool, true, List, Option, Some, None, All, Contains, min, length, slice_get}
use Rattle.std.specs.List.{sum_by}
use Rattle.propositional_logic.specs.Literal.{Literal}
use Rattle.propositional_logic.specs.Codes.{code_of}
use Rattle.unit_propagate.specs.declared.marks.Mark.{Mark}
use Rattle.unit_propagate.specs.declared.marks.Slot.{Slot}
use Rattle.unit_propagate.specs.Trail.{IsFree, IsTrail, literals_of}

-- What a `Marks` is seen as.
pub record MarkList : Type 0 where
  pub vars : ℕ
  pub marks : List Mark

-- The number of places in the table of values: one for each variable that a literal can have, and one for none.
abbrev pub room_of : ℕ → ℕ
room_of vars = min vars (2 ^ 30) + 1

-- How many variables a place of the table leaves without a value.
abbrev pub vacant : Option Slot → ℕ
vacant None = 1
vacant (Some _) = 0

-- What a `Marks` keeps: the table of values says of each variable where its literal stands, the other one of each literal whether it is
-- true, and there is room for each variable.
pub record IsMarks (vars : ℕ) (slots : List (Option Slot)) (trues : List Bool) (marks : List Mark) (capacity : ℕ) : Type 0 where
  pub trail : IsTrail vars marks
  pub size : length slots ≡ room_of vars
  pub found : (v : ℕ) (s : Slot) → slice_get slots v ≡ Some (Some s)
      → (m : Mark) × (slice_get marks s.place ≡ Some m) × (m.lit ≡ record { var = v; positive = s.positive })
  pub free : (v : ℕ) → slice_get slots v ≡ Some None → IsFree marks v
  pub trues_size : length trues ≡ 2 * room_of vars
  pub is_marked : (l : Literal) → slice_get trues (code_of l) ≡ Some true → Contains (literals_of marks) l
  pub has_mark : (l : Literal) → Contains (literals_of marks) l → slice_get trues (code_of l) ≡ Some true
  pub bounded : All (λ m. m.lit.var < room_of vars) marks
  pub count : length marks + sum_by vacant slots ≡ room_of vars
  pub room : room_of vars ≤ capacity
  pub levels : (i : ℕ) (m : Mark) → slice_get marks i ≡ Some m → m.level ≤ i + 1
