-- Laws of leaving out one at a time.
use Rattle.std.specs.Prelude.{◌≡◌, ℕ, ◌+◌, ◌*◌, ◌/◌, ◌≤◌, Bool, true, false, List, [], ◌∷◌, length, map, Contains, Option, None, Some}
use Rattle.unrealizable_core.specs.declared.shrink.Standing.{Standing}
use Rattle.unrealizable_core.specs.declared.shrink.Standing.TheVariants.{Open, Needed, Dropped}
use Rattle.unrealizable_core.specs.Shrink.{IsKeptGuarantee, all_kept, asked, told}

-- which numbers are kept
abbrev pub is_kept : Standing → Bool
is_kept Open = true
is_kept Needed = true
is_kept Dropped = false

abbrev pub kept_in : List Standing → List Bool
kept_in s = map is_kept s

-- a question with its answer, and which numbers were kept when it was asked
pub record Answer : Type 0 where
  pub kept : List Bool
  pub number : ℕ
  pub defeat : Bool

-- an answer, and those that come later; where nothing was asked it counts for nothing
abbrev pub answer_before : Option ℕ → List Standing → Bool → List Answer → List Answer
answer_before None s defeat later = later
answer_before (Some n) s defeat later = record { kept = kept_in s; number = n; defeat = defeat } ∷ later

-- the questions from here on with their answers, and how the numbers stand in the end
abbrev pub answers_from : List Standing → List Bool → List Answer
answers_from s [] = []
answers_from s (defeat ∷ more) = answer_before (asked s) s defeat (answers_from (told defeat s) more)

abbrev pub after : List Standing → List Bool → List Standing
after s [] = s
after s (defeat ∷ more) = after (told defeat s) more

-- however so many numbers are asked about, there are at most as many questions as the sum of the numbers
abbrev pub QuestionsAreFew : Type 0
QuestionsAreFew = (count : ℕ) (answers : List Bool) → length (answers_from (all_kept count) answers) ≤ count * (count + 1) / 2

-- where no question is left, each number that is kept was answered false when just those that are kept in the end were kept
abbrev pub KeptAreNeeded : Type 0
KeptAreNeeded =
    (count : ℕ) (answers : List Bool) (n : ℕ) → asked (after (all_kept count) answers) ≡ None → IsKeptGuarantee (after (all_kept count) answers) n
    → Contains (answers_from (all_kept count) answers) (record { kept = kept_in (after (all_kept count) answers); number = n; defeat = false })
