-- The members of `{a, b .. c}`, one after the other: this project's profile of TLSF 1.1.
use Rattle.std.specs.Prelude.{ℕ, zero, suc, ◌/◌, Bool, if◌then◌else◌, List, [], ◌∷◌, Option, None, Some, ℤ, pos, ◌+ℤ◌, ◌-ℤ◌, int_lt, unsigned_abs}

-- so many numbers from the first on, each so much above the one before it
abbrev pub numbers_from : ℤ → ℤ → ℕ → List ℤ
numbers_from first step zero = []
numbers_from first step (suc n) = first ∷ numbers_from (first +ℤ step) step n

-- how many steps of this size, which isn't 0, lead from the first number to the last, without passing it
abbrev pub steps_to : ℤ → ℤ → ℤ → ℕ
steps_to first step last = unsigned_abs (last -ℤ first) / unsigned_abs step

-- whether the number lies beyond the last one, as one goes by this step
abbrev pub passes : ℤ → ℤ → ℤ → Bool
passes z step last = if int_lt (pos 0) step then int_lt last z else int_lt z last

-- how many numbers there are from this one on, by this step, none of them passing the last one
abbrev pub left_from : ℤ → ℤ → ℤ → ℕ
left_from z step last = if passes z step last then 0 else suc (steps_to z step last)

abbrev pub rest_from : ℤ → ℤ → ℤ → List ℤ
rest_from z step last = numbers_from z step (left_from z step last)

-- how many members `{a, b .. c}` has: a, and then b - a further each time, none of them passing c
abbrev pub step_count : ℤ → ℤ → ℤ → ℕ
step_count a b c = left_from a (b -ℤ a) c

-- these members, in the order in which they are stepped through
abbrev pub stepped : ℤ → ℤ → ℤ → List ℤ
stepped a b c = rest_from a (b -ℤ a) c

-- a number with those after it, or none
abbrev pub those_from : ℤ → ℤ → Option ℤ → List ℤ
those_from step last None = []
those_from step last (Some z) = z ∷ rest_from (z +ℤ step) step last
