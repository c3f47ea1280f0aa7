-- The operators of sets, and what they keep of two lists that rise and are gone through side by side.
use Rattle.std.specs.Prelude.{Bool, false, not, ◌&&◌, ◌||◌, if◌then◌else◌, List, [], ◌∷◌, Option, None, Some, ℤ, int_lt}
use Rattle.std.specs.Ordering.{int_eq}
use Rattle.tlsf_values.specs.declared.set_operation.SetOperation.{SetOperation}
use Rattle.tlsf_values.specs.declared.set_operation.SetOperation.TheVariants.{Join, Meet, Difference}
use Rattle.tlsf_values.specs.Sets.{union, intersection, difference}

abbrev pub combined : SetOperation → List ℤ → List ℤ → List ℤ
combined Join xs ys = union xs ys
combined Meet xs ys = intersection xs ys
combined Difference xs ys = difference xs ys

-- whether a number is kept, by whether it is in the left list and in the right one
abbrev pub keeps : SetOperation → Bool → Bool → Bool
keeps Join left right = left || right
keeps Meet left right = left && right
keeps Difference left right = left && not right

-- the least number that stands first in one of two lists
abbrev pub first_of : List ℤ → List ℤ → Option ℤ
first_of [] [] = None
first_of (x ∷ xs) [] = Some x
first_of [] (y ∷ ys) = Some y
first_of (x ∷ xs) (y ∷ ys) = Some (if int_lt y x then y else x)

abbrev pub is_first : ℤ → List ℤ → Bool
is_first z [] = false
is_first z (x ∷ xs) = int_eq z x

-- the list without the number, where it stands first
abbrev pub behind : ℤ → List ℤ → List ℤ
behind z [] = []
behind z (x ∷ xs) = if int_eq z x then xs else x ∷ xs
