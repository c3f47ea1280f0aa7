-- Sets of numbers as lists that rise: this project's profile of TLSF 1.1.
use Rattle.std.specs.Prelude.{Bool, not, List, [], ◌∷◌, filter, ℤ}
use Rattle.std.specs.Ordering.{int_cmp, int_eq}
use Rattle.std.specs.BTreeSet.{insert_key}
use Rattle.std.specs.List.{list_any}

abbrev pub is_in : List ℤ → ℤ → Bool
is_in xs z = list_any (int_eq z) xs

-- each number of the second list put in its place in the first one, unless it stands there
abbrev pub union : List ℤ → List ℤ → List ℤ
union xs [] = xs
union xs (y ∷ ys) = union (insert_key int_cmp xs y) ys

-- the set of the numbers of a list
abbrev pub set_of : List ℤ → List ℤ
set_of xs = union [] xs

abbrev pub intersection : List ℤ → List ℤ → List ℤ
intersection xs ys = filter (is_in ys) xs

abbrev pub difference : List ℤ → List ℤ → List ℤ
difference xs ys = filter (λ z. not (is_in ys z)) xs
