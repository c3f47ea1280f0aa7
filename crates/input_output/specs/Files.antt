-- What a shelf holds. This project's own.
use Rattle.std.specs.Prelude.{◌≡◌, ℕ, ◌≤◌, ◌↔◌, List, [], ◌∷◌, ◌++◌, length, take, drop, Option, None, Some, unwrap_or, if◌then◌else◌, IfSome, IfOk, Result, nat_eq}
use Rattle.std.specs.Cmp.Lexicographic.{pointwise}

-- the bytes under each name that is there
abbrev pub Files : Type 0
Files = List ℕ → Option (List ℕ)

-- The bytes under a name. A name that isn't there has none.
abbrev pub bytes_under : Files → List ℕ → List ℕ
bytes_under files name = unwrap_or (files name) []

-- the files of a list of names and bytes, in which the first of a name counts
abbrev pub files_of : List (List ℕ × List ℕ) → Files
files_of [] name = None
files_of (file ∷ files) name = if pointwise nat_eq file.0 name then Some file.1 else files_of files name

-- A list of bytes gained those under the name, at most so many, and some if the files aren't told.
pub record Takes (told : Option Files) (name : List ℕ) (limit : ℕ) (before after : List ℕ) : Type 0 where
  pub bytes : List ℕ
  pub gained : after ≡ before ++ bytes
  pub within : length bytes ≤ limit
  pub same : IfSome told (λ files. bytes ≡ bytes_under files name)

-- A list of bytes gained this many of those under the name from a place on, at most so many. None came exactly where the
-- place isn't below their number. They are any bytes where the files aren't told.
pub record TakesPart (told : Option Files) (name : List ℕ) (from most : ℕ) (before after : List ℕ) (count : ℕ) : Type 0 where
  pub bytes : List ℕ
  pub gained : after ≡ before ++ bytes
  pub counted : length bytes ≡ count
  pub within : count ≤ most
  pub same : IfSome told (λ files. bytes ≡ take count (drop from (bytes_under files name)))
  pub ended : IfSome told (λ files. (count ≡ 0) ↔ (length (bytes_under files name) ≤ from))

-- as many as there are, up to the most, of the bytes from a place on
abbrev pub part_of : List ℕ → ℕ → ℕ → List ℕ
part_of bytes from most = take most (drop from bytes)

-- a list of bytes gained at most so many others, and the answer of a call that appended them is how many
pub record Appends {E : Type 0} (most : ℕ) (before after : List ℕ) (answer : Result ℕ E) : Type 0 where
  pub bytes : List ℕ
  pub gained : after ≡ before ++ bytes
  pub within : length bytes ≤ most
  pub counted : IfOk answer (λ count. length bytes ≡ count)
