-- The text of a list of files (this project's own): at most 64 lines, each the name of a file.
use Rattle.std.specs.Prelude.{◌≡◌, ◌≢◌, ℕ, ◌+◌, ◌<◌, ◌≤◌, List, [], ◌∷◌, ◌++◌, All, drop, length}
use Rattle.std.specs.Str.{IsUtf8}

abbrev pub most_lines : ℕ
most_lines = 64

-- there is a first byte, and it isn't `-`
abbrev pub BeginsName : List ℕ → Type 0
BeginsName [] = ⊥
BeginsName (first ∷ rest) = first ≢ 45

-- no byte is a line end
abbrev pub IsOneLine : List ℕ → Type 0
IsOneLine bytes = All (λ byte. byte ≢ 10) bytes

-- A line is the name of a file: it is UTF-8, isn't empty and doesn't begin with `-`.
pub record IsName (line : List ℕ) : Type 0 where
  pub one_line : IsOneLine line
  pub begins : BeginsName line
  pub utf8 : IsUtf8 line

-- a line for each of these names, each with its line end
abbrev pub lines_of : List (List ℕ) → List ℕ
lines_of [] = []
lines_of (name ∷ names) = name ++ 10 ∷ lines_of names

-- the bytes are the lines of these names
pub record IsList (bytes : List ℕ) (names : List (List ℕ)) : Type 0 where
  pub text : bytes ≡ lines_of names
  pub each : All IsName names
  pub few : length names ≤ most_lines

-- Behind so many lines the bytes don't go on with a line of a list: it would be one too many, or has no line end, or is no name.
pub data IsBadNext (count : ℕ) (rest : List ℕ) : Type 0 where
  one_too_many : count ≡ most_lines → rest ≢ [] → IsBadNext count rest
  not_ended : rest ≢ [] → IsOneLine rest → IsBadNext count rest
  no_name : (line behind : List ℕ) → rest ≡ line ++ 10 ∷ behind → IsOneLine line → (IsName line → ⊥) → IsBadNext count rest

-- The bytes are no list: the lines before line n are those of names, and line n isn't the next one.
pub record IsFirstBadLineOfList (bytes : List ℕ) (n : ℕ) : Type 0 where
  pub names : List (List ℕ)
  pub rest : List ℕ
  pub text : bytes ≡ lines_of names ++ rest
  pub each : All IsName names
  pub few : length names ≤ most_lines
  pub number : n ≡ length names + 1
  pub bad : IsBadNext (length names) rest

-- ---- how the code goes on

-- the first line of the bytes, which has its line end
pub record IsFirstLine (bytes line : List ℕ) : Type 0 where
  pub one_line : IsOneLine line
  pub text : bytes ≡ line ++ 10 ∷ drop (length line + 1) bytes

-- behind so many lines the bytes go on with the line of this name
pub record IsNext (count : ℕ) (rest name : List ℕ) : Type 0 where
  pub few : count < most_lines
  pub is_name : IsName name
  pub text : rest ≡ name ++ 10 ∷ drop (length name + 1) rest
