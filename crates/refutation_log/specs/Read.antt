use Rattle.std.specs.Prelude.{◌≡◌, ◌≢◌, ℕ, ◌+◌, ◌<◌, ◌≤◌, ◌^◌, List, [], ◌∷◌, ◌++◌, Option, Some, None, All, decimal, length}
use Rattle.std.specs.Borrow.{Bor}
use Rattle.std.specs.List.{flat_map}
use Rattle.propositional_logic.specs.Literal.{Literal}
use Rattle.refutation_log.specs.declared.entries.Entry.{Entry}
use Rattle.refutation_log.specs.Text.{literal_word, hint_word, entry_line, log_text, IsWritable}

-- The bytes begin with the line of an entry that a line may state, and the rest comes after it (this project's own).
pub record StatesEntry (vars : ℕ) (bytes : List ℕ) (e : Entry) (rest : List ℕ) : Type 0 where
  pub writable : IsWritable vars e
  pub text : bytes ≡ entry_line e ++ rest

-- The bytes begin with the lines of these entries, which lines may state, and the rest comes after them (this project's own).
pub record StatesEntries (vars : ℕ) (bytes : List ℕ) (entries : List Entry) (rest : List ℕ) : Type 0 where
  pub writable : All (IsWritable vars) entries
  pub text : bytes ≡ log_text entries ++ rest

-- The bytes begin with `count` entry lines, which state these entries and are `used` bytes (this project's own).
pub record IsReadAs (vars count : ℕ) (bytes : List ℕ) (entries : List Entry) (used : ℕ) : Type 0 where
  pub stated : (rest : List ℕ) × StatesEntries vars bytes entries rest
  pub so_many : length entries ≡ count
  pub bytes_of_lines : used ≡ length (log_text entries)

-- Line n of the `count` lines, counted from 1, is the first that isn't an entry line: the lines before it are, some bytes are left,
-- and these don't begin with an entry line. So a line that isn't ended by LF is such a line (this project's own).
pub record IsBadLine (vars count : ℕ) (bytes : List ℕ) (n : ℕ) : Type 0 where
  pub before : List Entry
  pub left : List ℕ
  pub stated : StatesEntries vars bytes before left
  pub number : n ≡ length before + 1
  pub wanted : n ≤ count
  pub some_left : left ≢ []
  pub no_entry : (e : Entry) (rest : List ℕ) → StatesEntry vars left e rest → ⊥

-- The bytes are fewer than `count` entry lines, and nothing else (this project's own).
pub record IsTooShort (vars count : ℕ) (bytes : List ℕ) : Type 0 where
  pub entries : List Entry
  pub stated : StatesEntries vars bytes entries []
  pub fewer : length entries < count

-- What was read of bytes: a value, seen as one that they state, with the bytes after it, or nothing where they state none.
abbrev pub IsReadBy : {X Y : Type 0} → (X → Y) → (Y → List ℕ → Type 0) → Option (X × Bor (List ℕ)) → Type 0
IsReadBy view states (Some p) = states (view p.0) p.1.now
IsReadBy {Y = Y} view states None = (y : Y) (rest : List ℕ) → states y rest → ⊥

-- The bytes begin with a number of at most `most` and a space.
pub record StatesNumber (most : ℕ) (bytes : List ℕ) (n : ℕ) (rest : List ℕ) : Type 0 where
  pub small : n ≤ most
  pub text : bytes ≡ decimal n ++ 32 ∷ rest

-- A literal that a line may state.
pub record IsLiteral (l : Literal) : Type 0 where
  pub from_one : 0 < l.var
  pub small : l.var ≤ 2 ^ 30

-- The bytes begin with a literal's word.
pub record StatesLiteral (bytes : List ℕ) (l : Literal) (rest : List ℕ) : Type 0 where
  pub of_literal : IsLiteral l
  pub text : bytes ≡ literal_word l ++ rest

-- The bytes begin with the words of literals, and `0` and a space after them.
pub record StatesLiterals (bytes : List ℕ) (lits : List Literal) (rest : List ℕ) : Type 0 where
  pub of_literals : All IsLiteral lits
  pub text : bytes ≡ flat_map literal_word lits ++ 48 ∷ 32 ∷ rest

-- A hint that a line may state.
pub record IsHint (h : ℕ) : Type 0 where
  pub from_one : 0 < h
  pub small : h < 2 ^ 64

-- The bytes begin with a hint's word.
pub record StatesHint (bytes : List ℕ) (h : ℕ) (rest : List ℕ) : Type 0 where
  pub of_hint : IsHint h
  pub text : bytes ≡ hint_word h ++ rest

-- The bytes begin with the words of hints, and `0` and LF after them.
pub record StatesHints (bytes : List ℕ) (hints : List ℕ) (rest : List ℕ) : Type 0 where
  pub of_hints : All IsHint hints
  pub text : bytes ≡ flat_map hint_word hints ++ 48 ∷ 10 ∷ rest

-- The lines of these entries were appended, and are read back: over any number of variables for which lines may state the entries,
-- and whatever comes after them, the lines state these entries (this project's own).
pub record IsReadBack (entries : List Entry) (old new : List ℕ) : Type 0 where
  pub written : List ℕ
  pub appended : new ≡ old ++ written
  pub back : (vars : ℕ) (more : List ℕ) → All (IsWritable vars) entries → IsReadAs vars (length entries) (written ++ more) entries (length written)
