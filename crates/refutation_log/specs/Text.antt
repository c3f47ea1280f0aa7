use Rattle.std.specs.Prelude.{◌≡◌, ℕ, ◌^◌, ◌<◌, List, [], ◌∷◌, ◌++◌, if◌then◌else◌, decimal, All}
use Rattle.std.specs.List.{flat_map}
use Rattle.propositional_logic.specs.Literal.{Literal}
use Rattle.propositional_logic.specs.Clause.{IsClause, IsWithinVariables}
use Rattle.refutation_log.specs.declared.entries.Entry.{Entry}

-- A literal in an entry line: `-` for not, its variable's number, a space (as in DIMACS).
abbrev pub literal_word : Literal → List ℕ
literal_word l = (if l.positive then [] else 45 ∷ []) ++ decimal l.var ++ 32 ∷ []

-- A hint in an entry line: its number, a space.
abbrev pub hint_word : ℕ → List ℕ
hint_word hint = decimal hint ++ 32 ∷ []

-- An entry's line: the worker's number, the literals, `0`, the hints, `0`, separated by one space and ended by LF (this project's
-- own, after LRAT).
abbrev pub entry_line : Entry → List ℕ
entry_line e = decimal e.by ++ 32 ∷ [] ++ flat_map literal_word e.clause ++ 48 ∷ 32 ∷ [] ++ flat_map hint_word e.hints ++ 48 ∷ 10 ∷ []

-- The lines of a list of entries, in its order.
abbrev pub log_text : List Entry → List ℕ
log_text entries = flat_map entry_line entries

-- An entry that a line may state, where the variables are 1 to vars: the worker's number is below 2^32, the literals are those of a
-- clause over these variables, with none above 2^30, and hints are from 1 to 2^64 - 1.
pub record IsWritable (vars : ℕ) (e : Entry) : Type 0 where
  pub worker : e.by < 2 ^ 32
  pub clause : IsClause e.clause
  pub within : IsWithinVariables vars e.clause
  pub small : IsWithinVariables (2 ^ 30) e.clause
  pub hints : All (λ h. (0 < h) × (h < 2 ^ 64)) e.hints
