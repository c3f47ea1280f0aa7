use Rattle.std.specs.Prelude.{◌≡◌, ◌≢◌, ℕ, false, nat_eq, List, [], ◌++◌, ◌⊎◌, Some, None, Contains, filter, take, slice_get}
use Rattle.propositional_logic.specs.Literal.{Literal, negated}
use Rattle.propositional_logic.specs.Partial.{is_falsified, unit_of}
use Rattle.refutation_log.specs.declared.entries.Entry.{Entry}
use Rattle.refutation_log.specs.Entry.{clauses_of}

-- Unit propagation stops at a partial assignment, which has no literal of l's variable and makes every other literal of the
-- clause false: no clause of the list is falsified, and none is unit (unit propagation; this project's own).
pub record IsQuietBut (clauses : List (List Literal)) (clause : List Literal) (l : Literal) (trues : List Literal) : Type 0 where
  pub member : Contains clause l
  pub one_sign : (m : Literal) → Contains trues m → Contains trues (negated m) → ⊥
  pub others_false : (m : Literal) → Contains clause m → m ≢ l → Contains trues (negated m)
  pub untouched : (m : Literal) → Contains trues m → m.var ≢ l.var
  pub not_falsified : (c : List Literal) → Contains clauses c → is_falsified trues c ≡ false
  pub not_unit : (c : List Literal) → Contains clauses c → unit_of trues c ≡ None

-- A clause teaches over a list of clauses: it is empty, or unit propagation from the opposites of its literals but one doesn't
-- reach that one. So it contains no clause of the list (this project's own).
abbrev pub Teaches : List (List Literal) → List Literal → Type 0
Teaches clauses clause = (clause ≡ []) ⊎ ((l : Literal) × (trues : List Literal) × IsQuietBut clauses clause l trues)

-- The entries of one worker, in their order (this project's own).
abbrev pub entries_by : ℕ → List Entry → List Entry
entries_by worker log = filter (λ e. nat_eq e.by worker) log

-- A log is taught: each entry's clause teaches over the base clauses and those entries before it that have the same worker
-- (this project's own).
abbrev pub IsTaught : List (List Literal) → List Entry → Type 0
IsTaught base log = (i : ℕ) (e : Entry) → slice_get log i ≡ Some e → Teaches (base ++ clauses_of (entries_by e.by (take i log))) e.clause
