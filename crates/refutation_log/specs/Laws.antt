use Rattle.std.specs.Prelude.{◌≡◌, ℕ, ◌+◌, ◌^◌, ◌<◌, ◌≤◌, Bool, true, false, List, [], ◌∷◌, ◌++◌, Option, Some, None, slice_get, All, Contains, length}
use Rattle.propositional_logic.specs.Literal.{Literal}
use Rattle.propositional_logic.specs.Clause.{IsWithinVariables}
use Rattle.propositional_logic.specs.Truth.{is_true_clause, meets}
use Rattle.refutation_log.specs.declared.entries.Entry.{Entry}
use Rattle.refutation_log.specs.declared.turns.Turn.{Turn}
use Rattle.refutation_log.specs.Entry.{clauses_of, AreSorted}
use Rattle.refutation_log.specs.Follows.{Follows, clause_named}
use Rattle.refutation_log.specs.Log.{IsLegal, IsClosed, IsFull, is_ended}
use Rattle.refutation_log.specs.Teaches.{Teaches, IsTaught, entries_by}
use Rattle.refutation_log.specs.Turn.{run_of, IsSoundRun, clause_place, is_at_limit}
use Rattle.refutation_log.specs.Text.{log_text, IsWritable}
use Rattle.refutation_log.specs.Read.{IsReadAs, IsBadLine, IsTooShort}

-- Over every list of turns in which each append is sound at its turn, a legal log stays legal; so does the empty one, from which
-- every log begins.
pub record RunsStayLegal : Type 0 where
  pub from_empty : (vars : ℕ) (base : List (List Literal)) (limit : Option ℕ) → IsLegal vars base limit []
  pub along : (vars : ℕ) (base : List (List Literal)) (limit : Option ℕ) (log : List Entry) (turns : List Turn)
      → IsLegal vars base limit log → IsSoundRun vars base limit log turns → IsLegal vars base limit (run_of log limit turns)

-- What follows is implied, so each clause of a legal log is, and no assignment meets the base clauses of a closed one.
pub record LogsAreSound : Type 0 where
  pub implied : (values : List Bool) (clauses : List (List Literal)) (clause : List Literal) (hints : List ℕ)
      → Follows clauses clause hints → meets values clauses ≡ true → is_true_clause values clause ≡ true
  pub legal : (values : List Bool) (vars : ℕ) (base : List (List Literal)) (limit : Option ℕ) (log : List Entry)
      → IsLegal vars base limit log → meets values base ≡ true → meets values (base ++ clauses_of log) ≡ true
  pub closed : (values : List Bool) (vars : ℕ) (base : List (List Literal)) (limit : Option ℕ) (log : List Entry)
      → IsClosed vars base limit log → meets values base ≡ false

-- A number that names a clause names it in every longer list that begins alike, so what follows from a prefix of a log follows
-- from the log.
pub record PrefixesStay : Type 0 where
  pub names : (clauses more : List (List Literal)) (n : ℕ) (clause : List Literal)
      → clause_named clauses n ≡ Some clause → clause_named (clauses ++ more) n ≡ Some clause
  pub places : (log more : List Entry) (i : ℕ) (e : Entry) → slice_get log i ≡ Some e → slice_get (log ++ more) i ≡ Some e
  pub follows : (clauses more : List (List Literal)) (clause : List Literal) (hints : List ℕ)
      → Follows clauses clause hints → Follows (clauses ++ more) clause hints
  pub follows_in_log : (base : List (List Literal)) (log more : List Entry) (clause : List Literal) (hints : List ℕ)
      → Follows (base ++ clauses_of log) clause hints → Follows (base ++ clauses_of (log ++ more)) clause hints
  pub legal_prefix : (vars : ℕ) (base : List (List Literal)) (limit : Option ℕ) (log more : List Entry)
      → IsLegal vars base limit (log ++ more) → IsLegal vars base limit log

-- Bytes are read in at most one way, and refused for at most one cause.
pub record OutcomesAreApart : Type 0 where
  pub one_reading : (vars count : ℕ) (bytes : List ℕ) (log other : List Entry) (used used' : ℕ) → IsReadAs vars count bytes log used → IsReadAs vars count bytes other used' → (log ≡ other) × (used ≡ used')
  pub read_not_bad : (vars count : ℕ) (bytes : List ℕ) (log : List Entry) (used n : ℕ) → IsReadAs vars count bytes log used → IsBadLine vars count bytes n → ⊥
  pub read_not_short : (vars count : ℕ) (bytes : List ℕ) (log : List Entry) (used : ℕ) → IsReadAs vars count bytes log used → IsTooShort vars count bytes → ⊥
  pub one_bad_line : (vars count : ℕ) (bytes : List ℕ) (n m : ℕ) → IsBadLine vars count bytes n → IsBadLine vars count bytes m → n ≡ m
  pub bad_not_short : (vars count : ℕ) (bytes : List ℕ) (n : ℕ) → IsBadLine vars count bytes n → IsTooShort vars count bytes → ⊥

-- The lines that are written of entries which lines may state are read as these entries, whatever comes after them.
pub record WrittenIsRead : Type 0 where
  pub back : (vars : ℕ) (log : List Entry) (more : List ℕ) → All (IsWritable vars) log → IsReadAs vars (length log) (log_text log ++ more) log (length (log_text log))

-- A log grows by one entry: a legal one stays legal where the clause is new and follows, and the log is neither ended nor at its
-- limit; a taught one stays taught where the entry teaches over the base clauses and the entries of its worker.
pub record LogsGrow : Type 0 where
  pub legal : (vars : ℕ) (base : List (List Literal)) (limit : Option ℕ) (log : List Entry) (e : Entry) → IsLegal vars base limit log → IsWithinVariables vars e.clause
      → Follows (base ++ clauses_of log) e.clause e.hints → clause_place e.clause log ≡ None → is_ended log ≡ false → is_at_limit limit log ≡ false
      → IsLegal vars base limit (log ++ e ∷ [])
  pub taught : (base : List (List Literal)) (log : List Entry) (e : Entry) → IsTaught base log → Teaches (base ++ clauses_of (entries_by e.by log)) e.clause
      → IsTaught base (log ++ e ∷ [])

-- What teaches over many clauses teaches over fewer of them: so over the first of them, and over the base clauses and the entries of
-- one worker, where it teaches over those of all workers.
pub record TeachingNarrows : Type 0 where
  pub fewer : (more fewer : List (List Literal)) (clause : List Literal) → ((c : List Literal) → Contains fewer c → Contains more c)
      → Teaches more clause → Teaches fewer clause
  pub first : (clauses more : List (List Literal)) (clause : List Literal) → Teaches (clauses ++ more) clause → Teaches clauses clause
  pub own : (base : List (List Literal)) (log : List Entry) (worker : ℕ) (clause : List Literal) → Teaches (base ++ clauses_of log) clause
      → Teaches (base ++ clauses_of (entries_by worker log)) clause

-- Over v variables there are 3 ^ v clauses, each variable being in a clause as it is, negated or not at all. So a legal log of sorted
-- clauses has at most as many entries, and fewer where it isn't ended: a limit of at least 3 ^ v is never reached. No log is both
-- closed and full.
pub record LogsAreBounded : Type 0 where
  pub all : (vars : ℕ) (base : List (List Literal)) (limit : Option ℕ) (log : List Entry) → IsLegal vars base limit log → AreSorted log → length log ≤ 3 ^ vars
  pub unended : (vars : ℕ) (base : List (List Literal)) (limit : Option ℕ) (log : List Entry) → IsLegal vars base limit log → AreSorted log
      → is_ended log ≡ false → length log < 3 ^ vars
  pub full : (vars : ℕ) (base : List (List Literal)) (most : ℕ) (log : List Entry) → IsFull vars base (Some most) log → AreSorted log → most < 3 ^ vars
  pub apart : (vars : ℕ) (base : List (List Literal)) (limit : Option ℕ) (log : List Entry) → IsClosed vars base limit log → IsFull vars base limit log → ⊥

-- Lines may state the entries of a legal log of sorted clauses, of workers whose numbers are below 2 ^ 32: what follows has hints that
-- name clauses, and so none is 0.
pub record LegalLogsAreWritable : Type 0 where
  pub writable : (vars : ℕ) (base : List (List Literal)) (limit : Option ℕ) (log : List Entry) → IsLegal vars base limit log → vars ≤ 2 ^ 30
      → length base + length log ≤ 2 ^ 64 → AreSorted log → All (λ e. e.by < 2 ^ 32) log → All (IsWritable vars) log
