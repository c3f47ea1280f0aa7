use Rattle.std.specs.Prelude.{◌≡◌, ℕ, ◌<◌, ◌≤◌, Bool, false, if◌then◌else◌, List, [], ◌∷◌, ◌++◌, Option, Some, None, map, length, take, slice_get}
use Rattle.std.specs.Option.{option_and_then, option_map_or}
use Rattle.std.specs.List.{list_any}
use Rattle.propositional_logic.specs.Literal.{Literal, negated}
use Rattle.propositional_logic.specs.Clause.{clause_eq}
use Rattle.propositional_logic.specs.Partial.{is_falsified}
use Rattle.refutation_log.specs.declared.entries.Entry.{Entry}
use Rattle.refutation_log.specs.Entry.{clauses_of}
use Rattle.refutation_log.specs.Follows.{clause_named, unit_named}
use Rattle.refutation_log.specs.Log.{is_empty_clause, is_ended, IsLegal}
use Rattle.refutation_log.specs.Turn.{is_at_limit}
use Rattle.log_checker.specs.declared.faults.LogFault.{LogFault}
use Rattle.log_checker.specs.declared.faults.LogFault.TheVariants.{BadHint, NotFalsified, Repeated, AfterEnd, OverLimit}

-- Whether an empty clause stands among the entries (this project's own).
abbrev pub has_end : List Entry → Bool
has_end log = list_any is_empty_clause (clauses_of log)

-- Whether an equal clause stands among the entries (this project's own).
abbrev pub has_clause : List Literal → List Entry → Bool
has_clause clause log = list_any (clause_eq clause) (clauses_of log)

-- The first rule that an entry after these breaks by its place or its clause alone: there is no room under the limit, an empty clause
-- stands before, or an equal clause does (this project's own).
abbrev pub place_fault : Option ℕ → List Entry → Entry → Option LogFault
place_fault limit before e =
    if is_at_limit limit before then Some (OverLimit (length before))
    else if has_end before then Some (AfterEnd (length before))
    else if has_clause e.clause before then Some (Repeated (length before)) else None

-- The rule that the last hint breaks: it names a clause, and that clause is falsified (reverse unit propagation with hints).
abbrev pub last_hint_fault : ℕ → List Literal → Option (List Literal) → Option LogFault
last_hint_fault at trues None = Some (BadHint at)
last_hint_fault at trues (Some c) = if is_falsified trues c then None else Some (NotFalsified at)

-- The first rule that the hints of the entry at a place break, under a partial assignment: each but the last names a clause that is
-- unit, and makes its literal true; the last names one that is falsified; there is a hint (reverse unit propagation with hints).
abbrev pub hints_fault : ℕ → List (List Literal) → List Literal → List ℕ → Option LogFault
hints_fault at clauses trues [] = Some (NotFalsified at)
hints_fault at clauses trues (n ∷ []) = last_hint_fault at trues (clause_named clauses n)
hints_fault at clauses trues (n ∷ m ∷ hints) =
    option_map_or (λ l. hints_fault at clauses (l ∷ trues) (m ∷ hints)) (unit_named clauses trues n) (Some (BadHint at))

-- The rule that the hints of an entry after these break: they lead from the opposites of its literals to a falsified clause, over the
-- base clauses and the entries before it (reverse unit propagation with hints).
abbrev pub follow_fault : List (List Literal) → List Entry → Entry → Option LogFault
follow_fault base before e = hints_fault (length before) (base ++ clauses_of before) (map negated e.clause) e.hints

-- The first rule that an entry after these breaks, if any (this project's own).
abbrev pub entry_fault : List (List Literal) → Option ℕ → List Entry → Entry → Option LogFault
entry_fault base limit before e = option_map_or (λ fault. Some fault) (place_fault limit before e) (follow_fault base before e)

-- What a test of an entry and those before it answers at a place of the log; nothing past the log's end.
abbrev pub answer_at : (List Entry → Entry → Option LogFault) → List Entry → ℕ → Option LogFault
answer_at test log i = option_and_then (λ e. test (take i log) e) (slice_get log i)

-- The first fault that a test finds from one place up to another: it finds this one at some place, and none before it; or none at all.
pub record IsFoundAt (test : List Entry → Entry → Option LogFault) (log : List Entry) (from to : ℕ) (fault : LogFault) (place : ℕ) : Type 0 where
  pub low : from ≤ place
  pub high : place < to
  pub found : answer_at test log place ≡ Some fault
  pub none_before : (j : ℕ) → from ≤ j → j < place → answer_at test log j ≡ None

pub record FindsNone (test : List Entry → Entry → Option LogFault) (log : List Entry) (from to : ℕ) : Type 0 where
  pub none : (j : ℕ) → from ≤ j → j < to → answer_at test log j ≡ None

abbrev pub IsFirstOf : (List Entry → Entry → Option LogFault) → List Entry → ℕ → ℕ → Option LogFault → Type 0
IsFirstOf test log from to (Some fault) = (place : ℕ) × IsFoundAt test log from to fault place
IsFirstOf test log from to None = FindsNone test log from to

-- The fault is the first rule that the first bad entry of the log breaks (this project's own).
abbrev pub IsLogFault : List (List Literal) → Option ℕ → List Entry → LogFault → Type 0
IsLogFault base limit log fault = (place : ℕ) × IsFoundAt (entry_fault base limit) log 0 (length log) fault place

-- Why a log isn't closed: the first rule that its first bad entry breaks, or it is legal and not ended by the empty clause.
pub record IsLegalAndOpen (vars : ℕ) (base : List (List Literal)) (limit : Option ℕ) (log : List Entry) : Type 0 where
  pub legal : IsLegal vars base limit log
  pub open_end : is_ended log ≡ false
