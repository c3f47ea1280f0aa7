-- The logs of a witness's obligations, and when they hold (this project's own).
use Rattle.std.specs.Prelude.{◌≡◌, ℕ, ◌<◌, List, [], None, length, slice_index_or}
use Rattle.propositional_logic.specs.Literal.{Literal}
use Rattle.refutation_log.specs.declared.entries.Entry.{Entry}
use Rattle.refutation_log.specs.Log.{IsClosed}
use Rattle.truth_witness.specs.declared.witnesses.Obligation.{Obligation}
use Rattle.truth_witness.specs.Logs.{ObligationLog}
use Rattle.truth_witness.specs.Witness.{Claim}
use Rattle.truth_witness.specs.Obligations.{clauses_of, variables_of}
use Rattle.witness_check.specs.Order.{obligation_at, obligation_count, place_of}

-- the log at a place
abbrev pub log_at : List ObligationLog → ℕ → ObligationLog
log_at logs k = slice_index_or logs k (record { vars = 0; base = 0; entries = [] })

-- the entries for an obligation
abbrev pub entries_for : List ObligationLog → Obligation → List Entry
entries_for logs o = (log_at logs (place_of o)).entries

-- the log has the right head, and is closed over these base clauses
pub record HoldsOver (vars : ℕ) (clauses : List (List Literal)) (log : ObligationLog) : Type 0 where
  pub same_vars : log.vars ≡ vars
  pub same_base : log.base ≡ length clauses
  pub closed : IsClosed vars clauses None log.entries

-- the same of the log at a place, over the base clauses of the obligation there
abbrev pub HoldsAt : Claim → List ObligationLog → ℕ → Type 0
HoldsAt x logs k = HoldsOver (variables_of x (obligation_at k)) (clauses_of x (obligation_at k)) (log_at logs k)

-- each of the first n logs holds
abbrev pub FirstHold : Claim → List ObligationLog → ℕ → Type 0
FirstHold x logs n = (k : ℕ) → k < n → HoldsAt x logs k

-- each log holds
abbrev pub AllHold : Claim → List ObligationLog → Type 0
AllHold x logs = FirstHold x logs (obligation_count x.witness)
