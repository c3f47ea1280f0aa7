use Rattle.std.specs.Prelude.{ℕ, ⊤, Bool, false, nat_le, if◌then◌else◌, List, [], ◌∷◌, ◌++◌, Option, Some, None, position, length, take}
use Rattle.std.specs.Option.{option_map_or}
use Rattle.propositional_logic.specs.Literal.{Literal}
use Rattle.propositional_logic.specs.Clause.{clause_eq, IsWithinVariables}
use Rattle.refutation_log.specs.declared.entries.Entry.{Entry}
use Rattle.refutation_log.specs.declared.turns.Turn.{Turn}
use Rattle.refutation_log.specs.declared.turns.Turn.TheVariants.{Append, Read}
use Rattle.refutation_log.specs.declared.turns.Reply.{Reply}
use Rattle.refutation_log.specs.declared.turns.Reply.TheVariants.{Known, Closed, Full, At, Seen}
use Rattle.refutation_log.specs.Entry.{clauses_of}
use Rattle.refutation_log.specs.Follows.{Follows}
use Rattle.refutation_log.specs.Log.{is_ended}

-- The place of an equal clause in the log, from 0 (this project's own).
abbrev pub clause_place : List Literal → List Entry → Option ℕ
clause_place clause log = position (clause_eq clause) (clauses_of log)

-- Whether there is a limit, and so many entries stand (this project's own).
abbrev pub is_at_limit : Option ℕ → List Entry → Bool
is_at_limit None log = false
is_at_limit (Some most) log = nat_le most (length log)

-- The reply to an entry whose clause isn't in the log (this project's own).
abbrev pub reply_to_new : List Entry → Option ℕ → Reply
reply_to_new log limit = if is_ended log then Closed else if is_at_limit limit log then Full else At (length log)

-- The reply to an entry with this clause (this project's own).
abbrev pub reply_to : List Entry → Option ℕ → List Literal → Reply
reply_to log limit clause = option_map_or (λ place. Known place) (clause_place clause log) (reply_to_new log limit)

-- The reply to a turn (this project's own).
abbrev pub reply_of : List Entry → Option ℕ → Turn → Reply
reply_of log limit Read = Seen (length log)
reply_of log limit (Append e) = reply_to log limit e.clause

-- The log after an entry was offered and got a reply (this project's own).
abbrev pub log_replied : List Entry → Entry → Reply → List Entry
log_replied log e (At _) = log ++ e ∷ []
log_replied log e (Known _) = log
log_replied log e Closed = log
log_replied log e Full = log
log_replied log e (Seen _) = log

-- The log after a turn: an append that is answered by At adds its entry, and nothing else changes (this project's own).
abbrev pub log_after : List Entry → Option ℕ → Turn → List Entry
log_after log limit Read = log
log_after log limit (Append e) = log_replied log e (reply_to log limit e.clause)

-- A run: the log after a list of turns, of any workers (this project's own).
abbrev pub run_of : List Entry → Option ℕ → List Turn → List Entry
run_of log limit [] = log
run_of log limit (turn ∷ turns) = run_of (log_after log limit turn) limit turns

-- An append is sound at its turn: no variable of its entry passes vars, and the entry follows from the base clauses and some first
-- entries of the log. Every read is sound (this project's own).
abbrev pub IsSoundTurn : ℕ → List (List Literal) → List Entry → Turn → Type 0
IsSoundTurn vars base log Read = ⊤
IsSoundTurn vars base log (Append e) = IsWithinVariables vars e.clause × ((n : ℕ) × Follows (base ++ clauses_of (take n log)) e.clause e.hints)

-- Each turn of a run is sound at its turn (this project's own).
abbrev pub IsSoundRun : ℕ → List (List Literal) → Option ℕ → List Entry → List Turn → Type 0
IsSoundRun vars base limit log [] = ⊤
IsSoundRun vars base limit log (turn ∷ turns) = IsSoundTurn vars base log turn × IsSoundRun vars base limit (log_after log limit turn) turns
