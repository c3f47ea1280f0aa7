use Rattle.std.specs.Prelude.{◌≡◌, ℕ, ◌<◌, List, [], All}
use Rattle.names_and_numbers.specs.Prefix.{IsPrefix}
use Rattle.atomic_table.specs.Seated.{TableId}
use Rattle.refutation_log.specs.declared.entries.Entry.{Entry}
use Rattle.refutation_log.specs.declared.turns.Turn.TheVariants.{Append}
use Rattle.refutation_log.specs.declared.turns.Reply.{Reply}
use Rattle.refutation_log.specs.Log.{IsLegal}
use Rattle.refutation_log.specs.Teaches.{entries_by, IsTaught}
use Rattle.refutation_log.specs.Turn.{reply_of, log_after, log_replied}
use Rattle.clause_exchange.specs.declared.views.Terms.{Terms}

-- What an `Exchange` is seen as: which one it is, which no other shares with it, and what it was opened with.
pub record SharedLog : Type 0 where
  pub id : TableId
  pub terms : Terms

-- What a `Pass` is seen as: its exchange, its number there, the list of entries that it has seen, and those that it added.
pub record PassView : Type 0 where
  pub exchange : SharedLog
  pub number : ℕ
  pub seen : List Entry
  pub own : List Entry

-- A log that passes on these terms may leave: legal and taught over the base clauses, with entries of these passes alone.
pub record IsLogOn (terms : Terms) (log : List Entry) : Type 0 where
  pub legal : IsLegal terms.vars terms.base terms.limit log
  pub taught : IsTaught terms.base log
  pub of_passes : All (λ e. e.by < terms.seats) log

-- A pass that has just been given out.
abbrev pub new_pass : SharedLog → ℕ → PassView
new_pass exchange number = record { exchange = exchange; number = number; seen = []; own = [] }

-- What every turn leaves of a pass: it is the same pass of the same exchange, it has seen a log which begins with all that it had
-- seen, and of the entries of that log its own are those that bear its number, in their order.
pub record IsAfterTurn (old new : PassView) : Type 0 where
  pub exchange : new.exchange ≡ old.exchange
  pub number : new.number ≡ old.number
  pub seen : IsPrefix old.seen new.seen
  pub log : IsLogOn old.exchange.terms new.seen
  pub own_stand : new.own ≡ entries_by old.number new.seen

-- An entry was offered in a turn: there was a log at this turn, which begins with all that the pass had seen. The reply is that of
-- the turn on this log, the pass has seen the log after it, and the entry is one more of its own exactly where it was taken.
pub record IsOffered (entry : Entry) (reply : Reply) (old new : PassView) : Type 0 where
  pub log : List Entry
  pub begins : IsPrefix old.seen log
  pub reply_is : reply ≡ reply_of log old.exchange.terms.limit (Append entry)
  pub seen_after : new.seen ≡ log_after log old.exchange.terms.limit (Append entry)
  pub own_after : new.own ≡ log_replied old.own entry reply

-- The log of a closed exchange holds what one of its passes has seen, at its beginning, and of the pass's own entries each once, in
-- their order, with no others that bear its number.
pub record HoldsAllOf (log : List Entry) (pass : PassView) : Type 0 where
  pub seen : IsPrefix pass.seen log
  pub own : entries_by pass.number log ≡ pass.own
