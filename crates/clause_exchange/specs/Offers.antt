use Rattle.std.specs.Prelude.{◌≡◌, ℕ, List, Option, None, Result, Ok, Err}
use Rattle.refutation_log.specs.declared.entries.Entry.{Entry}
use Rattle.refutation_log.specs.declared.turns.Turn.TheVariants.{Append}
use Rattle.refutation_log.specs.declared.turns.Reply.{Reply}
use Rattle.refutation_log.specs.State.{Log}
use Rattle.refutation_log.specs.Turn.{reply_of, log_after}
use Rattle.clause_exchange.specs.declared.exchange.Refused.{Refused}
use Rattle.names_and_numbers.specs.Prefix.{IsPrefix}
use Rattle.clause_exchange.specs.Rule.{HasRoom}

-- What an offer leaves of the log: the log of the turn, with its reply, or the same log, where there is no limit and no memory.
abbrev pub IsOfferedTo : Option ℕ → Log → Entry → Result Reply Refused → Log → Type 0
IsOfferedTo limit old entry (Ok reply) new = (reply ≡ reply_of old.entries limit (Append entry)) × (new.entries ≡ log_after old.entries limit (Append entry)) × HasRoom limit new
IsOfferedTo limit old entry (Err refused) new = (refused.entry ≡ entry) × (new.entries ≡ old.entries) × HasRoom limit new × (limit ≡ None)

-- What copying leaves in the list: the whole log, or a part of it from its beginning where memory was wanted.
abbrev pub IsCopiedOf : {X : Type 0} → List Entry → Result (Unit {0}) X → List Entry → Type 0
IsCopiedOf log (Ok _) into = into ≡ log
IsCopiedOf log (Err _) into = IsPrefix into log
