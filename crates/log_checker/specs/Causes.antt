use Rattle.std.specs.Prelude.{◌≡◌, ℕ, ⊤, List, Option, Some, None, length}
use Rattle.propositional_logic.specs.Literal.{Literal}
use Rattle.refutation_log.specs.declared.entries.Entry.{Entry}
use Rattle.log_checker.specs.declared.faults.LogFault.{LogFault}
use Rattle.log_checker.specs.declared.faults.LogFault.TheVariants.{BadHint, NotFalsified, Repeated, NotClosed, AfterEnd, OverLimit, NoMemory}
use Rattle.log_checker.specs.Faults.{IsFoundAt, FindsNone, IsLogFault, IsLegalAndOpen}

-- When a check that wants a legal log answers a fault: exactly where it is the log's first fault. Want of memory is free.
abbrev pub IsOpenFault : ℕ → List (List Literal) → Option ℕ → List Entry → LogFault → Type 0
IsOpenFault vars base limit log NoMemory = ⊤
IsOpenFault vars base limit log NotClosed = ⊥
IsOpenFault vars base limit log (BadHint e) = IsLogFault base limit log (BadHint e)
IsOpenFault vars base limit log (NotFalsified e) = IsLogFault base limit log (NotFalsified e)
IsOpenFault vars base limit log (Repeated e) = IsLogFault base limit log (Repeated e)
IsOpenFault vars base limit log (AfterEnd e) = IsLogFault base limit log (AfterEnd e)
IsOpenFault vars base limit log (OverLimit e) = IsLogFault base limit log (OverLimit e)

-- The same of a check that wants a closed log: it answers NotClosed exactly where the log is legal and not ended by the empty clause.
abbrev pub IsClosedFault : ℕ → List (List Literal) → Option ℕ → List Entry → LogFault → Type 0
IsClosedFault vars base limit log NoMemory = ⊤
IsClosedFault vars base limit log NotClosed = IsLegalAndOpen vars base limit log
IsClosedFault vars base limit log (BadHint e) = IsLogFault base limit log (BadHint e)
IsClosedFault vars base limit log (NotFalsified e) = IsLogFault base limit log (NotFalsified e)
IsClosedFault vars base limit log (Repeated e) = IsLogFault base limit log (Repeated e)
IsClosedFault vars base limit log (AfterEnd e) = IsLogFault base limit log (AfterEnd e)
IsClosedFault vars base limit log (OverLimit e) = IsLogFault base limit log (OverLimit e)

-- A test finds this fault first in a whole log, at this place; or none, and the place is the log's length.
abbrev pub IsPlaced : (List Entry → Entry → Option LogFault) → List Entry → ℕ → Option LogFault → Type 0
IsPlaced test log place None = (place ≡ length log) × FindsNone test log 0 (length log)
IsPlaced test log place (Some fault) = IsFoundAt test log 0 (length log) fault place
