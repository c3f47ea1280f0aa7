use Rattle.std.specs.Prelude.{◌≡◌, List}
use Rattle.refutation_log.specs.declared.entries.Entry.{Entry}
use Rattle.names_and_numbers.specs.Prefix.{IsPrefix}
use Rattle.clause_exchange.specs.SharedLog.{PassView}
use Rattle.clause_solver.specs.Worker.{WorkerModel, IsWorkingOn}

-- A seat goes on: it is the same seat at the same log, and has seen all that it had seen of it, and maybe more (this project's own).
pub record GoesOn (old new : PassView) : Type 0 where
  pub exchange : new.exchange ≡ old.exchange
  pub number : new.number ≡ old.number
  pub seen : IsPrefix old.seen new.seen

-- What a seat's worker and list of entries have to do with its pass: the worker bears the pass's number, and works on the base clauses
-- and on the entries that the list holds, which are the first ones of those that the pass has seen.
pub record IsWorkOf (pass : PassView) (worker : WorkerModel) (entries : List Entry) : Type 0 where
  pub number : worker.number ≡ pass.number
  pub vars : worker.trail.vars ≡ pass.exchange.terms.vars
  pub begins : IsPrefix entries pass.seen
  pub working : IsWorkingOn pass.exchange.terms.base entries worker
