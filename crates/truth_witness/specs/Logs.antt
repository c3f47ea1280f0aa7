-- The logs of a witness's obligations (this project's own).
use Rattle.std.specs.Prelude.{ℕ, List}
use Rattle.refutation_log.specs.declared.entries.Entry.{Entry}

-- a log with the numbers of variables and of base clauses that its head says
pub record ObligationLog : Type 0 where
  pub vars : ℕ
  pub base : ℕ
  pub entries : List Entry
