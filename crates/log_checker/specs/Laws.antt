use Rattle.std.specs.Prelude.{◌≡◌, ℕ, List, Option, length}
use Rattle.propositional_logic.specs.Literal.{Literal}
use Rattle.refutation_log.specs.declared.entries.Entry.{Entry}
use Rattle.refutation_log.specs.Log.{IsLegal, IsClosed}
use Rattle.log_checker.specs.declared.faults.LogFault.{LogFault}
use Rattle.log_checker.specs.Faults.{entry_fault, FindsNone, IsLogFault, IsLegalAndOpen}
use Rattle.log_checker.specs.Hinted.{AreWithin}

-- A log is legal exactly where no entry of it breaks a rule, and a log has at most one first fault. So of the answers to a log one at
-- most is right.
pub record FaultsAreApart : Type 0 where
  pub legal : (vars : ℕ) (base : List (List Literal)) (limit : Option ℕ) (log : List Entry) → AreWithin vars log → FindsNone (entry_fault base limit) log 0 (length log) → IsLegal vars base limit log
  pub faultless : (vars : ℕ) (base : List (List Literal)) (limit : Option ℕ) (log : List Entry) → IsLegal vars base limit log → FindsNone (entry_fault base limit) log 0 (length log)
  pub one_fault : (base : List (List Literal)) (limit : Option ℕ) (log : List Entry) (f g : LogFault) → IsLogFault base limit log f → IsLogFault base limit log g → f ≡ g
  pub legal_has_none : (vars : ℕ) (base : List (List Literal)) (limit : Option ℕ) (log : List Entry) (f : LogFault) → IsLegal vars base limit log → IsLogFault base limit log f → ⊥
  pub closed_not_open : (vars : ℕ) (base : List (List Literal)) (limit : Option ℕ) (log : List Entry) → IsClosed vars base limit log → IsLegalAndOpen vars base limit log → ⊥
