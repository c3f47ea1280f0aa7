-- The line at which a log fails.
use Rattle.std.proofs.Common.{◌≡◌, ℕ, ◌+◌, ◌<◌, Bool, true, false, Option, Some, None, List, length, refl, sym, ap, subst, ◌∙◌, arith}
use Rattle.propositional_logic.specs.Literal.{Literal}
use Rattle.machine_model.specs.declared.problems.Problem.{Problem}
use Rattle.annotation_encode.specs.BaseClauses.{base_clauses}
use Rattle.annotation_encode.specs.Variables.{variables_of}
use Rattle.refutation_log.specs.declared.entries.Entry.{Entry}
use Rattle.refutation_log.specs.Log.{IsLegal}
use Rattle.log_checker.specs.declared.faults.LogFault.{LogFault}
use Rattle.log_checker.specs.declared.faults.LogFault.TheVariants.{BadHint, NotFalsified, Repeated, NotClosed, AfterEnd, OverLimit, NoMemory}
use Rattle.log_checker.specs.Faults.{IsLogFault}
use Rattle.log_checker.specs.Causes.{IsOpenFault}
use Rattle.document_text.specs.Parts.{LogPart}
use Rattle.document_check.specs.FirstBad.{entry_of, has_numbers, suffices, LogFails, bad_entry, left_open, is_good}
use Rattle.document_check.proofs.FaultNumbers.{names_entry}

-- a fault of a legal log's test that isn't want of memory is the log's
pub log_fault : (vars : ℕ) (base : List (List Literal)) (limit : Option ℕ) (log : List Entry) (fault : LogFault) → (fault ≡ NoMemory → ⊥) → IsOpenFault vars base limit log fault
    → IsLogFault base limit log fault
log_fault vars base limit log (BadHint e) never is = is
log_fault vars base limit log (NotFalsified e) never is = is
log_fault vars base limit log (Repeated e) never is = is
log_fault vars base limit log NotClosed never is = absurd is
log_fault vars base limit log (AfterEnd e) never is = is
log_fault vars base limit log (OverLimit e) never is = is
log_fault vars base limit log NoMemory never is = absurd (never refl)

module _ (full : Bool) (limit : Option ℕ) (l : LogPart) (p : Problem) (vars : ℕ) (base : List (List Literal)) (entries : List Entry)
    (vars_are : vars ≡ variables_of p) (base_is : base ≡ base_clauses p) (entries_are : entries ≡ l.entries) (numbers : has_numbers l p ≡ true) where
  its_fault : (fault : LogFault) → (fault ≡ NoMemory → ⊥) → IsOpenFault vars base limit entries fault → IsLogFault (base_clauses p) limit l.entries fault
  its_fault fault never is =
      subst (λ (log : List Entry). IsLogFault (base_clauses p) limit log fault) entries_are
      (subst (λ (b : List (List Literal)). IsLogFault b limit entries fault) base_is (log_fault vars base limit entries fault never is))

  its_legal : IsLegal vars base limit entries → IsLegal (variables_of p) (base_clauses p) limit l.entries
  its_legal legal =
      subst (λ (log : List Entry). IsLegal (variables_of p) (base_clauses p) limit log) entries_are
      (subst (λ (b : List (List Literal)). IsLegal (variables_of p) b limit entries) base_is
      (subst (λ (v : ℕ). IsLegal v base limit entries) vars_are legal))

  pub fault_fails : (fault : LogFault) (n : ℕ) → (fault ≡ NoMemory → ⊥) → IsOpenFault vars base limit entries fault → n ≡ entry_of fault
      → LogFails full limit l p (Some (l.line + 1 + n))
  fault_fails fault n never is names =
      subst (λ (m : ℕ). LogFails full limit l p (Some (l.line + 1 + m))) (sym names) (bad_entry fault numbers (its_fault fault never is))

  pub fault_within : (fault : LogFault) (n : ℕ) → (fault ≡ NoMemory → ⊥) → IsOpenFault vars base limit entries fault → n ≡ entry_of fault → n < length l.entries
  fault_within fault n never is names =
      let less = names_entry (base_clauses p) limit l.entries fault (its_fault fault never is) in
      omega (arith, less, names)

  pub enough : IsLegal vars base limit entries → suffices full limit entries ≡ true → LogFails full limit l p None
  enough legal is = is_good numbers (its_legal legal) (ap (λ (log : List Entry). suffices full limit log) (sym entries_are) ∙ is)

  pub too_open : (n : ℕ) → IsLegal vars base limit entries → suffices full limit entries ≡ false → n ≡ length l.entries → LogFails full limit l p (Some (l.line + 1 + n))
  too_open n legal is count =
      subst (λ (m : ℕ). LogFails full limit l p (Some (l.line + 1 + m))) (sym count)
      (left_open numbers (its_legal legal) (ap (λ (log : List Entry). suffices full limit log) (sym entries_are) ∙ is))
