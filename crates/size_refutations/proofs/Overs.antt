-- The line at which a log fails over a problem and letters.
use Rattle.std.proofs.Common.{◌≡◌, ℕ, ◌+◌, ◌<◌, Bool, true, false, cond, Option, Some, None, List, length, refl, sym, subst, ◌∙◌, arith}
use Rattle.propositional_logic.specs.Literal.{Literal}
use Rattle.machine_model.specs.declared.problems.Problem.{Problem}
use Rattle.refutation_log.specs.declared.entries.Entry.{Entry}
use Rattle.refutation_log.specs.Log.{is_ended, IsLegal}
use Rattle.log_checker.specs.declared.faults.LogFault.{LogFault}
use Rattle.log_checker.specs.declared.faults.LogFault.TheVariants.{BadHint, NotFalsified, Repeated, NotClosed, AfterEnd, OverLimit, NoMemory}
use Rattle.log_checker.specs.Faults.{IsLogFault}
use Rattle.log_checker.specs.Causes.{IsOpenFault}
use Rattle.letter_clauses.specs.BaseClauses.{base_clauses}
use Rattle.letter_clauses.specs.Variables.{variables_of}
use Rattle.solved_text.specs.Parts.{SizeLog}
use Rattle.size_refutations.specs.FirstBad.{FailsOver, bad_entry, left_open, is_good}
use Rattle.size_refutations.specs.Heads.{has_numbers}
use Rattle.size_refutations.specs.Parts.{entry_named, line_behind}
use Rattle.size_refutations.proofs.Placed.{place_named}

-- a fault of a legal log's test that isn't want of memory is the log's
log_fault : (vars : ℕ) (base : List (List Literal)) (log : List Entry) (fault : LogFault) → (fault ≡ NoMemory → ⊥) → IsOpenFault vars base None log fault
    → IsLogFault base None log fault
log_fault vars base log (BadHint e) never is = is
log_fault vars base log (NotFalsified e) never is = is
log_fault vars base log (Repeated e) never is = is
log_fault vars base log NotClosed never is = absurd is
log_fault vars base log (AfterEnd e) never is = is
log_fault vars base log (OverLimit e) never is = is
log_fault vars base log NoMemory never is = absurd (never refl)

module _ (p : Problem) (letters : List ℕ) (l : SizeLog) (vars : ℕ) (base : List (List Literal)) (entries : List Entry)
    (vars_are : vars ≡ variables_of p letters) (base_is : base ≡ base_clauses p letters) (entries_are : entries ≡ l.entries) (numbers : has_numbers p letters l ≡ true) where
  its_fault : (fault : LogFault) → (fault ≡ NoMemory → ⊥) → IsOpenFault vars base None entries fault → IsLogFault (base_clauses p letters) None l.entries fault
  its_fault fault never is =
      subst (λ (log : List Entry). IsLogFault (base_clauses p letters) None log fault) entries_are
      (subst (λ (b : List (List Literal)). IsLogFault b None entries fault) base_is (log_fault vars base entries fault never is))

  its_legal : IsLegal vars base None entries → IsLegal (variables_of p letters) (base_clauses p letters) None l.entries
  its_legal legal =
      subst (λ (log : List Entry). IsLegal (variables_of p letters) (base_clauses p letters) None log) entries_are
      (subst (λ (b : List (List Literal)). IsLegal (variables_of p letters) b None entries) base_is
      (subst (λ (v : ℕ). IsLegal v base None entries) vars_are legal))

  pub fault_fails : (fault : LogFault) (n : ℕ) → (fault ≡ NoMemory → ⊥) → IsOpenFault vars base None entries fault → n ≡ entry_named fault
      → FailsOver p letters l (Some (l.line + 1 + n))
  fault_fails fault n never is names =
      let found = its_fault fault never is in
      let here : n ≡ found.0 = names ∙ place_named (base_clauses p letters) None l.entries fault found.0 found.1 in
      subst (λ (m : ℕ). FailsOver p letters l (Some (l.line + 1 + m))) (sym here) (bad_entry fault found.0 numbers found.1)

  pub fault_within : (fault : LogFault) (n : ℕ) → (fault ≡ NoMemory → ⊥) → IsOpenFault vars base None entries fault → n ≡ entry_named fault → n < length l.entries
  fault_within fault n never is names =
      let found = its_fault fault never is in
      let here : n ≡ found.0 = names ∙ place_named (base_clauses p letters) None l.entries fault found.0 found.1 in
      let high = found.1.high in
      omega (arith, here, high)

  pub ended_by : (o : Option ℕ) → IsLegal vars base None entries → o ≡ line_behind l → FailsOver p letters l o
  ended_by o legal is = subst (FailsOver p letters l) (sym is) (behind (is_ended l.entries) refl)
    where
      behind : (b : Bool) → is_ended l.entries ≡ b → FailsOver p letters l (cond b None (Some (l.line + 1 + length l.entries)))
      behind true e = is_good numbers (its_legal legal) e
      behind false e = left_open numbers (its_legal legal) e
