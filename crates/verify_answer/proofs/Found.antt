-- What is found out of a file.
use Rattle.std.proofs.Common.{◌≡◌, ℕ, Option, Some, None, List, sym, ap, subst, ◌∙◌}
use Rattle.aiger_text.specs.declared.faults.CircuitFault.{CircuitFault}
use Rattle.aiger_text.specs.CircuitFile.{File, IsFirstFault}
use Rattle.annot_check.specs.Pairs.{Listed}
use Rattle.document_text.specs.Reading.{fault_line}
use Rattle.document_check.specs.Facts.{Facts}
use Rattle.circuit_names.specs.Lines.{earliest}
use Rattle.circuit_names.proofs.Fitting.{some_earliest}
use Rattle.document_check.specs.FirstBad.{faulty_line}
use Rattle.verify_answer.specs.FirstBad.{Annotates, IsFirstBadOfCircuit, of_fault, of_pairs}
use Rattle.verify_answer.specs.Reply.{IsFoundOf, IsToldOf}

module _ (facts : Facts) (bytes : List ℕ) where
  -- a circuit with a fault
  pub fault_found : (fault : CircuitFault) (line : ℕ) (o : Option ℕ) → IsFirstFault bytes fault → line ≡ fault_line fault
      → o ≡ earliest (Some line) (faulty_line facts bytes) → IsFoundOf facts bytes o
  fault_found fault line None first is same = absurd (some_earliest line (faulty_line facts bytes) (sym same))
  fault_found fault line (Some n) first is same =
      of_fault fault n first (ap (λ (m : ℕ). earliest (Some m) (faulty_line facts bytes)) (sym is) ∙ sym same)

  -- a list of pairs
  pub list_found : (file : File) (list : Listed) (o : Option ℕ) → Annotates facts bytes file list → IsToldOf facts file list o → IsFoundOf facts bytes o
  list_found file list None annotates told = record { file = file; list = list; annotates = annotates; shown = told }
  list_found file list (Some n) annotates told =
      subst (IsFirstBadOfCircuit facts bytes) (sym told.line) (of_pairs file list told.fault annotates told.some told.cause)
