-- What is found out of a file.
use Rattle.std.proofs.Common.{◌≡◌, ℕ, ◌+◌, ◌≤◌, Bool, false, Option, Some, None, List, [], length, drop, refl, sym, ap, subst, ◌∙◌}
use Rattle.std.specs.Prelude.{◌↔◌, IsTrue, option_map, unwrap_or}
use Rattle.aiger_text.specs.declared.faults.CircuitFault.{CircuitFault}
use Rattle.aiger_text.specs.CircuitFile.{File, IsFirstFault, States}
use Rattle.aiger_text.specs.FileLaws.{FilesStateOneThing}
use Rattle.document_text.specs.Reading.{fault_line}
use Rattle.document_text.proofs.CommentLine.{comment_fits}
use Rattle.circuit_names.specs.Lines.{earliest, faulty_line}
use Rattle.circuit_names.proofs.Fitting.{some_earliest}
use Rattle.named_annotation.specs.NamedStates.{Named}
use Rattle.circuit_check.specs.Duty.{Owed}
use Rattle.circuit_check.specs.FirstBad.{Annotates, IsFirstBad, IsValidFor, comment_of, of_fault, of_pairs}
use Rattle.circuit_check.specs.Forms.{NamesStates, comment_names}
use Rattle.circuit_check.specs.Parts.{IsFoundOf, IsToldOf, KeepsItsDuty}

module _ (owed : Owed) (bytes : List ℕ) where
  -- a circuit with a fault
  pub fault_found : (fault : CircuitFault) (line : ℕ) (o : Option ℕ) → IsFirstFault bytes fault → line ≡ fault_line fault
      → o ≡ earliest (Some line) (faulty_line owed.names bytes) → IsFoundOf owed bytes o
  fault_found fault line None first is same = absurd (some_earliest line (faulty_line owed.names bytes) (sym same))
  fault_found fault line (Some n) first is same =
      of_fault fault n first (ap (λ (m : ℕ). earliest (Some m) (faulty_line owed.names bytes)) (sym is) ∙ sym same)

  -- an annotation that was read
  pub pairs_found : (file : File) (named : Named) (o : Option ℕ) → Annotates owed bytes file named → (IsValidFor owed file named → KeepsItsDuty owed file)
      → IsToldOf owed file named o → IsFoundOf owed bytes o
  pairs_found file named None annotates keeps told = record { file = file; named = named; annotates = annotates; valid = told; keeps = keeps told }
  pairs_found file named (Some n) annotates keeps told =
      subst (IsFirstBad owed bytes) (sym told.line) (of_pairs file named told.fault annotates told.some told.cause)

-- == the comment ==

-- a place that is told nothing of isn't there
pub none_mapped : (f : ℕ → List ℕ) (o : Option ℕ) → option_map f o ≡ None → o ≡ None
none_mapped f None none = refl
none_mapped f (Some at) none = absurd (cc)

short_by : (bytes comment : List ℕ) (line : ℕ) (o : Option ℕ) → option_map (λ at. drop at bytes) o ≡ Some comment
    → ((at : ℕ) → o ≡ Some at → line + length (drop at bytes) ≤ length bytes + 1) → line + length comment ≤ length bytes + 1
short_by bytes comment line None is fits = absurd (cc)
short_by bytes comment line (Some at) is fits =
    subst (λ (x : List ℕ). line + length x ≤ length bytes + 1) (ap (λ (o : Option (List ℕ)). unwrap_or o []) is) (fits at refl)

-- the comment's line and its bytes are at most one more than the file's bytes
pub comment_within : (bytes : List ℕ) (file : File) (comment : List ℕ) → States bytes file → comment_of file bytes ≡ Some comment
    → file.comment_line + length comment ≤ length bytes + 1
comment_within bytes file comment states is =
    short_by bytes comment file.comment_line file.comment_at is (λ at some. comment_fits bytes file at states some)

-- == the form of the annotation ==

module _ (one_thing : FilesStateOneThing) (bytes : List ℕ) (file : File) (states : States bytes file) where
  -- what the file's own comment is, another reading's is too
  same_comment : (is : NamesStates bytes) → comment_of file bytes ≡ Some is.comment
  same_comment is = ap (λ (x : File). comment_of x bytes) (one_thing bytes file is.file states is.states) ∙ is.comment_is

  pub names_there : (comment : List ℕ) (is : Bool) → comment_of file bytes ≡ Some comment → is ≡ comment_names comment → IsTrue is ↔ NamesStates bytes
  names_there comment is here same = (
    λ yes. record { file = file; states = states; comment = comment; comment_is = here; names = sym same ∙ yes },
    λ names.
        let one : comment ≡ names.comment = ap (λ (o : Option (List ℕ)). unwrap_or o []) (sym here ∙ same_comment names) in
        same ∙ ap comment_names one ∙ names.names,
  )

  pub names_nowhere : comment_of file bytes ≡ None → IsTrue false ↔ NamesStates bytes
  names_nowhere none =
      (λ yes. absurd (cc), λ names. let some : comment_of file bytes ≡ Some names.comment = same_comment names in absurd (cc))
