-- From a reply to the answer.
use Rattle.std.specs.Prelude.{IfOk}
use Rattle.std.proofs.Common.{◌≡◌, ℕ, List, Option, Some, Result, Ok, Err, refl, ap, subst}
use Rattle.letters_and_lassos.specs.declared.kinds.Kind.{Kind}
use Rattle.letters_and_lassos.specs.declared.kinds.Kind.TheVariants.{Mealy}
use Rattle.spec_faults.specs.declared.code.SpecCode.{SpecCode}
use Rattle.spec_faults.specs.declared.code.SpecFault.{SpecFault}
use Rattle.spec_faults.specs.declared.code.SpecFault.TheVariants.{At, NoMemory}
use Rattle.tlsf_expand.specs.FlatText.{spec_seen}
use Rattle.spec_problems.specs.declared.texts.TextProblems.{TextProblems}
use Rattle.spec_problems.specs.OfFormula.{AreProblems}
use Rattle.spec_problems.specs.Laws.{ProblemsOfTextsAreDetermined}
use Rattle.spec_problems.specs.OfText.{IsFirstFault}
use Rattle.document_text.specs.declared.documents.DocumentFault.{DocumentFault}
use Rattle.document_text.specs.declared.documents.DocumentFault.TheVariants as fault
use Rattle.document_text.specs.Parts.{Document}
use Rattle.document_text.specs.States.{States}
use Rattle.document_check.specs.Facts.{Facts}
use Rattle.document_check.specs.FirstBad.{IsFirstBadFor}
use Rattle.document_check.specs.Holds.{HoldsFor}
use Rattle.program_replies.specs.declared.replies.Status.{Status}
use Rattle.program_replies.specs.Refusals.{IsRefusal, RefusedBy}
use Rattle.program_replies.specs.Statuses.{status_number}
use Rattle.text_ground.specs.Ground.{given_by}
use Rattle.text_ground.specs.Texts.{AreOfText, IfProblems}
use Rattle.text_ground.proofs.TextFacts.{facts_are}
use Rattle.text_ground.specs.declared.texts.Problems.{Problems}
use Rattle.text_ground.specs.declared.texts.Problems.TheVariants.{Of, Refused}
use Rattle.solve_ground.specs.declared.texts.SolveText.{SolveText}
use Rattle.solve_ground.specs.Laws.{SolveTextsAreDetermined}
use Rattle.solve_ground.specs.SolveText.{IsSolveFault, IsSolveText}
use Rattle.limit_laws.specs.Taken.{SmallTextsAreTaken}
use Rattle.solved_text.specs.declared.header.Header.{Header}
use Rattle.solved_text.specs.Reading.{IsSixth}
use Rattle.solve_check.specs.Asked.{IsAsked, IsAskedText, as_given, converted, in_vain, kind_said}
use Rattle.solve_check.specs.Checked.{IsReady}
use Rattle.check_answer.specs.Answer.{CheckAnswers, GivenToCheck, IsTakenBySolve, SolvedAnswers}
use Rattle.check_answer.specs.Answer as answer
use Rattle.check_answer.specs.Reply.{AreForCertificates, IsAcceptance, IsForCheck, IsHeaderOf, IsLineRefusal}
use Rattle.machine_model.specs.declared.counting.Counts.TheVariants.{Whole}
use Rattle.check_answer.proofs.Accepted.{Context, is_accepted}

-- a text's problems are what `check` tests against
pub for_certificates : {E : Type 0} (text : List ℕ) (found : Result Problems E) → IfOk found (AreOfText Whole text (Some Mealy))
    → IfOk found (IfProblems (λ t. AreProblems t.problems)) → IfOk found (AreForCertificates text)
for_certificates text (Ok (Of t)) of_text meet = record {
  text_with = of_text;
  facts = facts_are (spec_seen t.spec) t.problems meet;
  meet = meet;
}
for_certificates text (Ok (Refused reply)) first meet = first
for_certificates text (Err e) of_text meet = tt

-- a text that has a fault as `solve` takes it too is refused in any case
pub refused_in_any_case : (text certificate bytes larger : List ℕ) (status other : ℕ) → RefusedBy (IsFirstFault text (Some Mealy)) bytes status
    → RefusedBy (IsSolveFault text (Some Mealy)) larger other → CheckAnswers text certificate bytes status
refused_in_any_case text certificate bytes larger status other r too =
    answer.refused r.code r.place r.status_is r.fault (answer.refused_by_solve too.code too.place too.fault) r.line

-- a text's first fault answers certificates of the versions before 6
pub refused_alone : (text certificate bytes : List ℕ) (status : ℕ) → RefusedBy (IsFirstFault text (Some Mealy)) bytes status → (IsSixth certificate → ⊥)
    → CheckAnswers text certificate bytes status
refused_alone text certificate bytes status first isnt =
    answer.refused first.code first.place first.status_is first.fault (answer.of_earlier_version isnt) first.line

-- a text with problems has no fault as `solve` takes it
pub taken_by_solve : SmallTextsAreTaken → ProblemsOfTextsAreDetermined → (text : List ℕ) (t : TextProblems) → IsForCheck text t → IsTakenBySolve text
taken_by_solve small problems text t known = record {
  none = small text (Some Mealy) (λ code place. problems.no_fault text (Some Mealy) Whole (spec_seen t.spec) t.problems code place known.text_with.are);
}

-- a text that `solve` takes has no fault with the kind that a document says
pub asked_fault : SolveTextsAreDetermined → (text certificate bytes : List ℕ) (header : Header) (found : SpecFault) (ended : Status) → IsTakenBySolve text
    → ((code : SpecCode) (place : ℕ) → found ≡ At code place → IsSolveFault text (Some (kind_said header)) code place) → IsRefusal found bytes ended
    → CheckAnswers text certificate bytes (status_number ended)
asked_fault texts text certificate bytes header (At code place) ended taken fault is =
    absurd (taken.none code place (texts.any_kind text (kind_said header) Mealy code place (fault code place refl)))
asked_fault texts text certificate bytes header NoMemory ended taken fault is = absurd is

-- a certificate of version 6 that is tested against the text as it asks for it
pub solved_answers : (text certificate : List ℕ) (header : Header) (known : SolveText) (bytes : List ℕ) (status : ℕ) → IsSixth certificate → IsTakenBySolve text
    → IsHeaderOf certificate header → (asked : IsAskedText text header known) → SolvedAnswers text asked.given known certificate bytes status
    → CheckAnswers text certificate bytes status
solved_answers text certificate header known bytes status sixth taken of asked is =
    answer.of_solved (record {
      sixth = sixth;
      taken = taken;
      lines = of.lines;
      reads = of.reads;
      given = asked.given;
      known = known;
      asked = subst (λ (h : Header). IsAsked text h asked.given known) of.is asked.asked;
    }) is

-- the text that a document asks for is one that `solve` takes
pub asked_is : (text : List ℕ) (header : Header) (given : Option Kind) (known : SolveText) → IsAsked text header given known → IsSolveText text given known
asked_is text header _ _ (as_given t unsaid is) = is
asked_is text header _ _ (converted t said is so) = is
asked_is text header _ _ (in_vain t said cannot is) = is

-- what a text that is known gives to the test of a document
pub is_ready : (text : List ℕ) (given : Option Kind) (known : SolveText) → IsSolveText text given known → IsReady known
is_ready text given known is = record {
  negated = is.negated.stands;
  normal = is.normal.stands;
  forms = record { negated = is.negated.normal; normal = is.normal.normal };
  few_inputs = is.few_inputs;
  few_outputs = is.few_outputs;
}

module _ (text certificate : List ℕ) (t : TextProblems) (k : Context text t) (facts : Facts) (same : facts ≡ given_by (spec_seen t.spec) t.problems) where
  abbrev of_text : GivenToCheck text
  of_text = record { spec = spec_seen t.spec; problems = t.problems; are_problems = k.taken.text_with.are }

  pub line_answers : (found : DocumentFault) (bytes : List ℕ) (ended : Status) → ((n : ℕ) → found ≡ fault.BadLine n → IsFirstBadFor facts certificate n)
      → (IsSixth certificate → ⊥) → IsLineRefusal found bytes ended → CheckAnswers text certificate bytes (status_number ended)
  line_answers (fault.BadLine n) bytes ended first isnt is =
      answer.bad_line of_text n (ap status_number is.1) isnt (subst (λ (x : Facts). IsFirstBadFor x certificate n) same (first n refl)) is.0
  line_answers fault.NoMemory bytes ended first isnt is = absurd is

  pub document_answers : (d : Document) (bytes : List ℕ) (ended : Status) → States certificate d → HoldsFor facts d → (IsSixth certificate → ⊥)
      → IsAcceptance d.verdict d.kind bytes ended → CheckAnswers text certificate bytes (status_number ended)
  document_answers d bytes ended states holds isnt is =
      answer.accepted of_text d (ap status_number is.1) isnt (is_accepted text t k certificate d states (subst (λ (x : Facts). HoldsFor x d) same holds)) is.0
