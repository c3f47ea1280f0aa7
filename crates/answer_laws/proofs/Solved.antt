-- What `solve` prints for a text is accepted: `check` takes the text as the document asks for it, which is how `solve` took it.
use Rattle.std.proofs.Common.{◌≡◌, ℕ, true, false, Option, Some, None, List, refl, sym, ap, subst, ◌∙◌}
use Rattle.std.specs.Prelude.{◌≢◌, is_some, unwrap_or}
use Rattle.std.proofs.lemmas.Bool.{and_parts}
use Rattle.std_lemmas.proofs.Booleans.{beq-true}
use Rattle.letters_and_lassos.specs.declared.kinds.Kind.{Kind}
use Rattle.letters_and_lassos.specs.declared.kinds.Kind.TheVariants.{Mealy, Moore}
use Rattle.letters_and_lassos.specs.contracts.kinds.KindPartialEq.TheImpl.{ghosts as kind_ghosts}
use Rattle.spec_faults.specs.declared.code.SpecCode.{SpecCode}
use Rattle.solved_text.specs.declared.header.Header.{Header}
use Rattle.solved_text.specs.Laws.{SolvedAreDetermined}
use Rattle.solved_text.specs.Parts.{Document}
use Rattle.solved_text.specs.Reading.{IsSixth, Reads, SolvedLines, document_of}
use Rattle.solve_ground.specs.declared.texts.SolveText.{SolveText}
use Rattle.solve_ground.specs.Laws.{SolveTextsAreDetermined}
use Rattle.solve_ground.specs.SolveText.{IsSolveFault, IsSolveText}
use Rattle.solve_check.specs.Accepted.{IsAcceptedSolved}
use Rattle.solve_check.specs.Asked.{IsAskedText, as_given, converted, kind_said}
use Rattle.solve_check.specs.Given.{is_taken_so}
use Rattle.solve_check.specs.Line.{accepted_line, acceptance_of}
use Rattle.solve_check.proofs.Held.{document_is}
use Rattle.taken_laws.specs.Laws.{OwnKindsAreGiven}
use Rattle.check_answer.specs.Answer.{CheckAnswers, GivenToSolved, IsUntested, accepted, bad_line, of_earlier_version, of_solved, refused, refused_by_solve}
use Rattle.check_answer.specs.Laws.{ChecksAreDetermined}
use Rattle.solve_answer.specs.Answer.{LogLimits, SolveAnswers}
use Rattle.solve_answer.specs.Answer as solve
use Rattle.answer_laws.specs.Solved.{IsSolutionAccepted, SolutionsAreAccepted, status_told}

-- what is known of texts, of documents and of `check`
pub record LawsHold : Type 0 where
  pub documents : SolvedAreDetermined
  pub checks : ChecksAreDetermined
  pub texts : SolveTextsAreDetermined
  pub kinds : OwnKindsAreGiven

same_kind : (a b : Kind) → kind_ghosts.eq a b ≡ true → a ≡ b
same_kind Mealy Mealy is = refl
same_kind Moore Moore is = refl
same_kind Mealy Moore is = cc
same_kind Moore Mealy is = cc

-- == the header ==

-- the header says the document's kind, and whether the text is converted
record HeaderSays (header : Header) (d : Document) : Type 0 where
  kind : kind_said header ≡ d.kind
  converted_is : header.converted ≡ d.converted

says : (bytes : List ℕ) (lines : SolvedLines) (d : Document) → document_of bytes lines ≡ Some d → HeaderSays lines.header d
says bytes lines d is =
    let whole = document_is bytes lines d is in
    record { kind = ap (λ (o : Option Kind). unwrap_or o Mealy) whole.kind; converted_is = whole.converted }

module _ (laws : LawsHold) (text : List ℕ) where
  -- == a text that `solve` takes, in whichever way ==

  -- it is taken with the kind of its machines given, too, unless it is converted
  given_so : (given : Option Kind) (t : SolveText) → IsSolveText text given t → t.semantics ≡ None → IsSolveText text (Some t.kind) t
  given_so None t is plain = laws.kinds.plain text t is plain
  given_so (Some kind) t is plain = subst (λ (k : Kind). IsSolveText text (Some k) t) (sym (is.kind_is ∙ is.taken.kind_is)) is

  -- one that is converted is taken by its own kinds
  own_kinds : (given : Option Kind) (t : SolveText) (kind : Kind) → IsSolveText text given t → t.semantics ≡ Some kind → IsSolveText text None t
  own_kinds None t kind is some = is
  own_kinds (Some other) t kind is some = let clash : None ≡ Some kind = sym is.semantics ∙ some in absurd (cc)

  no_fault_so : (given : Option Kind) (t : SolveText) (code : SpecCode) (place : ℕ) → IsSolveText text given t → IsSolveFault text (Some t.kind) code place → ⊥
  no_fault_so None t code place is fault = laws.kinds.no_fault text t code place is fault
  no_fault_so (Some kind) t code place is fault =
      laws.texts.no_fault text (Some t.kind) t code place (subst (λ (k : Kind). IsSolveText text (Some k) t) (sym (is.kind_is ∙ is.taken.kind_is)) is) fault

  module _ (given : Option Kind) (bytes : List ℕ) (d : Document) (x : IsAcceptedSolved text given bytes d) where
    abbrev known : SolveText
    known = x.known

    kind_is : known.kind ≡ d.kind
    kind_is = same_kind known.kind d.kind (and_parts _ _ x.holds.taken).0

    converted_is : is_some known.semantics ≡ d.converted
    converted_is = beq-true (is_some known.semantics) d.converted (and_parts _ _ x.holds.taken).1

    -- the text is asked for as `solve` took it
    asked : (header : Header) → HeaderSays header d → IsAskedText text header known
    asked header h = by known.semantics refl
      where
        said : kind_said header ≡ known.kind
        said = h.kind ∙ sym kind_is

        by : (o : Option Kind) → known.semantics ≡ o → IsAskedText text header known
        by None plain =
            let unsaid : header.converted ≡ false = h.converted_is ∙ sym converted_is ∙ ap is_some plain in
            record {
              given = Some (kind_said header);
              asked = as_given known unsaid (subst (λ (k : Kind). IsSolveText text (Some k) known) (sym said) (given_so given known x.is_known plain));
            }
        by (Some kind) some =
            let is : d.converted ≡ true = sym converted_is ∙ ap is_some some in
            let back : true ≡ d.converted = sym is in
            record {
              given = None;
              asked = converted known (h.converted_is ∙ is) (own_kinds given known kind x.is_known some)
                  ((λ i. is_taken_so known (h.kind i) (back i)) ∙ x.holds.taken);
            }

    -- == the answer ==

    sixth : IsSixth bytes
    sixth = laws.documents.of_version bytes d x.states

    no_fault : (code : SpecCode) (place : ℕ) → IsSolveFault text (Some Mealy) code place → ⊥
    no_fault code place fault = no_fault_so given known code place x.is_known (laws.texts.any_kind text Mealy known.kind code place fault)

    tested : IsUntested text bytes → ⊥
    tested (of_earlier_version isnt) = isnt sixth
    tested (refused_by_solve code place fault) = no_fault code place fault

    given_to : (lines : SolvedLines) → Reads bytes lines → GivenToSolved text bytes
    given_to lines reads =
        let a : IsAskedText text lines.header known = asked lines.header (says bytes lines d (laws.documents.all_good bytes lines d reads x.states).1) in
        record {
          sixth = sixth;
          taken = record { none = no_fault };
          lines = lines;
          reads = reads;
          given = a.given;
          known = known;
          asked = a.asked;
        }

    checked : (line : List ℕ) (ended : ℕ) → CheckAnswers text bytes line ended → (ended ≡ 0) × (line ≡ accepted_line (acceptance_of known d))
    unfolding given_to
    checked line ended (refused code place is fault why told) = absurd (tested why)
    checked line ended (bad_line g n is isnt first told) = absurd (isnt sixth)
    checked line ended (accepted g e is isnt so told) = absurd (isnt sixth)
    checked line ended (of_solved g so) =
        laws.checks.of_solved_document text bytes line ended (given_to g.lines g.reads) d (of_solved g so) x.states x.holds

    pub is_accepted : (status : ℕ) → status ≡ status_told d.verdict → IsSolutionAccepted text given bytes status
    is_accepted status is = record { document = d; accepted = x; verdict = is; checked = checked }

  -- == what `solve` prints ==

  pub by_solve : (given : Option Kind) (limits : LogLimits) (bytes : List ℕ) (status : ℕ) → SolveAnswers text given limits bytes status → status ≢ 1
      → IsSolutionAccepted text given bytes status
  by_solve given limits bytes status (solve.refused code place is fault line) other = absurd (other is)
  by_solve given limits bytes status (solve.realizable n is p) other = is_accepted given bytes p.document p.accepted status (is ∙ sym (ap status_told p.verdict_is))
  by_solve given limits bytes status (solve.unrealizable n is p) other = is_accepted given bytes p.document p.accepted status (is ∙ sym (ap status_told p.verdict_is))
  by_solve given limits bytes status (solve.unknown is p) other = is_accepted given bytes p.document p.accepted status (is ∙ sym (ap status_told p.verdict_is))

pub solutions_are_accepted : LawsHold → SolutionsAreAccepted
solutions_are_accepted laws = record {
  by_solve = by_solve laws;
  by_solve_batch = λ names texts asked bytes b. record {
    count = b.each.count;
    each = λ k text part there here. record { accepted = by_solve laws text asked.given asked.limits part.lines part.status (b.each.each k text part there here) };
  };
}
