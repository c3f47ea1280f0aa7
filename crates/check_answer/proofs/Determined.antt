-- A text and a certificate have one answer.
use Rattle.std.proofs.Common.{◌≡◌, ℕ, ◌⊎◌, inl, inr, List, Some, ap, length, sym, subst, ◌∙◌}
use Rattle.letters_and_lassos.specs.declared.kinds.Kind.TheVariants.{Mealy}
use Rattle.spec_faults.specs.declared.code.SpecCode.{SpecCode}
use Rattle.machine_model.specs.declared.counting.Counts.TheVariants.{Whole}
use Rattle.spec_problems.specs.Laws.{ProblemsOfTextsAreDetermined}
use Rattle.spec_problems.specs.OfText.{IsFirstFault}
use Rattle.document_text.specs.Laws.{DocumentsAreDetermined}
use Rattle.document_text.specs.Parts.{Document}
use Rattle.document_text.specs.States.{States}
use Rattle.document_check.specs.FirstBad.{IsFirstBadFor}
use Rattle.document_check.specs.Holds.{HoldsFor}
use Rattle.document_check.specs.Laws.{AlikeTextsCheckAlike, BadLinesAreDetermined}
use Rattle.program_replies.specs.Lines.{line_refusal, refusal_line}
use Rattle.text_ground.proofs.TextFacts.{facts_alike}
use Rattle.solve_ground.specs.Laws.{IsSameText, SolveTextsAreDetermined}
use Rattle.solved_text.specs.Laws.{SolvedAreDetermined}
use Rattle.solved_text.specs.Parts as solved_text
use Rattle.solved_text.specs.Reading.{IsSixth, SolvedLines}
use Rattle.solved_text.specs.States as solved_states
use Rattle.solve_check.specs.declared.acceptance.Acceptance.{Acceptance}
use Rattle.solve_check.specs.Asked.{IsAsked}
use Rattle.solve_check.specs.Checked.{IsAcceptedAs}
use Rattle.solve_check.specs.FirstBad.{IsFirstBadSolved}
use Rattle.solve_check.specs.Holds.{HoldsSolved}
use Rattle.solve_check.specs.Laws.{SolvedChecksAreDetermined}
use Rattle.solve_check.specs.Line as line
use Rattle.check_answer.specs.Answer.{CheckAnswers, GivenToCheck, GivenToSolved, IsUntested, SolvedAnswers, accepted, accepted_line, bad_line, facts_to_check, of_earlier_version, line_fails, of_solved, refused, refused_by_solve}
use Rattle.check_answer.specs.Answer as answer
use Rattle.check_answer.specs.Laws.{ChecksAreDetermined}
use Rattle.check_answer.proofs.Answered.{asked_is}
use Rattle.check_answer.proofs.SameText.{first_bad_same}
use Rattle.check_answer.proofs.SolveTexts.{AreAlike, same_asked}

-- what is known of texts, of documents and of the tests of documents
pub record AreLaws : Type 0 where
  pub texts : ProblemsOfTextsAreDetermined
  pub bad_lines : BadLinesAreDetermined
  pub documents : DocumentsAreDetermined
  pub alike : AlikeTextsCheckAlike
  pub solving : SolveTextsAreDetermined
  pub solved : SolvedAreDetermined
  pub checks : SolvedChecksAreDetermined

module _ (laws : AreLaws) (text certificate bytes : List ℕ) (status : ℕ) where
  -- == the versions before 6 ==

  moved : (g h : GivenToCheck text) (n : ℕ) → IsFirstBadFor (facts_to_check g) certificate n → IsFirstBadFor (facts_to_check h) certificate n
  moved g h n first =
      laws.alike.first_bad (facts_to_check g) (facts_to_check h) certificate n
      (facts_alike g.spec h.spec g.problems h.problems
      (laws.texts.one_text text (Some Mealy) Whole g.spec h.spec g.problems h.problems g.are_problems h.are_problems)
      (laws.texts.one text (Some Mealy) Whole g.spec h.spec g.problems h.problems g.are_problems h.are_problems)) first

  no_fault : (g : GivenToCheck text) (code : SpecCode) (position : ℕ) → IsFirstFault text (Some Mealy) code position → ⊥
  no_fault g code position fault = laws.texts.no_fault text (Some Mealy) Whole g.spec g.problems code position g.are_problems fault

  of_bad_line : (g : GivenToCheck text) (n : ℕ) → CheckAnswers text certificate bytes status → (IsSixth certificate → ⊥)
      → IsFirstBadFor (facts_to_check g) certificate n → (status ≡ 40) × (bytes ≡ line_refusal n)
  of_bad_line g n (refused c p ended fault why line) other first = absurd (no_fault g c p fault)
  of_bad_line g n (bad_line h m ended isnt found line) other first =
      let same : m ≡ n = laws.bad_lines.one_line (facts_to_check g) certificate m n (moved h g m found) first in
      (ended, line ∙ ap line_refusal same)
  of_bad_line g n (accepted h d ended isnt is line) other first =
      absurd (laws.bad_lines.holding_has_none (facts_to_check h) certificate d n is.states is.holds (moved g h n first))
  of_bad_line g n (of_solved h a) other first = absurd (other h.sixth)

  of_document : (g : GivenToCheck text) (d : Document) → CheckAnswers text certificate bytes status → (IsSixth certificate → ⊥)
      → States certificate d → HoldsFor (facts_to_check g) d → (status ≡ 0) × (bytes ≡ accepted_line d.verdict d.kind)
  of_document g d (refused c p ended fault why line) isnt states holds = absurd (no_fault g c p fault)
  of_document g d (bad_line h n ended other first line) isnt states holds =
      absurd (laws.bad_lines.holding_has_none (facts_to_check g) certificate d n states holds (moved h g n first))
  of_document g d (accepted h other ended earlier is line) isnt states holds =
      let same : other ≡ d = laws.documents.one_document certificate other d is.states states in
      (ended, line ∙ ap (λ (e : Document). accepted_line e.verdict e.kind) same)
  of_document g d (of_solved h a) isnt states holds = absurd (isnt h.sixth)

  -- == version 6 ==

  same_lines : (g h : GivenToSolved text certificate) → g.lines ≡ h.lines
  same_lines g h = laws.solved.one_reading certificate g.lines h.lines g.reads h.reads

  alike : (g h : GivenToSolved text certificate) → AreAlike g.given h.given g.known h.known
  alike g h =
      same_asked laws.solving text h.lines.header g.given h.given g.known h.known
      (subst (λ (l : SolvedLines). IsAsked text l.header g.given g.known) (same_lines g h) g.asked) h.asked

  -- the same line is the first bad one, whichever way the text was asked for
  carried : (g h : GivenToSolved text certificate) (n : ℕ) → IsFirstBadSolved g.known certificate n → IsFirstBadSolved h.known certificate n
  carried g h n first = first_bad_same g.known h.known (alike g h).same certificate n first

  -- what is told of a document that is accepted is what is told of it for the text as it is asked for
  told_same : (g h : GivenToSolved text certificate) (d : solved_text.Document) (a : Acceptance) (is : IsAcceptedAs text h.given certificate a)
      → solved_states.States certificate d → a ≡ line.acceptance_of g.known d
  told_same g h d a is states =
      let document : is.document ≡ d = laws.solved.one_document certificate is.document d is.accepted.states states in
      let own : IsSameText is.accepted.known h.known =
      laws.solving.one_text text h.given is.accepted.known h.known is.accepted.is_known
      (asked_is text h.lines.header h.given h.known h.asked) in
      let semantics = own.semantics ∙ sym (alike g h).same.semantics in
      is.told ∙ ap (λ (e : solved_text.Document). line.acceptance_of is.accepted.known e) document
      ∙ (λ i. record { verdict = d.verdict; kind = d.kind; semantics = semantics i; refuted = length d.logs })

  solved_bad_line : (g h : GivenToSolved text certificate) (n : ℕ) → SolvedAnswers text h.given h.known certificate bytes status
      → IsFirstBadSolved g.known certificate n → (status ≡ 40) × (bytes ≡ line_refusal n)
  solved_bad_line g h n (line_fails m ended found line) first =
      let same : m ≡ n = laws.checks.one_line g.known certificate m n (carried h g m found) first in
      (ended, line ∙ ap line_refusal same)
  solved_bad_line g h n (answer.told a ended is line) first =
      let own : IsSameText h.known is.accepted.known =
      laws.solving.one_text text h.given h.known is.accepted.known (asked_is text h.lines.header h.given h.known h.asked) is.accepted.is_known in
      absurd (laws.checks.holding_has_none is.accepted.known certificate is.document n is.accepted.states is.accepted.holds
      (first_bad_same h.known is.accepted.known own certificate n (carried g h n first)))

  solved_document : (g h : GivenToSolved text certificate) (d : solved_text.Document) → SolvedAnswers text h.given h.known certificate bytes status
      → solved_states.States certificate d → HoldsSolved g.known d → (status ≡ 0) × (bytes ≡ line.accepted_line (line.acceptance_of g.known d))
  solved_document g h d (line_fails m ended found is) states holds =
      absurd (laws.checks.holding_has_none g.known certificate d m states holds (carried h g m found))
  solved_document g h d (answer.told a ended is told_so) states holds = (ended, told_so ∙ ap line.accepted_line (told_same g h d a is states))

  of_solved_bad_line : (g : GivenToSolved text certificate) (n : ℕ) → CheckAnswers text certificate bytes status → IsFirstBadSolved g.known certificate n
      → (status ≡ 40) × (bytes ≡ line_refusal n)
  of_solved_bad_line g n (refused c p ended fault (of_earlier_version isnt) line) first = absurd (isnt g.sixth)
  of_solved_bad_line g n (refused c p ended fault (refused_by_solve code place larger) line) first = absurd (g.taken.none code place larger)
  of_solved_bad_line g n (bad_line h m ended isnt found line) first = absurd (isnt g.sixth)
  of_solved_bad_line g n (accepted h d ended isnt is line) first = absurd (isnt g.sixth)
  of_solved_bad_line g n (of_solved h a) first = solved_bad_line g h n a first

  of_solved_document : (g : GivenToSolved text certificate) (d : solved_text.Document) → CheckAnswers text certificate bytes status
      → solved_states.States certificate d → HoldsSolved g.known d → (status ≡ 0) × (bytes ≡ line.accepted_line (line.acceptance_of g.known d))
  of_solved_document g d (refused c p ended fault (of_earlier_version isnt) is) states holds = absurd (isnt g.sixth)
  of_solved_document g d (refused c p ended fault (refused_by_solve code place larger) is) states holds = absurd (g.taken.none code place larger)
  of_solved_document g d (bad_line h m ended isnt found is) states holds = absurd (isnt g.sixth)
  of_solved_document g d (accepted h e ended isnt was is) states holds = absurd (isnt g.sixth)
  of_solved_document g d (of_solved h a) states holds = solved_document g h d a states holds

  -- == faults ==

  untested : (h : GivenToSolved text certificate) → IsUntested text certificate → ⊥
  untested h (of_earlier_version isnt) = isnt h.sixth
  untested h (refused_by_solve code place fault) = h.taken.none code place fault

  of_fault : (code : SpecCode) (position : ℕ) → CheckAnswers text certificate bytes status → IsFirstFault text (Some Mealy) code position
      → IsUntested text certificate → (status ≡ 1) × (bytes ≡ refusal_line code position)
  of_fault code position (refused c p ended first why line) fault untested_too =
      let same = laws.texts.one_fault text (Some Mealy) c code p position first fault in
      (ended, line ∙ (λ i. refusal_line (same.0 i) (same.1 i)))
  of_fault code position (bad_line g n ended isnt first line) fault untested_too = absurd (no_fault g code position fault)
  of_fault code position (accepted g d ended isnt is line) fault untested_too = absurd (no_fault g code position fault)
  of_fault code position (of_solved h a) fault untested_too = absurd (untested h untested_too)

  solved_status : (h : GivenToSolved text certificate) → SolvedAnswers text h.given h.known certificate bytes status → (status ≡ 0) ⊎ ((status ≡ 1) ⊎ (status ≡ 40))
  solved_status h (line_fails n ended first line) = inr (inr ended)
  solved_status h (answer.told a ended is line) = inl ended

  statuses : CheckAnswers text certificate bytes status → (status ≡ 0) ⊎ ((status ≡ 1) ⊎ (status ≡ 40))
  statuses (refused c p ended first why line) = inr (inl ended)
  statuses (bad_line g n ended isnt first line) = inr (inr ended)
  statuses (accepted g d ended isnt is line) = inl ended
  statuses (of_solved h a) = solved_status h a

pub determined : AreLaws → ChecksAreDetermined
determined laws = record {
  of_fault = λ text certificate bytes status code position a fault why. of_fault laws text certificate bytes status code position a fault why;
  of_bad_line = λ text certificate bytes status g n a isnt first. of_bad_line laws text certificate bytes status g n a isnt first;
  of_document = λ text certificate bytes status g d a isnt states holds. of_document laws text certificate bytes status g d a isnt states holds;
  of_solved_bad_line = λ text certificate bytes status g n a first. of_solved_bad_line laws text certificate bytes status g n a first;
  of_solved_document = λ text certificate bytes status g d a states holds. of_solved_document laws text certificate bytes status g d a states holds;
  statuses = λ text certificate bytes status a. statuses laws text certificate bytes status a;
}
