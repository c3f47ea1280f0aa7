use Rattle.std.proofs.Common.{ap, ℕ, List, Option, refl, subst, sym, ◌≡◌, ◌∙◌}
use Rattle.letters_and_lassos.specs.declared.kinds.Kind.{Kind}
use Rattle.document_text.specs.Parts.{Document}
use Rattle.document_text.specs.States.{States}
use Rattle.synth_engine.specs.declared.settings.Settings.{Settings}
use Rattle.synth_answer.specs.Answer.{Answers}
use Rattle.synth_answer.specs.Numbers.{told_number}
use Rattle.solved_text.specs.declared.documents.Verdict.{Verdict}
use Rattle.solved_text.specs.declared.documents.Verdict.TheVariants.{Realizable, Unrealizable}
use Rattle.solve_check.specs.Checked.{IsAcceptedAs}
use Rattle.solve_check.specs.Laws.{LiesBetween}
use Rattle.solve_check.specs.declared.acceptance.Acceptance.{Acceptance}
use Rattle.bound_laws.specs.Laws.{AnswersAgree}
use Rattle.bound_laws.proofs.tests.told_beside.Goals as goal

module _ (agree : AnswersAgree) (text : List ℕ) (kind : Option Kind) (settings : Settings) (bytes document : List ℕ) (a : Acceptance) (n : ℕ)
    (answers : Answers text kind settings bytes 10) (is : IsAcceptedAs text kind document a) where
  verdict_is : (v : Verdict) → a.verdict ≡ v → is.document.verdict ≡ v
  verdict_is v says = sym (ap (λ (b : Acceptance). b.verdict) is.told) ∙ says

  between : (d : Document) → States bytes d → a.verdict ≡ Realizable n → LiesBetween a.refuted (told_number d.verdict) n
  between d states says = subst (λ (k : ℕ). LiesBetween k (told_number d.verdict) n) (sym (ap (λ (b : Acceptance). b.refuted) is.told))
      (agree.realizable text kind kind settings bytes document d is.document n (λ tree reads. refl) answers states is.accepted (verdict_is (Realizable n) says))

  apart : a.verdict ≡ Unrealizable n → ⊥
  apart says = agree.never_defeated text kind kind settings bytes document is.document n (λ tree reads. refl) answers is.accepted (verdict_is (Unrealizable n) says)

pub returns-clause-between : goal.returns-clause-between
returns-clause-between g c = λ d n ten states says.
    between c.answers_agree.ensures c.args.text.now c.args.asked.kind c.args.asked.settings c.in_ok-answer.answer.reply.bytes.items c.args.document.now
    c.in-Some.acceptance n (rw ten at c.in_ok-answer.ensures.told.answers) (rw c.in-Some.is at c.in_ok-acceptance.ensures) d states says

pub returns-clause-apart : goal.returns-clause-apart
returns-clause-apart g c = λ n ten says.
    apart c.answers_agree.ensures c.args.text.now c.args.asked.kind c.args.asked.settings c.in_ok-answer.answer.reply.bytes.items c.args.document.now
    c.in-Some.acceptance n (rw ten at c.in_ok-answer.ensures.told.answers) (rw c.in-Some.is at c.in_ok-acceptance.ensures) says
