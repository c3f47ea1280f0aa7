-- From a document over a ground to an answer to what has that ground.
use Rattle.std.proofs.Common.{◌≡◌, ℕ, Bool, List, Option, Some, refl, sym, ap, ◌∙◌, subst}
use Rattle.letters_and_lassos.specs.declared.kinds.Kind.{Kind}
use Rattle.spec_faults.specs.declared.code.SpecCode.{SpecCode}
use Rattle.synth_engine.specs.declared.settings.Settings.{Settings}
use Rattle.synth_answer.specs.Answer.{AnswersFor, IsAnswerFor, IsAnswerOn, IsToldFor, IsToldOn, refused, realizable, unrealizable, bounded, no_size, no_entries, defeats, told_defeats, verdict_defeats, verdict_of}
use Rattle.document_text.specs.declared.documents.Verdict.{Verdict}
use Rattle.tlsf_expand.specs.FlatText.{FlatText}
use Rattle.spec_problems.specs.OfText.{AreProblemsOf}
use Rattle.text_ground.specs.Ground.{AreProblemsOn, Ground, ground_with}
use Rattle.synth_answer.specs.Printed.{Printed, PrintedFor}

module _ (IsFault : SpecCode → ℕ → Type 0) (IsGround : Option Kind → Ground → Type 0) (kind : Option Kind) (settings : Settings) (g : Ground) (here : IsGround kind g)
    (by_its_kind : IsGround (Some g.wanted.kind) g) (bytes : List ℕ) where
  -- a document over the ground
  abbrev pub IsDocument : Type 0
  IsDocument = PrintedFor (λ kind other. other ≡ g) (Some g.wanted.kind) settings bytes

  pub kind_of : (p : IsDocument) → p.document.kind ≡ p.ground.wanted.kind
  kind_of p = p.is_printed.kind ∙ p.are_problems.problems.of_system.kind

  pub of_kind : (p : IsDocument) → IsGround (Some p.document.kind) p.ground
  of_kind p =
      subst (λ k. IsGround (Some k) p.ground) (sym (kind_of p)) (subst (λ (h : Ground). IsGround (Some h.wanted.kind) h) (sym p.is_ground) by_its_kind)

  abbrev pub printed_for : IsDocument → PrintedFor IsGround kind settings bytes
  printed_for p = record {
    ground = p.ground;
    is_ground = subst (IsGround kind) (sym p.is_ground) here;
    later = p.later;
    problems = p.problems;
    are_problems = p.are_problems;
    document = p.document;
    by_its_kind = of_kind p;
    is_printed = p.is_printed;
  }

  told_by : (status : ℕ) (a : AnswersFor (λ code position. ⊥) (λ kind other. other ≡ g) (Some g.wanted.kind) settings bytes status) → IsToldFor IsFault IsGround kind settings bytes status (verdict_of a)
  told_by status (refused code position is fault line) = absurd fault
  told_by status (realizable p n c is holds) = record { answers = realizable (printed_for p) n c is holds; told = refl }
  told_by status (unrealizable p n c is holds) = record { answers = unrealizable (printed_for p) n c is holds; told = refl }
  told_by status (bounded p side n c is holds) = record { answers = bounded (printed_for p) side n c is holds; told = refl }
  told_by status (no_size p is holds) = record { answers = no_size (printed_for p) is holds; told = refl }
  told_by status (no_entries p side n is holds) = record { answers = no_entries (printed_for p) side n is holds; told = refl }

  pub told_for : (status : ℕ) (verdict : Option Verdict) → IsToldOn g settings bytes status verdict → IsToldFor IsFault IsGround kind settings bytes status verdict
  told_for status verdict on = subst (IsToldFor IsFault IsGround kind settings bytes status) on.told (told_by status on.answers)

  by_answer : (status : ℕ) (a : AnswersFor (λ code position. ⊥) (λ kind other. other ≡ g) (Some g.wanted.kind) settings bytes status) → IsAnswerFor IsFault IsGround kind settings bytes status (defeats a)
  by_answer status a = let t = told_by status a in record { answers = t.answers; told = ap told_defeats t.told }

  pub answer_for : (status : ℕ) (defeat : Bool) → IsAnswerOn g settings bytes status defeat → IsAnswerFor IsFault IsGround kind settings bytes status defeat
  answer_for status defeat on = subst (IsAnswerFor IsFault IsGround kind settings bytes status) on.told (by_answer status on.answers)

-- == whether a document defeats ==

module _ (g : Ground) (settings : Settings) (bytes : List ℕ) (status : ℕ) where
  pub answered_on : (verdict : Verdict) → IsToldOn g settings bytes status (Some verdict) → IsAnswerOn g settings bytes status (verdict_defeats verdict)
  answered_on verdict on = record { answers = on.answers; told = ap told_defeats on.told }

-- == what is printed for a text ==

-- the text, with the list in which the normal forms stand too
abbrev pub printed_spec : {text : List ℕ} {kind : Option Kind} {settings : Settings} {bytes : List ℕ} → Printed text kind settings bytes → FlatText
printed_spec p = record { expanded = p.is_ground.is_wanted.flat.expanded; formulas = p.later }

-- a document that is printed for a text has the text's problems
pub printed_problems : (text : List ℕ) (kind : Option Kind) (settings : Settings) (bytes : List ℕ) (p : Printed text kind settings bytes) → AreProblemsOf text kind settings.counts (printed_spec p) p.problems
printed_problems text kind settings bytes p =
    let is = p.is_ground in
    let x = is.is_wanted.flat.expanded in
    let same : p.ground ≡ ground_with x p.ground.wanted.means is.is_wanted.flat.formulas x.whole = (λ i. record {
      wanted = record { inputs = is.is_wanted.inputs i; outputs = is.is_wanted.outputs i; kind = is.is_wanted.kind_is i; means = p.ground.wanted.means };
      formulas = is.formulas i;
      whole = is.whole i;
    }) in
    record {
      flat = is.is_wanted.flat;
      is_flat = is.is_wanted.is_flat;
      same = refl;
      problems = subst (λ g. AreProblemsOn settings.counts g p.later p.problems) same p.are_problems;
    }
