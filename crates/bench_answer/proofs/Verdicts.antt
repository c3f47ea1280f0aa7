-- What a search without a limit may answer.
use Rattle.std.proofs.Common.{◌≡◌, ℕ, List, Option, Some, None, inl, ap, ◌∙◌, subst}
use Rattle.letters_and_lassos.specs.declared.kinds.Kind.{Kind}
use Rattle.arbiter_text.specs.Arbiter.{generated_text}
use Rattle.synth_engine.specs.declared.settings.Settings.{Settings}
use Rattle.document_text.specs.declared.documents.Verdict.{Verdict}
use Rattle.synth_answer.specs.Answer.{Answers, IsTold, refused, realizable, unrealizable, bounded, no_size, no_entries, verdict_of}
use Rattle.synth_answer.specs.Printed.{Printed}
use Rattle.bench_answer.specs.Bench.{BenchAnswer, HasStatus, HasVerdict, bounds_of, lines_of}

some_same : (a b : Verdict) → Some a ≡ Some b → a ≡ b
some_same a b e = cc

no_some : (a : Verdict) → None ≡ Some a → ⊥
no_some a e = cc

-- the answer's document has this verdict, and the verdict has the answer's status
record IsSaid (bytes : List ℕ) (status : ℕ) (verdict : Verdict) : Type 0 where
  has_verdict : HasVerdict bytes verdict
  has_status : HasStatus verdict status

module _ (text : List ℕ) (kind : Option Kind) (settings : Settings) (bytes : List ℕ) (status : ℕ) (no_limit : settings.entries ≡ None) (verdict : Verdict) where
  said : (p : Printed text kind settings bytes) (v : Verdict) → p.document.verdict ≡ v → HasStatus v status → Some v ≡ Some verdict → IsSaid bytes status verdict
  said p v is has same = record {
    has_verdict = record { document = p.document; states = p.is_printed.states; verdict_is = is ∙ some_same v verdict same };
    has_status = subst (λ w. HasStatus w status) (some_same v verdict same) has;
  }

  is_said : (a : Answers text kind settings bytes status) → verdict_of a ≡ Some verdict → IsSaid bytes status verdict
  is_said (refused code position is first line) told = absurd (no_some verdict told)
  is_said (realizable p n c is holds) told = said p _ holds.verdict is told
  is_said (unrealizable p n c is holds) told = said p _ holds.verdict is told
  is_said (bounded p side n c is holds) told = absurd (holds.can_fill (inl no_limit))
  is_said (no_size p is holds) told = said p _ holds.verdict is told
  is_said (no_entries p side n is holds) told = absurd (holds.can_fill (inl no_limit))

pub bench_answer : (clients workers : ℕ) (text : List ℕ) (settings : Settings) (document_bytes : List ℕ) (status : ℕ) (verdict : Verdict) (bytes : List ℕ)
    → text ≡ generated_text clients → settings ≡ bounds_of workers → IsTold text None settings document_bytes status (Some verdict) → bytes ≡ lines_of clients verdict
    → BenchAnswer clients workers bytes status
bench_answer clients workers text settings document_bytes status verdict bytes text_is settings_is told lines =
    let is = is_said text None settings document_bytes status (ap (λ x. x.entries) settings_is) verdict told.answers told.told in
    record {
      document_bytes = document_bytes;
      answers = subst (λ x. Answers (generated_text clients) None x document_bytes status) settings_is (subst (λ t. Answers t None settings document_bytes status) text_is told.answers);
      verdict = verdict;
      has_verdict = is.has_verdict;
      has_status = is.has_status;
      lines = lines;
    }
