-- At most one line is the first bad one.
use Rattle.std.proofs.Common.{◌≡◌, ℕ, ◌+◌, Bool, Option, Some, None, List, [], ◌∷◌, refl, sym, ap, subst, ◌∙◌, true≢false}
use Rattle.std.specs.Prelude.{MatchOption, unwrap_or}
use Rattle.letters_and_lassos.specs.declared.kinds.Kind.{Kind}
use Rattle.machine_model.specs.declared.problems.Problem.{Problem}
use Rattle.annotation_encode.specs.BaseClauses.{base_clauses}
use Rattle.annotation_encode.specs.Variables.{variables_of}
use Rattle.log_checker.specs.declared.faults.LogFault.{LogFault}
use Rattle.log_checker.proofs.FaultLemmas.{one_fault, legal_has_none}
use Rattle.document_text.specs.Parts.{LogPart}
use Rattle.document_text.specs.Reading.{DocumentLines}
use Rattle.std_lemmas.proofs.Options.{some_none, some_same}
use Rattle.document_text.proofs.ReadingLemmas.{reads_same}
use Rattle.document_check.specs.declared.facts.Asked.{Asked}
use Rattle.document_text.specs.declared.order.Place.{Place}
use Rattle.document_check.specs.Facts.{Facts, problem_at}
use Rattle.document_check.specs.Holds.{may_be_full}
use Rattle.document_check.specs.FirstBad.{asked_in, circuit_line, end_line, entry_of, environment_sizes, Fails, FailsBehind, IsFirstBadFor, last_line, LogFails, other_numbers, bad_entry, left_open, is_good, LogsFail, all_there, one_missing, one_more, another, no_problem, one_fails, one_good, number_line, system_sizes, wanted_in}
use Rattle.circuit_names.specs.Lines.{earliest}
use Rattle.std.specs.Option.{option_or}

module _ (full : Bool) (limit : Option ℕ) (l : LogPart) (p : Problem) where
  pub fails_same : (a b : Option ℕ) → LogFails full limit l p a → LogFails full limit l p b → a ≡ b
  fails_same a b (other_numbers e) (other_numbers e') = refl
  fails_same a b (other_numbers e) (bad_entry f' n' x') = absurd (true≢false (sym n' ∙ e))
  fails_same a b (other_numbers e) (left_open n' g' s') = absurd (true≢false (sym n' ∙ e))
  fails_same a b (other_numbers e) (is_good n' g' s') = absurd (true≢false (sym n' ∙ e))
  fails_same a b (bad_entry f n x) (other_numbers e') = absurd (true≢false (sym n ∙ e'))
  fails_same a b (bad_entry f n x) (bad_entry f' n' x') = ap (λ (x : LogFault). Some (l.line + 1 + entry_of x)) (one_fault (base_clauses p) limit l.entries f f' x x')
  fails_same a b (bad_entry f n x) (left_open n' g' s') = absurd (legal_has_none (variables_of p) (base_clauses p) limit l.entries f g' x)
  fails_same a b (bad_entry f n x) (is_good n' g' s') = absurd (legal_has_none (variables_of p) (base_clauses p) limit l.entries f g' x)
  fails_same a b (left_open n g s) (other_numbers e') = absurd (true≢false (sym n ∙ e'))
  fails_same a b (left_open n g s) (bad_entry f' n' x') = absurd (legal_has_none (variables_of p) (base_clauses p) limit l.entries f' g x')
  fails_same a b (left_open n g s) (left_open n' g' s') = refl
  fails_same a b (left_open n g s) (is_good n' g' s') = absurd (true≢false (sym s' ∙ s))
  fails_same a b (is_good n g s) (other_numbers e') = absurd (true≢false (sym n ∙ e'))
  fails_same a b (is_good n g s) (bad_entry f' n' x') = absurd (legal_has_none (variables_of p) (base_clauses p) limit l.entries f' g x')
  fails_same a b (is_good n g s) (left_open n' g' s') = absurd (true≢false (sym s ∙ s'))
  fails_same a b (is_good n g s) (is_good n' g' s') = refl

module _ (facts : Facts) (kind : Kind) (version : ℕ) (full : Bool) (limit : Option ℕ) (end : ℕ) where
  its_same : (s : Place) (l : LogPart) (p q : Problem) (a b : Option ℕ) → problem_at facts kind version l.side l.size ≡ Some p → problem_at facts kind version l.side l.size ≡ Some q
      → LogFails full limit l p a → LogFails full limit l q b → a ≡ b
  its_same s l p q a b e f x y =
      fails_same full limit l p a b x (subst (λ (r : Problem). LogFails full limit l r b) (sym (some_same (problem_at facts kind version l.side l.size) p q e f)) y)

  pub logs_same : (sizes : List Place) (logs : List LogPart) (a b : Option ℕ) → LogsFail facts kind version full limit end sizes logs a → LogsFail facts kind version full limit end sizes logs b → a ≡ b
  logs_same [] [] a b all_there all_there = refl
  logs_same (s ∷ ss) [] a b (one_missing z zs) (one_missing y ys) = refl
  logs_same [] (l ∷ ls) a b (one_more z zs) (one_more y ys) = refl
  logs_same (s ∷ ss) (l ∷ ls) a b (another z zs m ms e) (another z' zs' m' ms' e') = refl
  logs_same (s ∷ ss) (l ∷ ls) a b (another z zs m ms e) (no_problem z' zs' m' ms' e' q') = absurd (true≢false (sym e' ∙ e))
  logs_same (s ∷ ss) (l ∷ ls) a b (another z zs m ms e) (one_fails z' zs' m' ms' p' n' e' q' f') = absurd (true≢false (sym e' ∙ e))
  logs_same (s ∷ ss) (l ∷ ls) a b (another z zs m ms e) (one_good z' zs' m' ms' p' o' e' q' f' more') = absurd (true≢false (sym e' ∙ e))
  logs_same (s ∷ ss) (l ∷ ls) a b (no_problem z zs m ms e q) (another z' zs' m' ms' e') = absurd (true≢false (sym e ∙ e'))
  logs_same (s ∷ ss) (l ∷ ls) a b (no_problem z zs m ms e q) (no_problem z' zs' m' ms' e' q') = refl
  logs_same (s ∷ ss) (l ∷ ls) a b (no_problem z zs m ms e q) (one_fails z' zs' m' ms' p' n' e' q' f') = absurd (some_none (problem_at facts kind version l.side l.size) p' q' q)
  logs_same (s ∷ ss) (l ∷ ls) a b (no_problem z zs m ms e q) (one_good z' zs' m' ms' p' o' e' q' f' more') = absurd (some_none (problem_at facts kind version l.side l.size) p' q' q)
  logs_same (s ∷ ss) (l ∷ ls) a b (one_fails z zs m ms p n e q f) (another z' zs' m' ms' e') = absurd (true≢false (sym e ∙ e'))
  logs_same (s ∷ ss) (l ∷ ls) a b (one_fails z zs m ms p n e q f) (no_problem z' zs' m' ms' e' q') = absurd (some_none (problem_at facts kind version l.side l.size) p q q')
  logs_same (s ∷ ss) (l ∷ ls) a b (one_fails z zs m ms p n e q f) (one_fails z' zs' m' ms' p' n' e' q' f') = its_same s l p p' (Some n) (Some n') q q' f f'
  logs_same (s ∷ ss) (l ∷ ls) a b (one_fails z zs m ms p n e q f) (one_good z' zs' m' ms' p' o' e' q' f' more') = absurd (some_none (Some n) n refl (its_same s l p p' (Some n) None q q' f f'))
  logs_same (s ∷ ss) (l ∷ ls) a b (one_good z zs m ms p o e q f more) (another z' zs' m' ms' e') = absurd (true≢false (sym e ∙ e'))
  logs_same (s ∷ ss) (l ∷ ls) a b (one_good z zs m ms p o e q f more) (no_problem z' zs' m' ms' e' q') = absurd (some_none (problem_at facts kind version l.side l.size) p q q')
  logs_same (s ∷ ss) (l ∷ ls) a b (one_good z zs m ms p o e q f more) (one_fails z' zs' m' ms' p' n' e' q' f') = absurd (some_none (Some n') n' refl (sym (its_same s l p p' None (Some n') q q' f f')))
  logs_same (s ∷ ss) (l ∷ ls) a b (one_good z zs m ms p o e q f more) (one_good z' zs' m' ms' p' o' e' q' f' more') = logs_same ss ls a b more more'

module _ (facts : Facts) (lines : DocumentLines) (a : Asked) where
  in_same_by : (o : Option (Option ℕ)) (x y : Option ℕ)
      → MatchOption o (x ≡ None) (λ limit. LogsFail facts a.kind a.version (may_be_full a.verdict) limit (end_line lines) (wanted_in facts a lines.header.found) lines.logs x)
      → MatchOption o (y ≡ None) (λ limit. LogsFail facts a.kind a.version (may_be_full a.verdict) limit (end_line lines) (wanted_in facts a lines.header.found) lines.logs y) → x ≡ y
  in_same_by None x y e f = e ∙ sym f
  in_same_by (Some limit) x y e f = logs_same facts a.kind a.version (may_be_full a.verdict) limit (end_line lines) (wanted_in facts a lines.header.found) lines.logs x y e f

  behind_same : (x y : Option ℕ) → FailsBehind facts lines a x → FailsBehind facts lines a y → x ≡ y
  behind_same x y e f =
      e.first_is ∙ ap (earliest (number_line a.verdict lines.header.found (system_sizes facts a) (environment_sizes facts a) lines.verdict_line))
      (in_same_by lines.header.entries e.logs f.logs e.logs_fail f.logs_fail) ∙ sym f.first_is

fails_in_same : (facts : Facts) (lines : DocumentLines) (o : Option Asked) (x y : Option ℕ)
    → MatchOption o (x ≡ None) (λ a. FailsBehind facts lines a x) → MatchOption o (y ≡ None) (λ a. FailsBehind facts lines a y) → x ≡ y
fails_in_same facts lines None x y e f = e ∙ sym f
fails_in_same facts lines (Some a) x y e f = behind_same facts lines a x y e f

whole_same : (facts : Facts) (bytes : List ℕ) (lines : DocumentLines) (x y : Option ℕ) → Fails facts bytes lines x → Fails facts bytes lines y → x ≡ y
whole_same facts bytes lines x y e f =
    e.first_is
    ∙ ap (λ (b : Option ℕ). option_or (earliest (circuit_line facts bytes lines.header lines.circuit) (earliest lines.bad b)) (last_line lines))
    (fails_in_same facts lines (asked_in lines.header) e.behind f.behind e.fails f.fails)
    ∙ sym f.first_is

pub one_line : (facts : Facts) (bytes : List ℕ) (n m : ℕ) → IsFirstBadFor facts bytes n → IsFirstBadFor facts bytes m → n ≡ m
one_line facts bytes n m a b =
    let same : a.lines ≡ b.lines = reads_same bytes a.lines b.lines a.reads b.reads in
    ap (λ (o : Option ℕ). unwrap_or o n)
    (whole_same facts bytes b.lines (Some n) (Some m) (subst (λ (x : DocumentLines). Fails facts bytes x (Some n)) same a.fails) b.fails)
