-- Of a text a document has at most one first bad line.
use Rattle.std.proofs.Common.{◌≡◌, ℕ, Option, Some, None, Ok, Err, List, [], ◌∷◌, refl, sym, ap, subst, ◌∙◌, true≢false}
use Rattle.std.specs.Prelude.{MatchOption, Result, unwrap_or}
use Rattle.std_lemmas.proofs.Options.{some_same}
use Rattle.aiger_text.specs.Circuit.{Circuit}
use Rattle.annot_check.specs.declared.faults.AnnotFault.{AnnotFault}
use Rattle.annot_check.specs.declared.faults.AnnotFault.TheVariants.{NoMemory}
use Rattle.annot_check.proofs.Apart.{causes_are_apart}
use Rattle.circuit_names.specs.Lines.{earliest}
use Rattle.named_annotation.specs.NamedStates.{Named}
use Rattle.size_refutations.specs.FirstBad.{LogFails}
use Rattle.size_refutations.specs.Ground.{LogGround}
use Rattle.size_refutations.specs.Laws.{LogsAreDetermined}
use Rattle.solve_ground.specs.declared.texts.SolveText.{SolveText}
use Rattle.solved_text.specs.Parts.{SizeLog}
use Rattle.solved_text.specs.Laws.{SolvedAreDetermined}
use Rattle.solved_text.specs.Reading.{Reads, SolvedLines}
use Rattle.solve_check.specs.Given.{kind_for}
use Rattle.solve_check.specs.SizeLogs.{LogsFail, ground_for, none_fails, one_fails, one_good}
use Rattle.solve_check.specs.FirstBad.{Annotated, Counted, HasAnnotation, IsCauseFor, IsFirstBadSolved, LinesFail, NumberFails, annotated_in, annotation_line, another, cause_line, circuit_line, counted_in, of_line, of_pairs, reading_in, right, side_in, taken_line, too_many}

abbrev pub named_or : Named → Result Named ℕ → Named
named_or d (Ok named) = named
named_or d (Err n) = d

number_one : (c : Circuit) (n line : ℕ) (o p : Option ℕ) → NumberFails c n line o → NumberFails c n line p → o ≡ p
number_one c n line _ _ (too_many e) (too_many f) = refl
number_one c n line _ _ (too_many e) (another f never) = refl
number_one c n line _ _ (too_many e) (right f states) = absurd (true≢false (sym f ∙ e))
number_one c n line _ _ (another e never) (too_many f) = refl
number_one c n line _ _ (another e never) (another f other) = refl
number_one c n line _ _ (another e never) (right f states) = absurd (never states)
number_one c n line _ _ (right e states) (too_many f) = absurd (true≢false (sym e ∙ f))
number_one c n line _ _ (right e states) (another f never) = absurd (never states)
number_one c n line _ _ (right e states) (right f others) = refl

number_by : (q : Option Counted) (line : ℕ) (o p : Option ℕ) → MatchOption q (o ≡ None) (λ c. NumberFails c.circuit c.states line o)
    → MatchOption q (p ≡ None) (λ c. NumberFails c.circuit c.states line p) → o ≡ p
number_by None line o p a b = a ∙ sym b
number_by (Some c) line o p a b = number_one c.circuit c.states line o p a b

some_or_none : LogsAreDetermined → (g : LogGround) (l : SizeLog) (n : ℕ) → LogFails g l (Some n) → LogFails g l None → ⊥
some_or_none law g l n fails good = let never : Some n ≡ None = law.one g l (Some n) None fails good in absurd (cc)

logs_one : LogsAreDetermined → (g : LogGround) (logs : List SizeLog) (o p : Option ℕ) → LogsFail g logs o → LogsFail g logs p → o ≡ p
logs_one law g [] _ _ none_fails none_fails = refl
logs_one law g (l ∷ logs) _ _ (one_fails k ks n e) (one_fails m ms j f) = law.one g l (Some n) (Some j) e f
logs_one law g (l ∷ logs) _ _ (one_fails k ks n e) (one_good m ms first f rest) = absurd (some_or_none law g l n e f)
logs_one law g (l ∷ logs) _ _ (one_good k ks first e rest) (one_fails m ms j f) = absurd (some_or_none law g l j f e)
logs_one law g (l ∷ logs) _ _ (one_good k ks first e rest) (one_good m ms other f more) = logs_one law g logs first other rest more

module _ (law : LogsAreDetermined) (t : SolveText) (bytes : List ℕ) where
  -- the least line, of what the number and the logs give
  abbrev least : SolvedLines → Option ℕ → Option ℕ → Option ℕ
  least lines number logs = earliest (circuit_line t bytes lines.header lines.circuit)
      (earliest lines.bad (earliest number (earliest (taken_line t lines) (earliest (annotation_line t bytes lines) logs))))

  pub fails_one : (lines : SolvedLines) (o p : Option ℕ) → LinesFail t bytes lines o → LinesFail t bytes lines p → o ≡ p
  fails_one lines o p a b =
      let number : a.number ≡ b.number = number_by (counted_in lines) lines.verdict_line a.number b.number a.number_fails b.number_fails in
      let logs : a.logs ≡ b.logs = logs_one law (ground_for t (side_in lines.header)) lines.logs a.logs b.logs a.logs_fail b.logs_fail in
      a.first_is ∙ ap (λ (x : Option ℕ). least lines x a.logs) number ∙ ap (λ (x : Option ℕ). least lines b.number x) logs ∙ sym b.first_is

  -- the same annotation has one cause, and so one line
  pub cause_one : (lines : SolvedLines) (a b : Annotated) (p q : Named) (i j : AnnotFault) → HasAnnotation t bytes lines a p → HasAnnotation t bytes lines b q
      → (i ≡ NoMemory → ⊥) → (j ≡ NoMemory → ⊥) → IsCauseFor t a p i → IsCauseFor t b q j → cause_line a p i ≡ cause_line b q j
  cause_one lines a b p q i j has other some_i some_j cause_i cause_j =
      let same : a ≡ b = some_same (annotated_in lines) a b has.annotated other.annotated in
      let read : p ≡ q = ap (named_or p) (sym has.stated ∙ ap (reading_in t bytes) same ∙ other.stated) in
      let moved : IsCauseFor t a p j =
      subst (λ (x : Named). IsCauseFor t a x j) (sym read) (subst (λ (x : Annotated). IsCauseFor t x q j) (sym same) cause_j) in
      let fault : i ≡ j = (causes_are_apart a.file.circuit).one a.side (kind_for t a.side) p.automaton p.list.pairs i j cause_i moved some_i some_j in
      λ k. cause_line (same k) (read k) (fault k)

  module _ (determined : SolvedAreDetermined) where
    one_reading : (k l : SolvedLines) → Reads bytes k → Reads bytes l → k ≡ l
    one_reading k l reads other = determined.one_reading bytes k l reads other

    moved : (k l : SolvedLines) (o : Option ℕ) → Reads bytes k → Reads bytes l → LinesFail t bytes l o → LinesFail t bytes k o
    moved k l o reads other fails = subst (λ (x : SolvedLines). LinesFail t bytes x o) (sym (one_reading k l reads other)) fails

    not_both : (k l : SolvedLines) (n : ℕ) → Reads bytes k → Reads bytes l → LinesFail t bytes k (Some n) → LinesFail t bytes l None → ⊥
    not_both k l n reads other some none =
        let same : Some n ≡ None = fails_one k (Some n) None some (moved k l None reads other none) in absurd (cc)

    pub one_line : (n m : ℕ) → IsFirstBadSolved t bytes n → IsFirstBadSolved t bytes m → n ≡ m
    one_line _ _ (of_line k n reads some) (of_line l m other also) =
        ap (λ (o : Option ℕ). unwrap_or o 0) (fails_one k (Some n) (Some m) some (moved k l (Some m) reads other also))
    one_line _ _ (of_line k n reads some) (of_pairs l b q j other none has any cause) = absurd (not_both k l n reads other some none)
    one_line _ _ (of_pairs k a p i reads none has some cause) (of_line l m other also) = absurd (not_both l k m other reads also none)
    one_line _ _ (of_pairs k a p i reads none has some cause) (of_pairs l b q j other more got any also) =
        cause_one k a b p q i j has (subst (λ (x : SolvedLines). HasAnnotation t bytes x b q) (sym (one_reading k l reads other)) got) some any cause also
