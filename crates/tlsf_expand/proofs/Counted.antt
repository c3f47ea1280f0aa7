-- Counted forms say what holds some steps on.
use Rattle.std.proofs.Common.{◌≡◌, ℕ, zero, suc, ◌+◌, ◌-◌, ◌<◌, ◌≤◌, Bool, true, false, List, sym, ap, ◌∙◌, arith}
use Rattle.std.specs.Prelude.{◌&&◌, ◌||◌, nat_le}
use Rattle.std.proofs.lemmas.Bool.{leb-true, leb-false}
use mathlib.Core.Bool.{or_assoc, and-true, or-false}
use Rattle.letters_and_lassos.specs.Word.{Word, next, after}
use Rattle.letters_and_lassos.proofs.Positions.{after-suc}
use Rattle.ltl_formula.specs.declared.nodes.FormulaId.{FormulaId}
use Rattle.ltl_formula.specs.declared.nodes.Node.{Node}
use Rattle.ltl_formula.specs.Truth.{some_below}
use Rattle.letters_and_lassos.specs.Below.{all_below}
use Rattle.ltl_formula.proofs.Lists.{Grows-refl}
use Rattle.tlsf_values.specs.declared.work.TheConstants.{MOST_EVALUATIONS}
use Rattle.tlsf_values.specs.declared.work.Work.{Work}
use Rattle.tlsf_values.specs.declared.value.Value.TheVariants.{Flat}
use Rattle.tlsf_values.specs.declared.formula.Formula.{Formula}
use Rattle.tlsf_values.specs.declared.formula.Pairing.TheVariants as pairing
use Rattle.tlsf_values.specs.declared.formula.Connective.TheVariants as connective
use Rattle.tlsf_values.specs.Outcomes.{Outcome, gives, go_on, counted}
use Rattle.tlsf_values.specs.Counts.{nexts, count_value, window_more, window_value}
use Rattle.tlsf_expand.specs.Senses.{Sense, a_formula, true_in}
use Rattle.tlsf_expand.proofs.Kept.{IsGood, Keeps, keeps, refuses, keeps_go_on, keeps_given, keeps_choose}
use Rattle.tlsf_expand.proofs.Alike.{HasTruths, Alike, alike_formula, AlikeFormula, grown_truths}
use Rattle.tlsf_expand.proofs.Made.{keeps_truth_node, keeps_next, keeps_and, keeps_or}
use Rattle.tlsf_expand.proofs.Connected.{keeps_node_of}
use Rattle.tlsf_expand.proofs.Valued.{keeps_truths, with_truths}
use Rattle.tlsf_expand.proofs.Bools.{and_regroup, same_function, all_below-first, some_below-first}

module _ (w : Word) where
  -- so many positions, from the one j steps on, taken from the front
  all_from-first : (f : ℕ → Bool) (j more i : ℕ) → all_below (suc more) (λ d. f (after w i (j + d))) ≡ (f (after w i j) && all_below more (λ d. f (after w i (j + 1 + d))))
  all_from-first f j more i =
      all_below-first more (λ d. f (after w i (j + d)))
      ∙ ap (λ n. f (after w i n) && all_below more (λ d. f (after w i (j + suc d)))) (let e : j + 0 ≡ j = omega arith in e)
      ∙ ap (λ (t : ℕ → Bool). f (after w i j) && all_below more t) (same_function _ _ (λ d. ap (λ n. f (after w i n)) (let e : j + suc d ≡ j + 1 + d = omega arith in e)))

  some_from-first : (f : ℕ → Bool) (j more i : ℕ) → some_below (suc more) (λ d. f (after w i (j + d))) ≡ (f (after w i j) || some_below more (λ d. f (after w i (j + 1 + d))))
  some_from-first f j more i =
      some_below-first more (λ d. f (after w i (j + d)))
      ∙ ap (λ n. f (after w i n) || some_below more (λ d. f (after w i (j + suc d)))) (let e : j + 0 ≡ j = omega arith in e)
      ∙ ap (λ (t : ℕ → Bool). f (after w i j) || some_below more t) (same_function _ _ (λ d. ap (λ n. f (after w i n)) (let e : j + suc d ≡ j + 1 + d = omega arith in e)))

module _ {top : ℕ} (w : Word) where
  pub keeps_counted : (place n : ℕ) (work : Work) → IsGood top work.formulas → Keeps top work.formulas (λ u nodes. Unit {0}) (counted place n work)
  keeps_counted place n work list = keeps_choose (nat_le n (MOST_EVALUATIONS - work.done)) _ _ work _ (λ _. keeps tt (record work { done = work.done + n }) list (Grows-refl work.formulas) tt) (λ _. refuses _ _)

  pub keeps_nexts : (place n : ℕ) (id : FormulaId) (f : ℕ → Bool) (work : Work) → IsGood top work.formulas → HasTruths w f id work.formulas
      → Keeps top work.formulas (HasTruths w (λ i. f (after w i n))) (nexts place n id work)
  keeps_nexts place zero id f work list h = keeps_given _ id work list h
  keeps_nexts place (suc n) id f work list h =
      keeps_go_on _ _ (keeps_counted place 1 work list) (λ u work0 list0 grows0 _.
      keeps_go_on _ _ (keeps_next w place work0 id f list0 (grown_truths grows0 h)) (λ following work1 list1 grows1 t.
      keeps_truths w (λ i. f (next w (after w i n))) (λ i. f (after w i (suc n))) (same_function _ _ (λ i. ap f (sym (after-suc w i n))))
      (keeps_nexts place n following (λ k. f (next w k)) work1 list1 t)))

  as_flat : {old : List Node} {o : Outcome FormulaId} (f : ℕ → Bool) → Keeps top old (HasTruths w f) o → Keeps top old (λ v nodes. Alike w nodes v (a_formula f)) (go_on o (λ id w. gives (Flat id) w))
  as_flat f h = keeps_go_on _ _ h (λ id work list grows t. keeps_given _ (Flat id) work list (alike_formula id f t))

  pub keeps_count : (place n : ℕ) (x : Formula) (s : Sense) (work : Work) → IsGood top work.formulas → AlikeFormula w work.formulas x s
      → Keeps top work.formulas (λ v nodes. Alike w nodes v (a_formula (λ i. true_in s (after w i n)))) (count_value place n x work)
  keeps_count place n x s work list h =
      keeps_go_on _ _ (keeps_node_of w place x s work list h) (λ id work1 list1 grows1 t. as_flat (λ i. true_in s (after w i n)) (keeps_nexts place n id (true_in s) work1 list1 t))

  keeps_all_more : (place : ℕ) (id : FormulaId) (f : ℕ → Bool) (j more : ℕ) (so_far : FormulaId) (g : ℕ → Bool) (work : Work) → IsGood top work.formulas
      → HasTruths w f id work.formulas → HasTruths w g so_far work.formulas
      → Keeps top work.formulas (HasTruths w (λ i. g i && all_below more (λ d. f (after w i (j + d))))) (window_more place pairing.And id j more so_far work)
  keeps_all_more place id f j zero so_far g work list h hg = keeps_given _ so_far work list (with_truths w (same_function _ _ (λ i. sym (and-true (g i)))) hg)
  keeps_all_more place id f j (suc more) so_far g work list h hg =
      keeps_go_on _ _ (keeps_nexts place j id f work list h) (λ following work1 list1 grows1 t.
      keeps_go_on _ _ (keeps_and w place work1 so_far following g (λ i. f (after w i j)) list1 (grown_truths grows1 hg) t) (λ both work2 list2 grows2 t2.
      keeps_truths w (λ i. (g i && f (after w i j)) && all_below more (λ d. f (after w i (j + 1 + d)))) _
      (same_function _ _ (λ i. and_regroup (g i) (f (after w i j)) (all_below more (λ d. f (after w i (j + 1 + d)))) ∙ ap (λ b. g i && b) (sym (all_from-first w f j more i))))
      (keeps_all_more place id f (j + 1) more both (λ i. g i && f (after w i j)) work2 list2 (grown_truths grows2 (grown_truths grows1 h)) t2)))

  keeps_some_more : (place : ℕ) (id : FormulaId) (f : ℕ → Bool) (j more : ℕ) (so_far : FormulaId) (g : ℕ → Bool) (work : Work) → IsGood top work.formulas
      → HasTruths w f id work.formulas → HasTruths w g so_far work.formulas
      → Keeps top work.formulas (HasTruths w (λ i. g i || some_below more (λ d. f (after w i (j + d))))) (window_more place pairing.Or id j more so_far work)
  keeps_some_more place id f j zero so_far g work list h hg = keeps_given _ so_far work list (with_truths w (same_function _ _ (λ i. sym (or-false (g i)))) hg)
  keeps_some_more place id f j (suc more) so_far g work list h hg =
      keeps_go_on _ _ (keeps_nexts place j id f work list h) (λ following work1 list1 grows1 t.
      keeps_go_on _ _ (keeps_or w place work1 so_far following g (λ i. f (after w i j)) list1 (grown_truths grows1 hg) t) (λ either work2 list2 grows2 t2.
      keeps_truths w (λ i. (g i || f (after w i j)) || some_below more (λ d. f (after w i (j + 1 + d)))) _
      (same_function _ _ (λ i. or_assoc (g i) (f (after w i j)) (some_below more (λ d. f (after w i (j + 1 + d)))) ∙ ap (λ b. g i || b) (sym (some_from-first w f j more i))))
      (keeps_some_more place id f (j + 1) more either (λ i. g i || f (after w i j)) work2 list2 (grown_truths grows2 (grown_truths grows1 h)) t2)))

  pub keeps_all_window : (place m n : ℕ) (x : Formula) (s : Sense) (work : Work) → IsGood top work.formulas → AlikeFormula w work.formulas x s
      → Keeps top work.formulas (λ v nodes. Alike w nodes v (a_formula (λ i. all_below (suc n - m) (λ j. true_in s (after w i (m + j)))))) (window_value place connective.And m n x work)
  keeps_all_window place m n x s work list h =
      keeps_choose (nat_le m n) _ _ work _ (λ within.
      let many : suc (n - m) ≡ suc n - m = let l : m ≤ n = leb-true m n within in omega arith in
      as_flat (λ i. all_below (suc n - m) (λ j. true_in s (after w i (m + j))))
      (keeps_go_on _ _ (keeps_node_of w place x s work list h) (λ id work1 list1 grows1 t.
      keeps_go_on _ _ (keeps_nexts place m id (true_in s) work1 list1 t) (λ first work2 list2 grows2 t2.
      keeps_truths w (λ i. true_in s (after w i m) && all_below (n - m) (λ d. true_in s (after w i (m + 1 + d)))) _
      (same_function _ _ (λ i. sym (all_from-first w (true_in s) m (n - m) i) ∙ ap (λ k. all_below k (λ j. true_in s (after w i (m + j)))) many))
      (keeps_all_more place id (true_in s) (m + 1) (n - m) first (λ i. true_in s (after w i m)) work2 list2 (grown_truths grows2 t) t2)))))
      (λ beyond.
      let none : 0 ≡ suc n - m = let l : n < m = leb-false m n beyond in omega arith in
      as_flat _ (keeps_truths w (λ i. true) _ (same_function _ _ (λ i. ap (λ k. all_below k (λ j. true_in s (after w i (m + j)))) none)) (keeps_truth_node w place true work list)))

  pub keeps_some_window : (place m n : ℕ) (x : Formula) (s : Sense) (work : Work) → IsGood top work.formulas → AlikeFormula w work.formulas x s
      → Keeps top work.formulas (λ v nodes. Alike w nodes v (a_formula (λ i. some_below (suc n - m) (λ j. true_in s (after w i (m + j)))))) (window_value place connective.Or m n x work)
  keeps_some_window place m n x s work list h =
      keeps_choose (nat_le m n) _ _ work _ (λ within.
      let many : suc (n - m) ≡ suc n - m = let l : m ≤ n = leb-true m n within in omega arith in
      as_flat (λ i. some_below (suc n - m) (λ j. true_in s (after w i (m + j))))
      (keeps_go_on _ _ (keeps_node_of w place x s work list h) (λ id work1 list1 grows1 t.
      keeps_go_on _ _ (keeps_nexts place m id (true_in s) work1 list1 t) (λ first work2 list2 grows2 t2.
      keeps_truths w (λ i. true_in s (after w i m) || some_below (n - m) (λ d. true_in s (after w i (m + 1 + d)))) _
      (same_function _ _ (λ i. sym (some_from-first w (true_in s) m (n - m) i) ∙ ap (λ k. some_below k (λ j. true_in s (after w i (m + j)))) many))
      (keeps_some_more place id (true_in s) (m + 1) (n - m) first (λ i. true_in s (after w i m)) work2 list2 (grown_truths grows2 t) t2)))))
      (λ beyond.
      let none : 0 ≡ suc n - m = let l : n < m = leb-false m n beyond in omega arith in
      as_flat _ (keeps_truths w (λ i. false) _ (same_function _ _ (λ i. ap (λ k. some_below k (λ j. true_in s (after w i (m + j)))) none)) (keeps_truth_node w place false work list)))
