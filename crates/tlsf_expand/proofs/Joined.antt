-- Formulas joined to the left over members say "for each member" or "for some member".
use Rattle.std.proofs.Common.{◌≡◌, ℕ, Bool, true, false, List, [], ◌∷◌, map, ℤ, None, Some, refl, sym, ap, subst, ◌∙◌}
use Rattle.std.specs.Prelude.{◌&&◌, ◌||◌, if◌then◌else◌}
use Rattle.std.specs.List.{list_all, list_any}
use mathlib.Core.Bool.{or_assoc, and-true, or-false}
use Rattle.letters_and_lassos.specs.Word.{Word}
use Rattle.ltl_formula.specs.declared.nodes.Node.{Node}
use Rattle.ltl_formula.specs.Nodes.{Grows}
use Rattle.ltl_formula.proofs.Lists.{Grows-refl, Grows-trans}
use Rattle.tlsf_syntax.specs.declared.expr.Op.TheVariants as op
use Rattle.tlsf_values.specs.declared.work.Work.{Work}
use Rattle.tlsf_values.specs.declared.formula.Formula.{Formula}
use Rattle.tlsf_values.specs.declared.formula.Formula.TheVariants as formula
use Rattle.tlsf_values.specs.declared.formula.Connective.{Connective}
use Rattle.tlsf_values.specs.declared.formula.Connective.TheVariants as connective
use Rattle.tlsf_values.specs.Outcomes.{Outcome}
use Rattle.tlsf_values.specs.Counts.{joined_over}
use Rattle.tlsf_expand.specs.Senses.{Sense, a_truth, a_formula, true_in, is_truth, connected, for_members}
use Rattle.tlsf_expand.proofs.Kept.{IsGood, Keeps, keeps_go_on, keeps_given, keeps_map}
use Rattle.tlsf_expand.proofs.Alike.{AlikeFormula, alike_sure, alike_flat, grown_formula}
use Rattle.tlsf_expand.proofs.Connected.{connective_truth, keeps_connected}
use Rattle.tlsf_expand.proofs.Bools.{and_regroup, same_function}

-- joined to the left
abbrev fold : (Bool → Bool → Bool) → Sense → List Sense → Sense
fold f s [] = s
fold f s (t ∷ ts) = fold f (connected f s t) ts

-- it is a truth or a formula
data IsFormulaSense : Sense → Type 0 where
  of_truth : (b : Bool) → IsFormulaSense (a_truth b)
  of_formula : (f : ℕ → Bool) → IsFormulaSense (a_formula f)

connected-formula : (f : Bool → Bool → Bool) (s t : Sense) → IsFormulaSense (connected f s t)
connected-formula f (a_truth a) (a_truth b) = of_truth (f a b)
connected-formula f s t = of_formula _

connected-is_truth : (f : Bool → Bool → Bool) (s t : Sense) → is_truth (connected f s t) ≡ (is_truth s && is_truth t)
connected-is_truth f (a_truth a) (a_truth b) = refl
connected-is_truth f s t = refl

connected-true_in : (f : Bool → Bool → Bool) (s t : Sense) (i : ℕ) → true_in (connected f s t) i ≡ f (true_in s i) (true_in t i)
connected-true_in f (a_truth a) (a_truth b) i = refl
connected-true_in f s t i = refl

each_and : (s t : Sense) (ts : List Sense) → for_members op.And (connected (λ x y. x && y) s t ∷ ts) ≡ for_members op.And (s ∷ t ∷ ts)
each_and s t ts =
    let truths : list_all is_truth (connected (λ x y. x && y) s t ∷ ts) ≡ list_all is_truth (s ∷ t ∷ ts) =
    ap (λ b. b && list_all is_truth ts) (connected-is_truth (λ x y. x && y) s t) ∙ and_regroup (is_truth s) (is_truth t) (list_all is_truth ts) in
    let at : (i : ℕ) → list_all (λ u. true_in u i) (connected (λ x y. x && y) s t ∷ ts) ≡ list_all (λ u. true_in u i) (s ∷ t ∷ ts) =
    λ i. ap (λ b. b && list_all (λ u. true_in u i) ts) (connected-true_in (λ x y. x && y) s t i) ∙ and_regroup (true_in s i) (true_in t i) (list_all (λ u. true_in u i) ts) in
    λ k. if truths k then a_truth (at 0 k) else a_formula (λ i. at i k)

each_or : (s t : Sense) (ts : List Sense) → for_members op.Or (connected (λ x y. x || y) s t ∷ ts) ≡ for_members op.Or (s ∷ t ∷ ts)
each_or s t ts =
    let truths : list_all is_truth (connected (λ x y. x || y) s t ∷ ts) ≡ list_all is_truth (s ∷ t ∷ ts) =
    ap (λ b. b && list_all is_truth ts) (connected-is_truth (λ x y. x || y) s t) ∙ and_regroup (is_truth s) (is_truth t) (list_all is_truth ts) in
    let at : (i : ℕ) → list_any (λ u. true_in u i) (connected (λ x y. x || y) s t ∷ ts) ≡ list_any (λ u. true_in u i) (s ∷ t ∷ ts) =
    λ i. ap (λ b. b || list_any (λ u. true_in u i) ts) (connected-true_in (λ x y. x || y) s t i) ∙ or_assoc (true_in s i) (true_in t i) (list_any (λ u. true_in u i) ts) in
    λ k. if truths k then a_truth (at 0 k) else a_formula (λ i. at i k)

fold_and : (s : Sense) (ts : List Sense) → IsFormulaSense s → fold (λ x y. x && y) s ts ≡ for_members op.And (s ∷ ts)
fold_and _ [] (of_truth b) = ap a_truth (sym (and-true b))
fold_and _ [] (of_formula f) = ap a_formula (same_function _ _ (λ i. sym (and-true (f i))))
fold_and s (t ∷ ts) h = fold_and (connected (λ x y. x && y) s t) ts (connected-formula (λ x y. x && y) s t) ∙ each_and s t ts

fold_or : (s : Sense) (ts : List Sense) → IsFormulaSense s → fold (λ x y. x || y) s ts ≡ for_members op.Or (s ∷ ts)
fold_or _ [] (of_truth b) = ap a_truth (sym (or-false b))
fold_or _ [] (of_formula f) = ap a_formula (same_function _ _ (λ i. sym (or-false (f i))))
fold_or s (t ∷ ts) h = fold_or (connected (λ x y. x || y) s t) ts (connected-formula (λ x y. x || y) s t) ∙ each_or s t ts

-- what is made for each member has its sense, in every longer list
pub record MakesEach (top : ℕ) (w : Word) (old : List Node) (f : ℤ → Work → Outcome Formula) (g : ℤ → Sense) : Type 0 where
  pub each : (z : ℤ) (work : Work) → IsGood top work.formulas → Grows old work.formulas → Keeps top work.formulas (λ x nodes. AlikeFormula w nodes x (g z)) (f z work)

formula_sense : {w : Word} {nodes : List Node} {x : Formula} {s : Sense} → AlikeFormula w nodes x s → IsFormulaSense s
formula_sense (alike_sure b) = of_truth b
formula_sense (alike_flat id f h) = of_formula f

module _ {top : ℕ} (w : Word) where
  keeps_joined_over : (place : ℕ) (c : Connective) (old : List Node) (f : ℤ → Work → Outcome Formula) (g : ℤ → Sense) → MakesEach top w old f g
      → (zs : List ℤ) (x : Formula) (s : Sense) (work : Work) → IsGood top work.formulas → Grows old work.formulas → AlikeFormula w work.formulas x s
      → Keeps top work.formulas (λ y nodes. AlikeFormula w nodes y (fold (connective_truth c) s (map g zs))) (joined_over place c f zs (Some x) work)
  keeps_joined_over place c old f g makes [] x s work list grows h = keeps_given _ x work list h
  keeps_joined_over place c old f g makes (z ∷ zs) x s work list grows h =
      keeps_go_on _ _ (makes.each z work list grows) (λ y work1 list1 grows1 hy.
      keeps_go_on _ _ (keeps_connected w place c x y s (g z) work1 list1 (grown_formula grows1 h) hy) (λ joined work2 list2 grows2 hj.
      keeps_joined_over place c old f g makes zs joined (connected (connective_truth c) s (g z)) work2 list2
      (Grows-trans old work1.formulas work2.formulas (Grows-trans old work.formulas work1.formulas grows grows1) grows2) hj))

  pub keeps_for_each : (place : ℕ) (f : ℤ → Work → Outcome Formula) (g : ℤ → Sense) (zs : List ℤ) (work : Work) → IsGood top work.formulas → MakesEach top w work.formulas f g
      → Keeps top work.formulas (λ y nodes. AlikeFormula w nodes y (for_members op.And (map g zs))) (joined_over place connective.And f zs None work)
  keeps_for_each place f g [] work list makes = keeps_given _ (formula.Sure true) work list (alike_sure true)
  keeps_for_each place f g (z ∷ zs) work list makes =
      keeps_go_on _ _ (makes.each z work list (Grows-refl work.formulas)) (λ first work1 list1 grows1 h.
      keeps_map _ (λ y nodes grows a. subst (AlikeFormula w nodes y) (fold_and (g z) (map g zs) (formula_sense h)) a)
      (keeps_joined_over place connective.And work.formulas f g makes zs first (g z) work1 list1 grows1 h))

  pub keeps_for_some : (place : ℕ) (f : ℤ → Work → Outcome Formula) (g : ℤ → Sense) (zs : List ℤ) (work : Work) → IsGood top work.formulas → MakesEach top w work.formulas f g
      → Keeps top work.formulas (λ y nodes. AlikeFormula w nodes y (for_members op.Or (map g zs))) (joined_over place connective.Or f zs None work)
  keeps_for_some place f g [] work list makes = keeps_given _ (formula.Sure false) work list (alike_sure false)
  keeps_for_some place f g (z ∷ zs) work list makes =
      keeps_go_on _ _ (makes.each z work list (Grows-refl work.formulas)) (λ first work1 list1 grows1 h.
      keeps_map _ (λ y nodes grows a. subst (AlikeFormula w nodes y) (fold_or (g z) (map g zs) (formula_sense h)) a)
      (keeps_joined_over place connective.Or work.formulas f g makes zs first (g z) work1 list1 grows1 h))
