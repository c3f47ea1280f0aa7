-- Operators over truths and flat formulas, against the same operators over senses.
use Rattle.std.proofs.Common.{◌≡◌, ℕ, Bool, true, false, List, refl, ap, subst}
use Rattle.std.specs.Prelude.{not, ◌&&◌, ◌||◌}
use Rattle.std.specs.Bool.{beq}
use Rattle.letters_and_lassos.specs.Word.{Word, next}
use Rattle.ltl_formula.specs.declared.nodes.FormulaId.{FormulaId}
use Rattle.ltl_formula.specs.declared.nodes.Node.{Node}
use Rattle.ltl_formula.specs.Tree.{Tree}
use Rattle.ltl_formula.specs.Truth.{holds, until_at, release_at}
use Rattle.ltl_formula.specs.Nodes.{SignalBelow, pick, tree_of}
use Rattle.tlsf_values.specs.declared.work.Work.{Work}
use Rattle.tlsf_values.specs.declared.value.Value.{Value}
use Rattle.tlsf_values.specs.declared.formula.Formula.{Formula}
use Rattle.tlsf_values.specs.declared.formula.Formula.TheVariants as formula
use Rattle.tlsf_values.specs.declared.formula.Pairing.{Pairing}
use Rattle.tlsf_values.specs.declared.formula.Pairing.TheVariants as pairing
use Rattle.tlsf_values.specs.declared.formula.Connective.{Connective}
use Rattle.tlsf_values.specs.declared.formula.Connective.TheVariants as connective
use Rattle.tlsf_values.specs.declared.formula.Sign.{Sign}
use Rattle.tlsf_values.specs.declared.formula.Sign.TheVariants as sign
use Rattle.tlsf_values.specs.Outcomes.{Outcome, gives, go_on, checked}
use Rattle.tlsf_values.specs.Sorts.{formula_in, formula_value}
use Rattle.tlsf_values.specs.Formulas.{pairing_of, connective_of, sign_of, truth_of, node_of, over_both, over_one, connected, opposed}
use Rattle.tlsf_values.specs.Operators.{as_value}
use Rattle.tlsf_expand.specs.Senses as senses
use Rattle.tlsf_expand.specs.Senses.{Sense, a_truth, a_formula, true_in, implies, always, weakly, eventually}
use Rattle.tlsf_expand.proofs.Kept.{IsGood, Keeps, refuses, keeps_go_on, keeps_given, keeps_map}
use Rattle.tlsf_expand.proofs.Alike.{HasTruths, Alike, alike_number, alike_set, alike_bus, alike_member, alike_truth, alike_formula, AlikeFormula, alike_sure, alike_flat, grown_truths, grown_formula}
use Rattle.tlsf_expand.proofs.Made.{keeps_truth_node, keeps_unary, keeps_binary, keeps_not}

-- what a connective says of truths
abbrev pub connective_truth : Connective → Bool → Bool → Bool
connective_truth connective.And a b = a && b
connective_truth connective.Or a b = a || b
connective_truth connective.Implies a b = implies a b
connective_truth connective.Equiv a b = beq a b

same_connective : (c : Connective) (a b : Bool) → truth_of c a b ≡ connective_truth c a b
same_connective connective.And a b = refl
same_connective connective.Or a b = refl
same_connective connective.Implies true b = refl
same_connective connective.Implies false b = refl
same_connective connective.Equiv true true = refl
same_connective connective.Equiv true false = refl
same_connective connective.Equiv false true = refl
same_connective connective.Equiv false false = refl

abbrev pub pairing_truths : Word → Pairing → (ℕ → Bool) → (ℕ → Bool) → ℕ → Bool
pairing_truths w pairing.And a b k = a k && b k
pairing_truths w pairing.Or a b k = a k || b k
pairing_truths w pairing.Implies a b k = implies (a k) (b k)
pairing_truths w pairing.Equiv a b k = beq (a k) (b k)
pairing_truths w pairing.WeakUntil a b k = weakly w a b k
pairing_truths w pairing.Until a b k = until_at w a b k
pairing_truths w pairing.Release a b k = release_at w a b k

abbrev pub sign_truths : Word → Sign → (ℕ → Bool) → ℕ → Bool
sign_truths w sign.Next a k = a (next w k)
sign_truths w sign.Finally a k = eventually w a k
sign_truths w sign.Globally a k = always w a k

module _ (w : Word) where
  pairing_means : (p : Pairing) (T : List Tree) (i j : FormulaId) → holds w (tree_of T (pairing_of p i j)) ≡ pairing_truths w p (holds w (pick T i)) (holds w (pick T j))
  pairing_means pairing.And T i j = refl
  pairing_means pairing.Or T i j = refl
  pairing_means pairing.Implies T i j = refl
  pairing_means pairing.Equiv T i j = refl
  pairing_means pairing.WeakUntil T i j = refl
  pairing_means pairing.Until T i j = refl
  pairing_means pairing.Release T i j = refl

  sign_means : (o : Sign) (T : List Tree) (i : FormulaId) → holds w (tree_of T (sign_of o i)) ≡ sign_truths w o (holds w (pick T i))
  sign_means sign.Next T i = refl
  sign_means sign.Finally T i = refl
  sign_means sign.Globally T i = refl

  connective_pairing : (c : Connective) (a b : ℕ → Bool) → pairing_truths w (connective_of c) a b ≡ (λ (k : ℕ). connective_truth c (a k) (b k))
  connective_pairing connective.And a b = refl
  connective_pairing connective.Or a b = refl
  connective_pairing connective.Implies a b = refl
  connective_pairing connective.Equiv a b = refl

pairing_below : (top : ℕ) (p : Pairing) (i j : FormulaId) → SignalBelow top (pairing_of p i j)
pairing_below top pairing.And i j = tt
pairing_below top pairing.Or i j = tt
pairing_below top pairing.Implies i j = tt
pairing_below top pairing.Equiv i j = tt
pairing_below top pairing.WeakUntil i j = tt
pairing_below top pairing.Until i j = tt
pairing_below top pairing.Release i j = tt

sign_below : (top : ℕ) (o : Sign) (i : FormulaId) → SignalBelow top (sign_of o i)
sign_below top sign.Next i = tt
sign_below top sign.Finally i = tt
sign_below top sign.Globally i = tt

value_of_formula : {w : Word} {nodes : List Node} {x : Formula} {s : Sense} → AlikeFormula w nodes x s → Alike w nodes (formula_value x) s
value_of_formula (alike_sure b) = alike_truth b
value_of_formula (alike_flat id f h) = alike_formula id f h

module _ {top : ℕ} (w : Word) where
  pub keeps_node_of : (place : ℕ) (x : Formula) (s : Sense) (work : Work) → IsGood top work.formulas → AlikeFormula w work.formulas x s
      → Keeps top work.formulas (HasTruths w (true_in s)) (node_of place x work)
  keeps_node_of place _ _ work list (alike_sure b) = keeps_truth_node w place b work list
  keeps_node_of place _ _ work list (alike_flat id truths h) = keeps_given (HasTruths w truths) id work list h

  -- a flat formula that was made
  pub keeps_flat : {old : List Node} {o : Outcome FormulaId} (f : ℕ → Bool) → Keeps top old (HasTruths w f) o
      → Keeps top old (λ z nodes. AlikeFormula w nodes z (a_formula f)) (go_on o (λ id w. gives (formula.Flat id) w))
  keeps_flat f h = keeps_go_on _ _ h (λ id work list grows t. keeps_given _ (formula.Flat id) work list (alike_flat id f t))

  pub keeps_over_both : (place : ℕ) (p : Pairing) (x y : Formula) (s t : Sense) (work : Work) → IsGood top work.formulas
      → AlikeFormula w work.formulas x s → AlikeFormula w work.formulas y t
      → Keeps top work.formulas (λ z nodes. AlikeFormula w nodes z (a_formula (pairing_truths w p (true_in s) (true_in t)))) (over_both place p x y work)
  keeps_over_both place p x y s t work list left right =
      keeps_go_on _ _ (keeps_node_of place x s work list left) (λ i work1 list1 grows1 at_i.
      keeps_go_on _ _ (keeps_node_of place y t work1 list1 (grown_formula grows1 right)) (λ j work2 list2 grows2 at_j.
      keeps_flat (pairing_truths w p (true_in s) (true_in t))
      (keeps_binary w place (pairing_of p) (pairing_truths w p) (pairing_means w p) (pairing_below top p) work2 i j (true_in s) (true_in t) list2 (grown_truths grows2 at_i) at_j)))

  pub keeps_over_one : (place : ℕ) (o : Sign) (x : Formula) (s : Sense) (work : Work) → IsGood top work.formulas → AlikeFormula w work.formulas x s
      → Keeps top work.formulas (λ z nodes. AlikeFormula w nodes z (a_formula (sign_truths w o (true_in s)))) (over_one place o x work)
  keeps_over_one place o x s work list part =
      keeps_go_on _ _ (keeps_node_of place x s work list part) (λ i work1 list1 grows1 at_i.
      keeps_flat (sign_truths w o (true_in s)) (keeps_unary w place (sign_of o) (sign_truths w o) (sign_means w o) (sign_below top o) work1 i (true_in s) list1 at_i))

  -- at an equal sense
  same_sense : {old : List Node} {o : Outcome Formula} (s t : Sense) → s ≡ t → Keeps top old (λ z nodes. AlikeFormula w nodes z s) o → Keeps top old (λ z nodes. AlikeFormula w nodes z t) o
  same_sense s t e h = keeps_map _ (λ z nodes grows a. subst (AlikeFormula w nodes z) e a) h

  pub keeps_connected : (place : ℕ) (c : Connective) (x y : Formula) (s t : Sense) (work : Work) → IsGood top work.formulas
      → AlikeFormula w work.formulas x s → AlikeFormula w work.formulas y t
      → Keeps top work.formulas (λ z nodes. AlikeFormula w nodes z (senses.connected (connective_truth c) s t)) (connected place c x y work)
  keeps_connected place c _ _ _ _ work list (alike_sure a) (alike_sure b) =
      keeps_given _ (formula.Sure (truth_of c a b)) work list (subst (λ e. AlikeFormula w work.formulas (formula.Sure (truth_of c a b)) (a_truth e)) (same_connective c a b) (alike_sure (truth_of c a b)))
  keeps_connected place c _ _ _ _ work list (alike_sure a) (alike_flat j g h) =
      same_sense _ _ (ap a_formula (connective_pairing w c (λ k. a) g)) (keeps_over_both place (connective_of c) _ _ _ _ work list (alike_sure a) (alike_flat j g h))
  keeps_connected place c _ _ _ _ work list (alike_flat i f h) (alike_sure b) =
      same_sense _ _ (ap a_formula (connective_pairing w c f (λ k. b))) (keeps_over_both place (connective_of c) _ _ _ _ work list (alike_flat i f h) (alike_sure b))
  keeps_connected place c _ _ _ _ work list (alike_flat i f h) (alike_flat j g h') =
      same_sense _ _ (ap a_formula (connective_pairing w c f g)) (keeps_over_both place (connective_of c) _ _ _ _ work list (alike_flat i f h) (alike_flat j g h'))

  pub keeps_opposed : (place : ℕ) (x : Formula) (s : Sense) (work : Work) → IsGood top work.formulas → AlikeFormula w work.formulas x s
      → Keeps top work.formulas (λ z nodes. AlikeFormula w nodes z (senses.opposite s)) (opposed place x work)
  keeps_opposed place _ _ work list (alike_sure b) = keeps_given _ (formula.Sure (not b)) work list (alike_sure (not b))
  keeps_opposed place _ _ work list (alike_flat id f h) = keeps_flat (λ k. not (f k)) (keeps_not w place work id f list h)

  -- ---- formulas as values

  pub keeps_as_value : {old : List Node} {o : Outcome Formula} (s : Sense) → Keeps top old (λ z nodes. AlikeFormula w nodes z s) o → Keeps top old (λ v nodes. Alike w nodes v s) (as_value o)
  keeps_as_value s h = keeps_go_on _ _ h (λ z work list grows a. keeps_given _ (formula_value z) work list (value_of_formula a))

  pub keeps_formula_in : {B : Type 0} {old nodes : List Node} (place : ℕ) (v : Value) (s : Sense) (f : Formula → Work → Outcome B) (work : Work) (Q : B → List Node → Type 0)
      → Alike w nodes v s → ((x : Formula) → AlikeFormula w nodes x s → Keeps top old Q (f x work)) → Keeps top old Q (checked (formula_in place v) f work)
  keeps_formula_in place _ _ f work Q (alike_truth b) next = next (formula.Sure b) (alike_sure b)
  keeps_formula_in place _ _ f work Q (alike_formula id g h) next = next (formula.Flat id) (alike_flat id g h)
  keeps_formula_in place _ _ f work Q (alike_number z) next = refuses _ _
  keeps_formula_in place _ _ f work Q (alike_set zs) next = refuses _ _
  keeps_formula_in place _ _ f work Q (alike_bus k) next = refuses _ _
  keeps_formula_in place _ _ f work Q (alike_member k) next = refuses _ _
