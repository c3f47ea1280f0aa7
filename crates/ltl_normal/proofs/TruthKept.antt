use Rattle.std.proofs.Common.{◌≡◌, ℕ, zero, suc, ◌<◌, Bool, true, false, ◌&&◌, ◌||◌, inl, inr, Option, Some, None, refl, sym, ap, ◌∙◌, arith}
use Rattle.std.specs.Prelude.{not}
use Rattle.std.specs.Bool.{beq}
use Rattle.std.proofs.lemmas.Bool.{cases_Bool, cases_order, true≢false, false≢true, or_cases, or_left, or_right, not-true}
use Rattle.std.proofs.lemmas.Option.{none-some, same_Some}
use Rattle.std.specs.Cmp.{both_ways}
use mathlib.Core.Bool.{not-not}
use Rattle.letters_and_lassos.specs.Word.{Word, HasRing, lasso_len, next, after}
use Rattle.letters_and_lassos.proofs.Positions.{next_within, after_within}
use Rattle.ltl_formula.specs.Tree.{Tree}
use Rattle.ltl_formula.specs.Tree.Tree.{truth, falsity, signal, negation, next_time, finally, globally, conjunction, disjunction, implication, equivalence, until, release, weak_until}
use Rattle.ltl_formula.specs.Truth.{until_at, release_at, holds}
use Rattle.ltl_formula.specs.Laws.{Comes}
use Rattle.ltl_formula.proofs.Ahead.{until_at-from, until_at-gives}
use Rattle.ltl_formula.proofs.Futures.{until_at-agree}
use Rattle.ltl_normal.specs.declared.simplify.Joint.{Joint}
use Rattle.ltl_normal.specs.declared.simplify.Joint.TheVariants.{And, Or, Until, Release}
use Rattle.ltl_normal.specs.declared.simplify.Outcome.{Outcome}
use Rattle.ltl_normal.specs.declared.simplify.Outcome.TheVariants.{First, Second, Whole}
use Rattle.ltl_normal.specs.Simplify.{facing_of, junction_of, outcome_of}
use Rattle.ltl_normal.specs.Table.{table}
use Rattle.ltl_normal.specs.NormalTrees.{tree_eq, constant_tree, whole_tree, chosen, joint_tree, next_of, trees, normal_of, negated_of}
use Rattle.ltl_formula.specs.NormalForm.{IsNormal}
use Rattle.ltl_normal.specs.Truths.{HasTruthOf, OpposesTruthOf}
use Rattle.ltl_normal.proofs.TreeEquality.{tree_eq-true}

-- a truth value, or its opposite
abbrev turned : Bool → Bool → Bool
turned true b = b
turned false b = not b

turned-not : (keep b : Bool) → turned (not keep) b ≡ turned keep (not b)
turned-not true b = refl
turned-not false b = sym (not-not b)

-- truth of an operator, where its parts are told by their truth
abbrev joint_at : Word → Joint → (ℕ → Bool) → (ℕ → Bool) → ℕ → Bool
joint_at w And a b i = a i && b i
joint_at w Or a b i = a i || b i
joint_at w Until a b i = until_at w a b i
joint_at w Release a b i = release_at w a b i

holds-chosen : (w : Word) (o : Outcome) (a b whole : Tree) (i : ℕ) → holds w (chosen o a b whole) i ≡ chosen o (holds w a i) (holds w b i) (holds w whole i)
holds-chosen w First a b whole i = refl
holds-chosen w Second a b whole i = refl
holds-chosen w Whole a b whole i = refl

-- a formula that is a constant has its truth everywhere
holds-constant : (w : Word) (f : Tree) (value : Bool) → constant_tree f ≡ Some value → (i : ℕ) → holds w f i ≡ value
holds-constant w truth value e i = same_Some true value e
holds-constant w falsity value e i = same_Some false value e
holds-constant w f value e i = absurd (none-some value e)

-- And and Or, simplified
abbrev junction : Bool → Bool → Bool → Bool
junction true x y = x && y
junction false x y = x || y

junction-simplified : (neutral : Bool) (first second : Option Bool) (same : Bool) (x y : Bool)
    → ((value : Bool) → first ≡ Some value → x ≡ value) → ((value : Bool) → second ≡ Some value → y ≡ value) → (same ≡ true → x ≡ y)
    → chosen (junction_of neutral first second same) x y (junction neutral x y) ≡ junction neutral x y
junction-simplified true (Some true) second same x y fx fy e = ap (λ b. b && y) (sym (fx true refl))
junction-simplified true (Some false) second same x y fx fy e = fx false refl ∙ ap (λ b. b && y) (sym (fx false refl))
junction-simplified true None (Some true) same x y fx fy e = and-true x ∙ ap (λ b. x && b) (sym (fy true refl))
  where
    and-true : (b : Bool) → b ≡ (b && true)
    and-true true = refl
    and-true false = refl
junction-simplified true None (Some false) same x y fx fy e = fy false refl ∙ and-false x ∙ ap (λ b. x && b) (sym (fy false refl))
  where
    and-false : (b : Bool) → false ≡ (b && false)
    and-false true = refl
    and-false false = refl
junction-simplified true None None true x y fx fy e = twice x ∙ ap (λ b. x && b) (e refl)
  where
    twice : (b : Bool) → b ≡ (b && b)
    twice true = refl
    twice false = refl
junction-simplified true None None false x y fx fy e = refl
junction-simplified false (Some true) second same x y fx fy e = fx true refl ∙ ap (λ b. b || y) (sym (fx true refl))
junction-simplified false (Some false) second same x y fx fy e = ap (λ b. b || y) (sym (fx false refl))
junction-simplified false None (Some true) same x y fx fy e = fy true refl ∙ or-true x ∙ ap (λ b. x || b) (sym (fy true refl))
  where
    or-true : (b : Bool) → true ≡ (b || true)
    or-true true = refl
    or-true false = refl
junction-simplified false None (Some false) same x y fx fy e = or-false x ∙ ap (λ b. x || b) (sym (fy false refl))
  where
    or-false : (b : Bool) → b ≡ (b || false)
    or-false true = refl
    or-false false = refl
junction-simplified false None None true x y fx fy e = twice x ∙ ap (λ b. x || b) (e refl)
  where
    twice : (b : Bool) → b ≡ (b || b)
    twice true = refl
    twice false = refl
junction-simplified false None None false x y fx fy e = refl

module _ (w : Word) (ring : HasRing w) where
  -- until and release of a constant second part are the constant
  until_at-constant : (a b : ℕ → Bool) (value : Bool) (i : ℕ) → i < lasso_len w → ((k : ℕ) → b k ≡ value) → value ≡ until_at w a b i
  until_at-constant a b true i within is = sym (until_at-from w a b i ring within (0, record { comes = is i; before = λ k none. absurd (omega arith) }))
  until_at-constant a b false i within is = both_ways false (until_at w a b i) (λ h. absurd (false≢true h))
      (λ h. let found : Comes w a b i = until_at-gives w a b i h in absurd (false≢true (sym (is (after w i found.0)) ∙ found.1.comes)))

  release_at-constant : (a b : ℕ → Bool) (value : Bool) (i : ℕ) → i < lasso_len w → ((k : ℕ) → b k ≡ value) → value ≡ release_at w a b i
  release_at-constant a b value i within is =
      sym (not-not value) ∙ ap not (until_at-constant (λ k. not (a k)) (λ k. not (b k)) (not value) i within (λ k. ap not (is k)))

  -- parts of one truth make wholes of one truth
  joint_at-agree : (joint : Joint) (a b a' b' : ℕ → Bool) (i : ℕ) → i < lasso_len w
      → ((k : ℕ) → k < lasso_len w → a k ≡ a' k) → ((k : ℕ) → k < lasso_len w → b k ≡ b' k) → joint_at w joint a b i ≡ joint_at w joint a' b' i
  joint_at-agree And a b a' b' i within same_a same_b = ap (λ x. x && b i) (same_a i within) ∙ ap (λ y. a' i && y) (same_b i within)
  joint_at-agree Or a b a' b' i within same_a same_b = ap (λ x. x || b i) (same_a i within) ∙ ap (λ y. a' i || y) (same_b i within)
  joint_at-agree Until a b a' b' i within same_a same_b =
      until_at-agree w w i i ring ring within within a b a' b' (λ j. same_a (after w i j) (after_within w i j ring within)) (λ j. same_b (after w i j) (after_within w i j ring within))
  joint_at-agree Release a b a' b' i within same_a same_b =
      ap not (until_at-agree w w i i ring ring within within (λ k. not (a k)) (λ k. not (b k)) (λ k. not (a' k)) (λ k. not (b' k))
      (λ j. ap not (same_a (after w i j) (after_within w i j ring within))) (λ j. ap not (same_b (after w i j) (after_within w i j ring within))))

  -- the opposite operator of opposite parts is the opposite
  joint_at-facing : (keep : Bool) (joint : Joint) (a b : ℕ → Bool) (i : ℕ) → i < lasso_len w
      → joint_at w (facing_of keep joint) (λ k. turned keep (a k)) (λ k. turned keep (b k)) i ≡ turned keep (joint_at w joint a b i)
  joint_at-facing true joint a b i within = refl
  joint_at-facing false And a b i within = by (a i) (b i)
    where
      by : (x y : Bool) → (not x || not y) ≡ not (x && y)
      by true y = refl
      by false y = refl
  joint_at-facing false Or a b i within = by (a i) (b i)
    where
      by : (x y : Bool) → (not x && not y) ≡ not (x || y)
      by true y = refl
      by false y = refl
  joint_at-facing false Until a b i within =
      ap not (joint_at-agree Until (λ k. not (not (a k))) (λ k. not (not (b k))) a b i within (λ k _. not-not (a k)) (λ k _. not-not (b k)))
  joint_at-facing false Release a b i within = sym (not-not (until_at w (λ k. not (a k)) (λ k. not (b k)) i))

  -- simplified operators have the truth of the operator
  holds-joined : (joint : Joint) (a b : Tree) (i : ℕ) → i < lasso_len w → holds w (joint_tree joint a b) i ≡ joint_at w joint (holds w a) (holds w b) i
  holds-joined And a b i within =
      holds-chosen w (outcome_of And (constant_tree a) (constant_tree b) (tree_eq a b)) a b (conjunction a b) i
      ∙ junction-simplified true (constant_tree a) (constant_tree b) (tree_eq a b) (holds w a i) (holds w b i)
      (λ value e. holds-constant w a value e i) (λ value e. holds-constant w b value e i) (λ e. ap (λ t. holds w t i) (tree_eq-true a b e))
  holds-joined Or a b i within =
      holds-chosen w (outcome_of Or (constant_tree a) (constant_tree b) (tree_eq a b)) a b (disjunction a b) i
      ∙ junction-simplified false (constant_tree a) (constant_tree b) (tree_eq a b) (holds w a i) (holds w b i)
      (λ value e. holds-constant w a value e i) (λ value e. holds-constant w b value e i) (λ e. ap (λ t. holds w t i) (tree_eq-true a b e))
  holds-joined Until a b i within = by (constant_tree b) refl
    where
      by : (second : Option Bool) → constant_tree b ≡ second → holds w (chosen (outcome_of Until (constant_tree a) second (tree_eq a b)) a b (until a b)) i ≡ until_at w (holds w a) (holds w b) i
      by (Some value) e = holds-constant w b value e i ∙ until_at-constant (holds w a) (holds w b) value i within (holds-constant w b value e)
      by None e = refl
  holds-joined Release a b i within = by (constant_tree b) refl
    where
      by : (second : Option Bool) → constant_tree b ≡ second → holds w (chosen (outcome_of Release (constant_tree a) second (tree_eq a b)) a b (release a b)) i ≡ release_at w (holds w a) (holds w b) i
      by (Some value) e = holds-constant w b value e i ∙ release_at-constant (holds w a) (holds w b) value i within (holds-constant w b value e)
      by None e = refl

  holds-next_of : (a : Tree) (i : ℕ) → holds w (next_of (constant_tree a) a) i ≡ holds w a (next w i)
  holds-next_of a i = by (constant_tree a) refl
    where
      by : (c : Option Bool) → constant_tree a ≡ c → holds w (next_of c a) i ≡ holds w a (next w i)
      by (Some value) e = holds-constant w a value e i ∙ sym (holds-constant w a value e (next w i))
      by None e = refl

  -- weak until is release with the parts in the other order
  weak-as-release : (a b : ℕ → Bool) (i : ℕ) → i < lasso_len w
      → release_at w b (λ k. a k || b k) i ≡ (until_at w a b i || release_at w (λ k. false) a i)
  weak-as-release a b i within = both_ways _ _ to from
    where
      bad : (j : ℕ) → until_at w (λ k. not (b k)) (λ k. not (a k || b k)) i ≡ false → ((k : ℕ) → k < j → b (after w i k) ≡ false) → (a (after w i j) || b (after w i j)) ≡ true
      bad j never before =
          elim (cases_Bool (a (after w i j) || b (after w i j))) [
            | inl is ↦ is
            | inr isnt ↦ absurd (false≢true (sym never ∙ until_at-from w (λ k. not (b k)) (λ k. not (a k || b k)) i ring within (j, record { comes = ap not isnt; before = λ k h. ap not (before k h) })))
          ]

      to : release_at w b (λ k. a k || b k) i ≡ true → (until_at w a b i || release_at w (λ k. false) a i) ≡ true
      to h =
          elim (cases_Bool (until_at w a b i)) [
            | inl comes ↦ or_left (until_at w a b i) (release_at w (λ k. false) a i) comes
            | inr never ↦ or_right (until_at w a b i) (release_at w (λ k. false) a i) (globally never)
          ]
        where
          steady : until_at w a b i ≡ false → (n k : ℕ) → k < n → (a (after w i k) ≡ true) × (b (after w i k) ≡ false)
          steady never zero k small = absurd (omega arith)
          steady never (suc n) k small =
              let before : (j : ℕ) → j < k → (a (after w i j) ≡ true) × (b (after w i j) ≡ false) = λ j hj. steady never n j (omega arith) in
              let no_b : b (after w i k) ≡ false =
              elim (cases_Bool (b (after w i k))) [
                | inr isnt ↦ isnt
                | inl is ↦ absurd (false≢true (sym never ∙ until_at-from w a b i ring within (k, record { comes = is; before = λ j hj. (before j hj).0 })))
              ] in
              let either : (a (after w i k) || b (after w i k)) ≡ true = bad k (not-true _ h) (λ j hj. (before j hj).1) in
              (elim (or_cases (a (after w i k)) (b (after w i k)) either) [ inl is ↦ is | inr is ↦ absurd (false≢true (sym no_b ∙ is)) ], no_b)

          globally : until_at w a b i ≡ false → release_at w (λ k. false) a i ≡ true
          globally never =
              elim (cases_Bool (until_at w (λ k. not false) (λ k. not (a k)) i)) [
                | inr isnt ↦ ap not isnt
                | inl is ↦
                    let found : Comes w (λ k. not false) (λ k. not (a k)) i = until_at-gives w (λ k. not false) (λ k. not (a k)) i is in
                    absurd (true≢false (sym (steady never (suc found.0) found.0 (omega arith)).0 ∙ not-true (a (after w i found.0)) found.1.comes))
              ]

      -- a position where neither holds, with no b before it, refutes both until and globally
      refutes : Comes w (λ k. not (b k)) (λ k. not (a k || b k)) i → (until_at w a b i || release_at w (λ k. false) a i) ≡ true → ⊥
      refutes (j, at) h =
          let neither : (a (after w i j) || b (after w i j)) ≡ false = not-true (a (after w i j) || b (after w i j)) at.comes in
          let no_a : a (after w i j) ≡ false = left (a (after w i j)) (b (after w i j)) neither in
          let no_b : b (after w i j) ≡ false = right (a (after w i j)) (b (after w i j)) neither in
          elim (or_cases (until_at w a b i) (release_at w (λ k. false) a i) h) [
            | inl comes ↦
                let found : Comes w a b i = until_at-gives w a b i comes in
                elim (cases_order found.0 j) [
                  | inl e ↦ true≢false (sym found.1.comes ∙ ap (λ k. b (after w i k)) e ∙ no_b)
                  | inr (inl sooner) ↦ true≢false (sym found.1.comes ∙ not-true (b (after w i found.0)) (at.before found.0 sooner))
                  | inr (inr later) ↦ true≢false (sym (found.1.before j later) ∙ no_a)
                ]
            | inr always ↦
                true≢false (sym (until_at-from w (λ k. not false) (λ k. not (a k)) i ring within (j, record { comes = ap not no_a; before = λ k earlier. refl }))
                ∙ not-true (until_at w (λ k. not false) (λ k. not (a k)) i) always)
          ]
        where
          left : (x y : Bool) → (x || y) ≡ false → x ≡ false
          left true y e = e
          left false y e = refl

          right : (x y : Bool) → (x || y) ≡ false → y ≡ false
          right true y e = absurd (true≢false e)
          right false y e = e

      from : (until_at w a b i || release_at w (λ k. false) a i) ≡ true → release_at w b (λ k. a k || b k) i ≡ true
      from h =
          elim (cases_Bool (until_at w (λ k. not (b k)) (λ k. not (a k || b k)) i)) [
            | inr isnt ↦ ap not isnt
            | inl is ↦ absurd (refutes (until_at-gives w (λ k. not (b k)) (λ k. not (a k || b k)) i is) h)
          ]

  -- the table keeps truth, or turns it
  holds-literal : (keep : Bool) (s i : ℕ) → holds w (trees.literal keep s) i ≡ turned keep (holds w (signal s) i)
  holds-literal true s i = refl
  holds-literal false s i = refl

  -- two parts, each told by its truth
  holds-row : (keep : Bool) (joint : Joint) (x y : Tree) (a b : ℕ → Bool) (i : ℕ) → i < lasso_len w
      → ((k : ℕ) → k < lasso_len w → holds w x k ≡ turned keep (a k)) → ((k : ℕ) → k < lasso_len w → holds w y k ≡ turned keep (b k))
      → holds w (joint_tree (facing_of keep joint) x y) i ≡ turned keep (joint_at w joint a b i)
  holds-row keep joint x y a b i within of_x of_y =
      holds-joined (facing_of keep joint) x y i within
      ∙ joint_at-agree (facing_of keep joint) (holds w x) (holds w y) (λ k. turned keep (a k)) (λ k. turned keep (b k)) i within of_x of_y
      ∙ joint_at-facing keep joint a b i within

  holds-table : (keep : Bool) (f : Tree) (i : ℕ) → i < lasso_len w → holds w (table trees keep f) i ≡ turned keep (holds w f i)
  holds-table true truth i within = refl
  holds-table false truth i within = refl
  holds-table true falsity i within = refl
  holds-table false falsity i within = refl
  holds-table keep (signal s) i within = holds-literal keep s i
  holds-table keep (negation a) i within = holds-table (not keep) a i within ∙ turned-not keep (holds w a i)
  holds-table keep (next_time a) i within = holds-next_of (table trees keep a) i ∙ holds-table keep a (next w i) (next_within w i ring within)
  holds-table keep (finally a) i within =
      holds-row keep Until (trees.constant keep) (table trees keep a) (λ k. true) (holds w a) i within (λ k _. value keep k) (holds-table keep a)
    where
      value : (keep : Bool) (k : ℕ) → holds w (trees.constant keep) k ≡ turned keep true
      value true k = refl
      value false k = refl
  holds-table keep (globally a) i within =
      holds-row keep Release (trees.constant (not keep)) (table trees keep a) (λ k. false) (holds w a) i within (λ k _. value keep k) (holds-table keep a)
    where
      value : (keep : Bool) (k : ℕ) → holds w (trees.constant (not keep)) k ≡ turned keep false
      value true k = refl
      value false k = refl
  holds-table keep (conjunction a b) i within = holds-row keep And (table trees keep a) (table trees keep b) (holds w a) (holds w b) i within (holds-table keep a) (holds-table keep b)
  holds-table keep (disjunction a b) i within = holds-row keep Or (table trees keep a) (table trees keep b) (holds w a) (holds w b) i within (holds-table keep a) (holds-table keep b)
  holds-table keep (implication a b) i within =
      holds-row keep Or (table trees (not keep) a) (table trees keep b) (λ k. not (holds w a k)) (holds w b) i within
      (λ k h. holds-table (not keep) a k h ∙ turned-not keep (holds w a k)) (holds-table keep b)
  holds-table keep (equivalence a b) i within =
      holds-joined Or (joint_tree And (table trees true a) (table trees keep b)) (joint_tree And (table trees false a) (table trees (not keep) b)) i within
      ∙ ap (λ x. x || holds w (joint_tree And (table trees false a) (table trees (not keep) b)) i)
      (holds-joined And (table trees true a) (table trees keep b) i within ∙ pair (holds-table true a i within) (holds-table keep b i within))
      ∙ ap (λ y. (holds w a i && turned keep (holds w b i)) || y)
      (holds-joined And (table trees false a) (table trees (not keep) b) i within ∙ pair (holds-table false a i within) (holds-table (not keep) b i within))
      ∙ by keep (holds w a i) (holds w b i)
    where
      pair : {x x' y y' : Bool} → x ≡ x' → y ≡ y' → (x && y) ≡ (x' && y')
      pair {x} {x'} {y} {y'} e f = ap (λ b. b && y) e ∙ ap (λ b. x' && b) f

      by : (keep x y : Bool) → ((x && turned keep y) || (not x && turned (not keep) y)) ≡ turned keep (beq x y)
      by true true true = refl
      by true true false = refl
      by true false true = refl
      by true false false = refl
      by false true true = refl
      by false true false = refl
      by false false true = refl
      by false false false = refl
  holds-table keep (until a b) i within = holds-row keep Until (table trees keep a) (table trees keep b) (holds w a) (holds w b) i within (holds-table keep a) (holds-table keep b)
  holds-table keep (release a b) i within = holds-row keep Release (table trees keep a) (table trees keep b) (holds w a) (holds w b) i within (holds-table keep a) (holds-table keep b)
  holds-table keep (weak_until a b) i within =
      holds-row keep Release (table trees keep b) (joint_tree (facing_of keep Or) (table trees keep a) (table trees keep b)) (holds w b) (λ k. holds w a k || holds w b k) i within
      (holds-table keep b)
      (λ k h. holds-row keep Or (table trees keep a) (table trees keep b) (holds w a) (holds w b) k h (holds-table keep a) (holds-table keep b))
      ∙ ap (turned keep) (weak-as-release (holds w a) (holds w b) i within)

pub HasTruthOf-normal_of : (f : Tree) → HasTruthOf f (normal_of f)
HasTruthOf-normal_of f = record { same = λ w i ring within. holds-table w ring true f i within }

pub OpposesTruthOf-negated_of : (f : Tree) → OpposesTruthOf f (negated_of f)
OpposesTruthOf-negated_of f = record { opposite = λ w i ring within. holds-table w ring false f i within }

-- the table gives normal forms
IsNormal-chosen : (o : Outcome) (a b whole : Tree) → IsNormal a → IsNormal b → IsNormal whole → IsNormal (chosen o a b whole)
IsNormal-chosen First a b whole x y z = x
IsNormal-chosen Second a b whole x y z = y
IsNormal-chosen Whole a b whole x y z = z

IsNormal-joined : (joint : Joint) (a b : Tree) → IsNormal a → IsNormal b → IsNormal (joint_tree joint a b)
IsNormal-joined joint a b x y = IsNormal-chosen (outcome_of joint (constant_tree a) (constant_tree b) (tree_eq a b)) a b (whole_tree joint a b) x y (by joint)
  where
    by : (joint : Joint) → IsNormal (whole_tree joint a b)
    by And = (x, y)
    by Or = (x, y)
    by Until = (x, y)
    by Release = (x, y)

IsNormal-constant : (value : Bool) → IsNormal (trees.constant value)
IsNormal-constant true = tt
IsNormal-constant false = tt

pub IsNormal-table : (keep : Bool) (f : Tree) → IsNormal (table trees keep f)
IsNormal-table keep truth = IsNormal-constant keep
IsNormal-table keep falsity = IsNormal-constant (not keep)
IsNormal-table true (signal s) = tt
IsNormal-table false (signal s) = tt
IsNormal-table keep (negation a) = IsNormal-table (not keep) a
IsNormal-table keep (next_time a) = by (constant_tree (table trees keep a)) (IsNormal-table keep a)
  where
    by : (c : Option Bool) → IsNormal (table trees keep a) → IsNormal (next_of c (table trees keep a))
    by (Some value) normal = normal
    by None normal = normal
IsNormal-table keep (finally a) = IsNormal-joined (facing_of keep Until) (trees.constant keep) (table trees keep a) (IsNormal-constant keep) (IsNormal-table keep a)
IsNormal-table keep (globally a) = IsNormal-joined (facing_of keep Release) (trees.constant (not keep)) (table trees keep a) (IsNormal-constant (not keep)) (IsNormal-table keep a)
IsNormal-table keep (conjunction a b) = IsNormal-joined (facing_of keep And) (table trees keep a) (table trees keep b) (IsNormal-table keep a) (IsNormal-table keep b)
IsNormal-table keep (disjunction a b) = IsNormal-joined (facing_of keep Or) (table trees keep a) (table trees keep b) (IsNormal-table keep a) (IsNormal-table keep b)
IsNormal-table keep (implication a b) = IsNormal-joined (facing_of keep Or) (table trees (not keep) a) (table trees keep b) (IsNormal-table (not keep) a) (IsNormal-table keep b)
IsNormal-table keep (equivalence a b) =
    IsNormal-joined Or (joint_tree And (table trees true a) (table trees keep b)) (joint_tree And (table trees false a) (table trees (not keep) b))
    (IsNormal-joined And (table trees true a) (table trees keep b) (IsNormal-table true a) (IsNormal-table keep b))
    (IsNormal-joined And (table trees false a) (table trees (not keep) b) (IsNormal-table false a) (IsNormal-table (not keep) b))
IsNormal-table keep (until a b) = IsNormal-joined (facing_of keep Until) (table trees keep a) (table trees keep b) (IsNormal-table keep a) (IsNormal-table keep b)
IsNormal-table keep (release a b) = IsNormal-joined (facing_of keep Release) (table trees keep a) (table trees keep b) (IsNormal-table keep a) (IsNormal-table keep b)
IsNormal-table keep (weak_until a b) =
    IsNormal-joined (facing_of keep Release) (table trees keep b) (joint_tree (facing_of keep Or) (table trees keep a) (table trees keep b)) (IsNormal-table keep b)
    (IsNormal-joined (facing_of keep Or) (table trees keep a) (table trees keep b) (IsNormal-table keep a) (IsNormal-table keep b))
