-- X before each literal that is shifted, and back: shifted forms of formulas, and normal forms of shifted formulas, tell the formulas.
use Rattle.std.proofs.Common.{◌≡◌, ℕ, Bool, true, false, cond, inl, inr, None, refl, sym, ap, ◌∙◌}
use Rattle.std.proofs.lemmas.Bool.{cases_Bool, true≢false, false_from_ne_true}
use Rattle.ltl_formula.specs.Tree.{Tree}
use Rattle.ltl_formula.specs.Tree.Tree.{truth, falsity, signal, negation, next_time, finally, globally, conjunction, disjunction, implication, equivalence, until, release, weak_until}
use Rattle.kind_conversion.specs.declared.shifts.Shift.{Shift}
use Rattle.kind_conversion.specs.Shifts.{is_shifted}
use Rattle.kind_conversion.specs.ShiftedForm.{shifted_form}
use Rattle.ltl_normal.specs.NormalTrees.{constant_tree, tree_eq}
use Rattle.ltl_normal.proofs.TreeEquality.{tree_eq-true, tree_eq-self}

-- a shifted signal, and a literal of one
abbrev pub is_moving : Shift → ℕ → Tree → Bool
is_moving shift inputs (signal s) = is_shifted shift inputs s
is_moving shift inputs _ = false

abbrev pub is_bare : Shift → ℕ → Tree → Bool
is_bare shift inputs (signal s) = is_shifted shift inputs s
is_bare shift inputs (negation a) = is_moving shift inputs a
is_bare shift inputs _ = false

-- with X before each literal of a shifted signal
abbrev pub moved : Shift → ℕ → Tree → Tree
moved shift inputs truth = truth
moved shift inputs falsity = falsity
moved shift inputs (signal s) = cond (is_shifted shift inputs s) (next_time (signal s)) (signal s)
moved shift inputs (negation a) = cond (is_moving shift inputs a) (next_time (negation a)) (negation (moved shift inputs a))
moved shift inputs (next_time a) = next_time (moved shift inputs a)
moved shift inputs (finally a) = finally (moved shift inputs a)
moved shift inputs (globally a) = globally (moved shift inputs a)
moved shift inputs (conjunction a b) = conjunction (moved shift inputs a) (moved shift inputs b)
moved shift inputs (disjunction a b) = disjunction (moved shift inputs a) (moved shift inputs b)
moved shift inputs (implication a b) = implication (moved shift inputs a) (moved shift inputs b)
moved shift inputs (equivalence a b) = equivalence (moved shift inputs a) (moved shift inputs b)
moved shift inputs (until a b) = until (moved shift inputs a) (moved shift inputs b)
moved shift inputs (release a b) = release (moved shift inputs a) (moved shift inputs b)
moved shift inputs (weak_until a b) = weak_until (moved shift inputs a) (moved shift inputs b)

-- without the X before each literal of a shifted signal
abbrev pub unmoved : Shift → ℕ → Tree → Tree
unmoved shift inputs truth = truth
unmoved shift inputs falsity = falsity
unmoved shift inputs (signal s) = signal s
unmoved shift inputs (negation a) = negation (unmoved shift inputs a)
unmoved shift inputs (next_time a) = cond (is_bare shift inputs a) a (next_time (unmoved shift inputs a))
unmoved shift inputs (finally a) = finally (unmoved shift inputs a)
unmoved shift inputs (globally a) = globally (unmoved shift inputs a)
unmoved shift inputs (conjunction a b) = conjunction (unmoved shift inputs a) (unmoved shift inputs b)
unmoved shift inputs (disjunction a b) = disjunction (unmoved shift inputs a) (unmoved shift inputs b)
unmoved shift inputs (implication a b) = implication (unmoved shift inputs a) (unmoved shift inputs b)
unmoved shift inputs (equivalence a b) = equivalence (unmoved shift inputs a) (unmoved shift inputs b)
unmoved shift inputs (until a b) = until (unmoved shift inputs a) (unmoved shift inputs b)
unmoved shift inputs (release a b) = release (unmoved shift inputs a) (unmoved shift inputs b)
unmoved shift inputs (weak_until a b) = weak_until (unmoved shift inputs a) (unmoved shift inputs b)

module _ (shift : Shift) (inputs : ℕ) where
  -- X of a formula that isn't bare keeps its X
  next_kept : (a b : Tree) → is_bare shift inputs a ≡ false → unmoved shift inputs a ≡ b → unmoved shift inputs (next_time a) ≡ next_time b
  next_kept a b bare same = ap (λ c. cond c a (next_time (unmoved shift inputs a))) bare ∙ ap next_time same

  -- a literal of a shifted signal comes back from its X
  next_lost : (a : Tree) → is_bare shift inputs a ≡ true → unmoved shift inputs (next_time a) ≡ a
  next_lost a bare = ap (λ c. cond c a (next_time (unmoved shift inputs a))) bare

  -- ---- shifted forms

  shifted_signal : (P : Tree → Bool) (s : ℕ) → P (next_time (signal s)) ≡ false → (is_shifted shift inputs s ≡ false → P (signal s) ≡ false) → P (shifted_form shift inputs (signal s)) ≡ false
  shifted_signal P s next kept = by (is_shifted shift inputs s) refl
    where
      by : (b : Bool) → is_shifted shift inputs s ≡ b → P (cond b (next_time (signal s)) (signal s)) ≡ false
      by true e = next
      by false e = kept e

  not_moving_shifted : (a : Tree) → is_moving shift inputs (shifted_form shift inputs a) ≡ false
  not_moving_shifted (signal s) = shifted_signal (is_moving shift inputs) s refl (λ e. e)
  not_moving_shifted _ = refl

  not_bare_shifted : (a : Tree) → is_bare shift inputs (shifted_form shift inputs a) ≡ false
  not_bare_shifted (signal s) = shifted_signal (is_bare shift inputs) s refl (λ e. e)
  not_bare_shifted (negation a) = not_moving_shifted a
  not_bare_shifted _ = refl

  signal_back : (s : ℕ) (b : Bool) → is_shifted shift inputs s ≡ b → unmoved shift inputs (cond b (next_time (signal s)) (signal s)) ≡ signal s
  signal_back s true e = next_lost (signal s) e
  signal_back s false e = refl

  pub shifted_back : (a : Tree) → unmoved shift inputs (shifted_form shift inputs a) ≡ a
  shifted_back truth = refl
  shifted_back falsity = refl
  shifted_back (signal s) = signal_back s (is_shifted shift inputs s) refl
  shifted_back (negation a) = ap negation (shifted_back a)
  shifted_back (next_time a) = next_kept (shifted_form shift inputs a) a (not_bare_shifted a) (shifted_back a)
  shifted_back (finally a) = ap finally (shifted_back a)
  shifted_back (globally a) = ap globally (shifted_back a)
  shifted_back (conjunction a b) = λ i. conjunction (shifted_back a i) (shifted_back b i)
  shifted_back (disjunction a b) = λ i. disjunction (shifted_back a i) (shifted_back b i)
  shifted_back (implication a b) = λ i. implication (shifted_back a i) (shifted_back b i)
  shifted_back (equivalence a b) = λ i. equivalence (shifted_back a i) (shifted_back b i)
  shifted_back (until a b) = λ i. until (shifted_back a i) (shifted_back b i)
  shifted_back (release a b) = λ i. release (shifted_back a i) (shifted_back b i)
  shifted_back (weak_until a b) = λ i. weak_until (shifted_back a i) (shifted_back b i)

  -- ---- X before literals

  not_moving_negation : (a : Tree) (b : Bool) → is_moving shift inputs (cond b (next_time (negation a)) (negation (moved shift inputs a))) ≡ false
  not_moving_negation a true = refl
  not_moving_negation a false = refl

  not_moving_moved : (a : Tree) → is_moving shift inputs (moved shift inputs a) ≡ false
  not_moving_moved (signal s) = shifted_signal (is_moving shift inputs) s refl (λ e. e)
  not_moving_moved (negation a) = not_moving_negation a (is_moving shift inputs a)
  not_moving_moved _ = refl

  not_bare_negation : (a : Tree) (b : Bool) → is_bare shift inputs (cond b (next_time (negation a)) (negation (moved shift inputs a))) ≡ false
  not_bare_negation a true = refl
  not_bare_negation a false = not_moving_moved a

  not_bare_moved : (a : Tree) → is_bare shift inputs (moved shift inputs a) ≡ false
  not_bare_moved (signal s) = shifted_signal (is_bare shift inputs) s refl (λ e. e)
  not_bare_moved (negation a) = not_bare_negation a (is_moving shift inputs a)
  not_bare_moved _ = refl

  negation_back : (a : Tree) → unmoved shift inputs (moved shift inputs a) ≡ a → (b : Bool) → is_moving shift inputs a ≡ b
      → unmoved shift inputs (cond b (next_time (negation a)) (negation (moved shift inputs a))) ≡ negation a
  negation_back a same true e = next_lost (negation a) e
  negation_back a same false e = ap negation same

  pub moved_back : (a : Tree) → unmoved shift inputs (moved shift inputs a) ≡ a
  moved_back truth = refl
  moved_back falsity = refl
  moved_back (signal s) = signal_back s (is_shifted shift inputs s) refl
  moved_back (negation a) = negation_back a (moved_back a) (is_moving shift inputs a) refl
  moved_back (next_time a) = next_kept (moved shift inputs a) a (not_bare_moved a) (moved_back a)
  moved_back (finally a) = ap finally (moved_back a)
  moved_back (globally a) = ap globally (moved_back a)
  moved_back (conjunction a b) = λ i. conjunction (moved_back a i) (moved_back b i)
  moved_back (disjunction a b) = λ i. disjunction (moved_back a i) (moved_back b i)
  moved_back (implication a b) = λ i. implication (moved_back a i) (moved_back b i)
  moved_back (equivalence a b) = λ i. equivalence (moved_back a i) (moved_back b i)
  moved_back (until a b) = λ i. until (moved_back a i) (moved_back b i)
  moved_back (release a b) = λ i. release (moved_back a i) (moved_back b i)
  moved_back (weak_until a b) = λ i. weak_until (moved_back a i) (moved_back b i)

  -- ---- what simplifying sees stays

  no_constant : (b : Bool) (x y : Tree) → constant_tree x ≡ None → constant_tree y ≡ None → constant_tree (cond b x y) ≡ None
  no_constant true x y first second = first
  no_constant false x y first second = second

  pub constant_moved : (a : Tree) → constant_tree (moved shift inputs a) ≡ constant_tree a
  constant_moved (signal s) = no_constant (is_shifted shift inputs s) _ _ refl refl
  constant_moved (negation a) = no_constant (is_moving shift inputs a) _ _ refl refl
  constant_moved _ = refl

  same_unmoved : (a b : Tree) → moved shift inputs a ≡ moved shift inputs b → a ≡ b
  same_unmoved a b same = sym (moved_back a) ∙ ap (unmoved shift inputs) same ∙ moved_back b

  pub moved_same : (a b : Tree) → tree_eq (moved shift inputs a) (moved shift inputs b) ≡ tree_eq a b
  moved_same a b =
      elim (cases_Bool (tree_eq a b)) [
        | inl is ↦
            ap (λ x. tree_eq (moved shift inputs a) (moved shift inputs x)) (sym (tree_eq-true a b is)) ∙ tree_eq-self (moved shift inputs a) ∙ sym is
        | inr isnt ↦
            false_from_ne_true (tree_eq (moved shift inputs a) (moved shift inputs b)) (λ same.
            true≢false (sym (tree_eq-self a) ∙ ap (tree_eq a) (same_unmoved a b (tree_eq-true (moved shift inputs a) (moved shift inputs b) same)) ∙ isnt)) ∙ sym isnt
      ]
