-- Normal forms before they are simplified: what the table of normal forms makes, as a tree of its own. Whatever the table builds is
-- built of it.
use Rattle.std.proofs.Common.{◌≡◌, ℕ, ◌<◌, Bool, true, false, cond, Option, None, Some, refl, ap, ◌∙◌}
use Rattle.std.specs.Prelude.{not}
use Rattle.ltl_formula.specs.Tree.{Tree, SignalsBelow}
use Rattle.ltl_formula.specs.Tree.Tree.{truth, falsity, signal, negation, next_time, finally, globally, conjunction, disjunction, implication, equivalence, until, release, weak_until}
use Rattle.kind_conversion.specs.declared.shifts.Shift.{Shift}
use Rattle.kind_conversion.specs.Shifts.{is_shifted}
use Rattle.kind_conversion.specs.ShiftedForm.{shifted_form}
use Rattle.ltl_normal.specs.declared.simplify.Joint.{Joint}
use Rattle.ltl_normal.specs.declared.simplify.Joint.TheVariants.{And, Or, Until, Release}
use Rattle.ltl_normal.specs.declared.simplify.Outcome.{Outcome}
use Rattle.ltl_normal.specs.declared.simplify.Outcome.TheVariants.{First, Second, Whole}
use Rattle.ltl_normal.specs.Simplify.{facing_of, outcome_of}
use Rattle.ltl_normal.specs.Table.{Target, table}
use Rattle.ltl_normal.specs.NormalTrees.{chosen, constant_tree, joint_tree, next_of, tree_eq, trees, whole_tree}
use Rattle.taken_laws.proofs.Unshifted.{constant_moved, moved, moved_same}

pub data Form : Type 0 where
  of_constant : Bool → Form
  of_literal : Bool → ℕ → Form
  of_next : Form → Form
  of_join : Joint → Form → Form → Form

abbrev pub forms : Target Form
forms = record { constant = of_constant; literal = of_literal; next = of_next; join = of_join }

-- what is built of a form
abbrev pub fold : {X : Type 0} → Target X → Form → X
fold to (of_constant value) = to.constant value
fold to (of_literal keep s) = to.literal keep s
fold to (of_next a) = to.next (fold to a)
fold to (of_join joint a b) = to.join joint (fold to a) (fold to b)

pub table_is_fold : {X : Type 0} (to : Target X) (keep : Bool) (f : Tree) → table to keep f ≡ fold to (table forms keep f)
table_is_fold to keep truth = refl
table_is_fold to keep falsity = refl
table_is_fold to keep (signal s) = refl
table_is_fold to keep (negation a) = table_is_fold to (not keep) a
table_is_fold to keep (next_time a) = ap to.next (table_is_fold to keep a)
table_is_fold to keep (finally a) = ap (to.join (facing_of keep Until) (to.constant keep)) (table_is_fold to keep a)
table_is_fold to keep (globally a) = ap (to.join (facing_of keep Release) (to.constant (not keep))) (table_is_fold to keep a)
table_is_fold to keep (conjunction a b) = λ i. to.join (facing_of keep And) (table_is_fold to keep a i) (table_is_fold to keep b i)
table_is_fold to keep (disjunction a b) = λ i. to.join (facing_of keep Or) (table_is_fold to keep a i) (table_is_fold to keep b i)
table_is_fold to keep (implication a b) = λ i. to.join (facing_of keep Or) (table_is_fold to (not keep) a i) (table_is_fold to keep b i)
table_is_fold to keep (equivalence a b) = λ i.
    to.join Or (to.join And (table_is_fold to true a i) (table_is_fold to keep b i)) (to.join And (table_is_fold to false a i) (table_is_fold to (not keep) b i))
table_is_fold to keep (until a b) = λ i. to.join (facing_of keep Until) (table_is_fold to keep a i) (table_is_fold to keep b i)
table_is_fold to keep (release a b) = λ i. to.join (facing_of keep Release) (table_is_fold to keep a i) (table_is_fold to keep b i)
table_is_fold to keep (weak_until a b) = λ i.
    to.join (facing_of keep Release) (table_is_fold to keep b i) (to.join (facing_of keep Or) (table_is_fold to keep a i) (table_is_fold to keep b i))

-- the formula that a form is, simplified
abbrev pub tree : Form → Tree
tree f = fold trees f

-- ---- a form as a formula of which the table makes it

abbrev pub written : Form → Tree
written (of_constant value) = cond value truth falsity
written (of_literal keep s) = cond keep (signal s) (negation (signal s))
written (of_next a) = next_time (written a)
written (of_join joint a b) = whole_tree joint (written a) (written b)

pub fold_is_table : {X : Type 0} (to : Target X) (f : Form) → table to true (written f) ≡ fold to f
fold_is_table to (of_constant true) = refl
fold_is_table to (of_constant false) = refl
fold_is_table to (of_literal true s) = refl
fold_is_table to (of_literal false s) = refl
fold_is_table to (of_next a) = ap to.next (fold_is_table to a)
fold_is_table to (of_join And a b) = λ i. to.join And (fold_is_table to a i) (fold_is_table to b i)
fold_is_table to (of_join Or a b) = λ i. to.join Or (fold_is_table to a i) (fold_is_table to b i)
fold_is_table to (of_join Until a b) = λ i. to.join Until (fold_is_table to a i) (fold_is_table to b i)
fold_is_table to (of_join Release a b) = λ i. to.join Release (fold_is_table to a i) (fold_is_table to b i)

-- ---- its signals

abbrev pub HasSignalsBelow : ℕ → Form → Type 0
HasSignalsBelow n (of_constant value) = Unit {0}
HasSignalsBelow n (of_literal keep s) = s < n
HasSignalsBelow n (of_next a) = HasSignalsBelow n a
HasSignalsBelow n (of_join joint a b) = HasSignalsBelow n a × HasSignalsBelow n b

pub below_written : (n : ℕ) (f : Form) → HasSignalsBelow n f → SignalsBelow n (written f)
below_written n (of_constant true) h = tt
below_written n (of_constant false) h = tt
below_written n (of_literal true s) h = h
below_written n (of_literal false s) h = h
below_written n (of_next a) h = below_written n a h
below_written n (of_join And a b) h = (below_written n a h.0, below_written n b h.1)
below_written n (of_join Or a b) h = (below_written n a h.0, below_written n b h.1)
below_written n (of_join Until a b) h = (below_written n a h.0, below_written n b h.1)
below_written n (of_join Release a b) h = (below_written n a h.0, below_written n b h.1)

pub below_table : (n : ℕ) (keep : Bool) (f : Tree) → SignalsBelow n f → HasSignalsBelow n (table forms keep f)
below_table n keep truth h = tt
below_table n keep falsity h = tt
below_table n keep (signal s) h = h
below_table n keep (negation a) h = below_table n (not keep) a h
below_table n keep (next_time a) h = below_table n keep a h
below_table n keep (finally a) h = (tt, below_table n keep a h)
below_table n keep (globally a) h = (tt, below_table n keep a h)
below_table n keep (conjunction a b) h = (below_table n keep a h.0, below_table n keep b h.1)
below_table n keep (disjunction a b) h = (below_table n keep a h.0, below_table n keep b h.1)
below_table n keep (implication a b) h = (below_table n (not keep) a h.0, below_table n keep b h.1)
below_table n keep (equivalence a b) h =
    ((below_table n true a h.0, below_table n keep b h.1), (below_table n false a h.0, below_table n (not keep) b h.1))
below_table n keep (until a b) h = (below_table n keep a h.0, below_table n keep b h.1)
below_table n keep (release a b) h = (below_table n keep a h.0, below_table n keep b h.1)
below_table n keep (weak_until a b) h = (below_table n keep b h.1, (below_table n keep a h.0, below_table n keep b h.1))

-- ---- what the table makes of a shifted formula

abbrev pub moved_form : Shift → ℕ → Form → Form
moved_form shift inputs (of_constant value) = of_constant value
moved_form shift inputs (of_literal keep s) = cond (is_shifted shift inputs s) (of_next (of_literal keep s)) (of_literal keep s)
moved_form shift inputs (of_next a) = of_next (moved_form shift inputs a)
moved_form shift inputs (of_join joint a b) = of_join joint (moved_form shift inputs a) (moved_form shift inputs b)

module _ (shift : Shift) (inputs : ℕ) where
  literal_shifted : (keep : Bool) (s : ℕ) (b : Bool) → table forms keep (cond b (next_time (signal s)) (signal s)) ≡ cond b (of_next (of_literal keep s)) (of_literal keep s)
  literal_shifted keep s true = refl
  literal_shifted keep s false = refl

  pub table_shifted : (keep : Bool) (f : Tree) → table forms keep (shifted_form shift inputs f) ≡ moved_form shift inputs (table forms keep f)
  table_shifted keep truth = refl
  table_shifted keep falsity = refl
  table_shifted keep (signal s) = literal_shifted keep s (is_shifted shift inputs s)
  table_shifted keep (negation a) = table_shifted (not keep) a
  table_shifted keep (next_time a) = ap of_next (table_shifted keep a)
  table_shifted keep (finally a) = ap (of_join (facing_of keep Until) (of_constant keep)) (table_shifted keep a)
  table_shifted keep (globally a) = ap (of_join (facing_of keep Release) (of_constant (not keep))) (table_shifted keep a)
  table_shifted keep (conjunction a b) = λ i. of_join (facing_of keep And) (table_shifted keep a i) (table_shifted keep b i)
  table_shifted keep (disjunction a b) = λ i. of_join (facing_of keep Or) (table_shifted keep a i) (table_shifted keep b i)
  table_shifted keep (implication a b) = λ i. of_join (facing_of keep Or) (table_shifted (not keep) a i) (table_shifted keep b i)
  table_shifted keep (equivalence a b) = λ i.
      of_join Or (of_join And (table_shifted true a i) (table_shifted keep b i)) (of_join And (table_shifted false a i) (table_shifted (not keep) b i))
  table_shifted keep (until a b) = λ i. of_join (facing_of keep Until) (table_shifted keep a i) (table_shifted keep b i)
  table_shifted keep (release a b) = λ i. of_join (facing_of keep Release) (table_shifted keep a i) (table_shifted keep b i)
  table_shifted keep (weak_until a b) = λ i.
      of_join (facing_of keep Release) (table_shifted keep b i) (of_join (facing_of keep Or) (table_shifted keep a i) (table_shifted keep b i))

  literal_below : (n : ℕ) (keep : Bool) (s : ℕ) (b : Bool) → s < n → HasSignalsBelow n (cond b (of_next (of_literal keep s)) (of_literal keep s))
  literal_below n keep s true h = h
  literal_below n keep s false h = h

  pub moved_below : (n : ℕ) (f : Form) → HasSignalsBelow n f → HasSignalsBelow n (moved_form shift inputs f)
  moved_below n (of_constant value) h = tt
  moved_below n (of_literal keep s) h = literal_below n keep s (is_shifted shift inputs s) h
  moved_below n (of_next a) h = moved_below n a h
  moved_below n (of_join joint a b) h = (moved_below n a h.0, moved_below n b h.1)

  -- ---- and which formula that is

  signal_moved : (s : ℕ) (b : Bool) → tree (cond b (of_next (of_literal true s)) (of_literal true s)) ≡ cond b (next_time (signal s)) (signal s)
  signal_moved s true = refl
  signal_moved s false = refl

  opposite_moved : (s : ℕ) (b : Bool) → tree (cond b (of_next (of_literal false s)) (of_literal false s))
      ≡ cond b (next_time (negation (signal s))) (negation (cond b (next_time (signal s)) (signal s)))
  opposite_moved s true = refl
  opposite_moved s false = refl

  next_moved : (o : Option Bool) (a : Tree) → next_of o (moved shift inputs a) ≡ moved shift inputs (next_of o a)
  next_moved None a = refl
  next_moved (Some value) a = refl

  whole_moved : (joint : Joint) (a b : Tree) → whole_tree joint (moved shift inputs a) (moved shift inputs b) ≡ moved shift inputs (whole_tree joint a b)
  whole_moved And a b = refl
  whole_moved Or a b = refl
  whole_moved Until a b = refl
  whole_moved Release a b = refl

  chosen_moved : (o : Outcome) (joint : Joint) (a b : Tree)
      → chosen o (moved shift inputs a) (moved shift inputs b) (whole_tree joint (moved shift inputs a) (moved shift inputs b)) ≡ moved shift inputs (chosen o a b (whole_tree joint a b))
  chosen_moved First joint a b = refl
  chosen_moved Second joint a b = refl
  chosen_moved Whole joint a b = whole_moved joint a b

  joint_moved : (joint : Joint) (a b : Tree) → joint_tree joint (moved shift inputs a) (moved shift inputs b) ≡ moved shift inputs (joint_tree joint a b)
  joint_moved joint a b =
      (λ i. chosen (outcome_of joint (constant_moved shift inputs a i) (constant_moved shift inputs b i) (moved_same shift inputs a b i))
      (moved shift inputs a) (moved shift inputs b) (whole_tree joint (moved shift inputs a) (moved shift inputs b)))
      ∙ chosen_moved (outcome_of joint (constant_tree a) (constant_tree b) (tree_eq a b)) joint a b

  pub moved_tree : (f : Form) → tree (moved_form shift inputs f) ≡ moved shift inputs (tree f)
  moved_tree (of_constant true) = refl
  moved_tree (of_constant false) = refl
  moved_tree (of_literal true s) = signal_moved s (is_shifted shift inputs s)
  moved_tree (of_literal false s) = opposite_moved s (is_shifted shift inputs s)
  moved_tree (of_next a) =
      ap (λ (t : Tree). next_of (constant_tree t) t) (moved_tree a) ∙ ap (λ o. next_of o (moved shift inputs (tree a))) (constant_moved shift inputs (tree a))
      ∙ next_moved (constant_tree (tree a)) (tree a)
  moved_tree (of_join joint a b) = (λ i. joint_tree joint (moved_tree a i) (moved_tree b i)) ∙ joint_moved joint (tree a) (tree b)
