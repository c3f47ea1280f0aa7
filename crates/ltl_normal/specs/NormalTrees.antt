use Rattle.std.specs.Prelude.{Bool, true, false, ◌&&◌, ◌==◌, Option, Some, None, if◌then◌else◌}
use Rattle.ltl_formula.specs.Tree.{Tree}
use Rattle.ltl_formula.specs.Tree.Tree.{truth, falsity, signal, negation, next_time, finally, globally, conjunction, disjunction, implication, equivalence, until, release, weak_until}
use Rattle.ltl_normal.specs.declared.simplify.Joint.{Joint}
use Rattle.ltl_normal.specs.declared.simplify.Joint.TheVariants.{And, Or, Until, Release}
use Rattle.ltl_normal.specs.declared.simplify.Outcome.{Outcome}
use Rattle.ltl_normal.specs.declared.simplify.Outcome.TheVariants.{First, Second, Whole}
use Rattle.ltl_normal.specs.Simplify.{outcome_of}
use Rattle.ltl_normal.specs.Table.{Target, table}

-- whether two formulas are one
abbrev pub tree_eq : Tree → Tree → Bool
tree_eq truth truth = true
tree_eq falsity falsity = true
tree_eq (signal s) (signal t) = s == t
tree_eq (negation a) (negation b) = tree_eq a b
tree_eq (next_time a) (next_time b) = tree_eq a b
tree_eq (finally a) (finally b) = tree_eq a b
tree_eq (globally a) (globally b) = tree_eq a b
tree_eq (conjunction a b) (conjunction c d) = tree_eq a c && tree_eq b d
tree_eq (disjunction a b) (disjunction c d) = tree_eq a c && tree_eq b d
tree_eq (implication a b) (implication c d) = tree_eq a c && tree_eq b d
tree_eq (equivalence a b) (equivalence c d) = tree_eq a c && tree_eq b d
tree_eq (until a b) (until c d) = tree_eq a c && tree_eq b d
tree_eq (release a b) (release c d) = tree_eq a c && tree_eq b d
tree_eq (weak_until a b) (weak_until c d) = tree_eq a c && tree_eq b d
tree_eq _ _ = false

-- the truth value that a formula is, if it is one
abbrev pub constant_tree : Tree → Option Bool
constant_tree truth = Some true
constant_tree falsity = Some false
constant_tree _ = None

-- an operator and its parts
abbrev pub whole_tree : Joint → Tree → Tree → Tree
whole_tree And a b = conjunction a b
whole_tree Or a b = disjunction a b
whole_tree Until a b = until a b
whole_tree Release a b = release a b

-- one of the parts, or the whole
abbrev pub chosen : {X : Type 0} → Outcome → X → X → X → X
chosen First a b whole = a
chosen Second a b whole = b
chosen Whole a b whole = whole

-- an operator and its parts, simplified
abbrev pub joint_tree : Joint → Tree → Tree → Tree
joint_tree joint a b = chosen (outcome_of joint (constant_tree a) (constant_tree b) (tree_eq a b)) a b (whole_tree joint a b)

-- Next of a constant is the constant
abbrev pub next_of : Option Bool → Tree → Tree
next_of (Some value) a = a
next_of None a = next_time a

abbrev pub trees : Target Tree
trees = record {
  constant = λ value. if value then truth else falsity;
  literal = λ keep s. if keep then signal s else negation (signal s);
  next = λ a. next_of (constant_tree a) a;
  join = joint_tree;
}

-- the normal form of a formula, and that of its opposite
abbrev pub normal_of : Tree → Tree
normal_of f = table trees true f

abbrev pub negated_of : Tree → Tree
negated_of f = table trees false f
