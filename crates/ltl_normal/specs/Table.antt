use Rattle.std.specs.Prelude.{ℕ, Bool, true, false, not}
use Rattle.ltl_formula.specs.Tree.{Tree}
use Rattle.ltl_formula.specs.Tree.Tree.{truth, falsity, signal, negation, next_time, finally, globally, conjunction, disjunction, implication, equivalence, until, release, weak_until}
use Rattle.ltl_normal.specs.declared.simplify.Joint.{Joint}
use Rattle.ltl_normal.specs.declared.simplify.Joint.TheVariants.{And, Or, Until, Release}
use Rattle.ltl_normal.specs.Simplify.{facing_of}

-- what normal forms are built of: constants, literals (a signal, or for `false` its opposite), Next, and two parts joined
pub record Target (X : Type 0) : Type 0 where
  pub constant : Bool → X
  pub literal : Bool → ℕ → X
  pub next : X → X
  pub join : Joint → X → X → X

-- the table of normal forms (`true`) and negated forms (`false`), its parts from left to right (linear temporal logic)
abbrev pub table : {X : Type 0} → Target X → Bool → Tree → X
table to keep truth = to.constant keep
table to keep falsity = to.constant (not keep)
table to keep (signal s) = to.literal keep s
table to keep (negation a) = table to (not keep) a
table to keep (next_time a) = to.next (table to keep a)
table to keep (finally a) = to.join (facing_of keep Until) (to.constant keep) (table to keep a)
table to keep (globally a) = to.join (facing_of keep Release) (to.constant (not keep)) (table to keep a)
table to keep (conjunction a b) = to.join (facing_of keep And) (table to keep a) (table to keep b)
table to keep (disjunction a b) = to.join (facing_of keep Or) (table to keep a) (table to keep b)
table to keep (implication a b) = to.join (facing_of keep Or) (table to (not keep) a) (table to keep b)
table to keep (equivalence a b) =
    to.join Or (to.join And (table to true a) (table to keep b)) (to.join And (table to false a) (table to (not keep) b))
table to keep (until a b) = to.join (facing_of keep Until) (table to keep a) (table to keep b)
table to keep (release a b) = to.join (facing_of keep Release) (table to keep a) (table to keep b)
table to keep (weak_until a b) =
    to.join (facing_of keep Release) (table to keep b) (to.join (facing_of keep Or) (table to keep a) (table to keep b))
