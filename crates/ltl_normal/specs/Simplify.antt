use Rattle.std.specs.Prelude.{Bool, true, false, Option, Some, None, if◌then◌else◌}
use Rattle.std.specs.Bool.{beq}
use Rattle.ltl_formula.specs.declared.nodes.Node.{Node}
use Rattle.ltl_formula.specs.declared.nodes.Node.TheVariants.{True, False}
use Rattle.ltl_normal.specs.declared.simplify.Joint.{Joint}
use Rattle.ltl_normal.specs.declared.simplify.Joint.TheVariants.{And, Or, Until, Release}
use Rattle.ltl_normal.specs.declared.simplify.Outcome.{Outcome}
use Rattle.ltl_normal.specs.declared.simplify.Outcome.TheVariants.{First, Second, Whole}

-- the operator of the normal form, or of the negated form: the opposite one (linear temporal logic)
abbrev pub facing_of : Bool → Joint → Joint
facing_of true joint = joint
facing_of false And = Or
facing_of false Or = And
facing_of false Until = Release
facing_of false Release = Until

-- the truth value that a node is, if it is one
abbrev pub constant_of : Node → Option Bool
constant_of True = Some true
constant_of False = Some false
constant_of _ = None

-- And has the neutral part true, Or the neutral part false: beside a neutral part the other one is left, beside the
-- opposite of it that opposite, and of one formula twice the formula
abbrev pub junction_of : Bool → Option Bool → Option Bool → Bool → Outcome
junction_of neutral (Some value) second same = if beq value neutral then Second else First
junction_of neutral None (Some value) same = if beq value neutral then First else Second
junction_of neutral None None same = if same then First else Whole

-- what is left of an operator where its parts are these constants, or none, and are one formula or not: `a U c` and
-- `a R c` are the constant c (this project's own choice of simplifications)
abbrev pub outcome_of : Joint → Option Bool → Option Bool → Bool → Outcome
outcome_of And first second same = junction_of true first second same
outcome_of Or first second same = junction_of false first second same
outcome_of Until first (Some value) same = Second
outcome_of Until first None same = Whole
outcome_of Release first (Some value) same = Second
outcome_of Release first None same = Whole
