-- What comes of an evaluation, and how evaluations follow each other: this project's profile of TLSF 1.1.
use Rattle.std.specs.Prelude.{ℕ, ◌+◌, ◌-◌, Bool, true, false, ◌&&◌, nat_le, nat_lt, List, length, Option, Some, None}
use Rattle.ltl_formula.specs.declared.nodes.FormulaId.{FormulaId}
use Rattle.ltl_formula.specs.declared.nodes.Node.{Node}
use Rattle.ltl_formula.specs.declared.nodes.Node.TheVariants as node
use Rattle.ltl_formula.specs.declared.nodes.TheConstants.{MAX_SIGNALS}
use Rattle.ltl_formula.specs.Added.{Built, added}
use Rattle.spec_faults.specs.declared.code.SpecCode.{SpecCode}
use Rattle.spec_faults.specs.declared.code.SpecCode.TheVariants.{WrongSort, TooManyNodes, ExpandTooLong}
use Rattle.tlsf_values.specs.declared.work.TheConstants.{MOST_EVALUATIONS}
use Rattle.tlsf_values.specs.declared.work.Work.{Work}

-- a value with the work after it, or the first fault with its byte
pub data Outcome (A : Type 0) : Type 0 where
  gives : A → Work → Outcome A
  fails : SpecCode → ℕ → Outcome A

abbrev pub go_on : {A B : Type 0} → Outcome A → (A → Work → Outcome B) → Outcome B
go_on (gives a w) f = f a w
go_on (fails code place) f = fails code place

-- what needs no work: a value, or a fault with its byte
pub data Checked (A : Type 0) : Type 0 where
  fine : A → Checked A
  faulty : SpecCode → ℕ → Checked A

abbrev pub and_then : {A B : Type 0} → Checked A → (A → Checked B) → Checked B
and_then (fine a) f = f a
and_then (faulty code place) f = faulty code place

abbrev pub checked : {A B : Type 0} → Checked A → (A → Work → Outcome B) → Work → Outcome B
checked (fine a) f w = f a w
checked (faulty code place) f w = fails code place

abbrev pub choose : {B : Type 0} → Bool → (Work → Outcome B) → (Work → Outcome B) → Work → Outcome B
choose true f g w = f w
choose false f g w = g w

-- so many evaluations are counted for the node at this byte, where the limit allows them
abbrev pub counted : ℕ → ℕ → Work → Outcome (Unit {0})
counted place n w =
    choose (nat_le n (MOST_EVALUATIONS - w.done)) (λ w. gives tt (record w { done = w.done + n })) (λ w. fails ExpandTooLong place) w

-- a node may stand in a list: its parts do, and its signal is below 32
abbrev pub stands : List Node → FormulaId → Bool
stands nodes id = nat_lt id.0 (length nodes)

abbrev pub may_stand : List Node → Node → Bool
may_stand nodes node.True = true
may_stand nodes node.False = true
may_stand nodes (node.Signal s) = nat_lt s MAX_SIGNALS
may_stand nodes (node.Not a) = stands nodes a
may_stand nodes (node.Next a) = stands nodes a
may_stand nodes (node.Finally a) = stands nodes a
may_stand nodes (node.Globally a) = stands nodes a
may_stand nodes (node.And a b) = stands nodes a && stands nodes b
may_stand nodes (node.Or a b) = stands nodes a && stands nodes b
may_stand nodes (node.Implies a b) = stands nodes a && stands nodes b
may_stand nodes (node.Equiv a b) = stands nodes a && stands nodes b
may_stand nodes (node.Until a b) = stands nodes a && stands nodes b
may_stand nodes (node.Release a b) = stands nodes a && stands nodes b
may_stand nodes (node.WeakUntil a b) = stands nodes a && stands nodes b

abbrev pub made_from : ℕ → Work → Built → Option FormulaId → Outcome FormulaId
made_from place w built (Some id) = gives id (record w { formulas = built.nodes })
made_from place w built None = fails TooManyNodes place

-- A node joins the list, unless an equal one stands there, or as many nodes stand as the limits of the work allow. What is no formula of the list, as a value that
-- came with it may be, has no sort.
abbrev pub made : ℕ → Node → Work → Outcome FormulaId
made place node w =
    choose (may_stand w.formulas node) (λ w. made_from place w (added w.limits.nodes w.formulas node) (added w.limits.nodes w.formulas node).made) (λ w. fails WrongSort place) w
