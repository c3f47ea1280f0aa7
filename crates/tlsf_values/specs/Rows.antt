-- Worked rows: expressions with their values or their first faults, written out by hand.
use Rattle.std.specs.Prelude.{◌≡◌, ℕ, ◌+◌, Bool, true, false, List, [], ◌∷◌, Option, None, Some, pos, negsuc, ◌^◌, ◌-◌, codes}
use Rattle.text_limits.specs.declared.TheConstants.{SMALL_LIMITS}
use Rattle.ltl_formula.specs.declared.nodes.Node.{Node}
use Rattle.ltl_formula.specs.declared.nodes.Node.TheVariants as node
use Rattle.ltl_formula.specs.declared.nodes.FormulaId.{FormulaId}
use Rattle.spec_faults.specs.declared.code.SpecCode.TheVariants as code
use Rattle.tlsf_syntax.specs.declared.expr.Op.TheVariants as op
use Rattle.tlsf_syntax.specs.declared.expr.Span.{Span}
use Rattle.tlsf_syntax.specs.Tree.{Tree, Ranges, Named, number, truth, named, call, index, steps, chain, pair, prefix, count, window, big, no_trees, tree, no_links, link, no_ranges, between, Definition, function, enumeration, Pattern, plain, guarded}
use Rattle.tlsf_values.specs.declared.work.Work.{Work}
use Rattle.tlsf_values.specs.declared.value.Value.{Value}
use Rattle.tlsf_values.specs.declared.value.Value.TheVariants.{Number, Truth, Set, Flat}
use Rattle.tlsf_values.specs.Outcomes.{Outcome, gives, fails}
use Rattle.tlsf_values.specs.Names.{Names, with_definitions, with_signal, with_bus, without_names}
use Rattle.tlsf_values.specs.Values.{value_at}

abbrev pub from : ℕ → Span
from k = record { start = k; end = k + 1 }

abbrev pub word : List ℕ → ℕ → Named
word text k = record { name = text; span = from k }

abbrev pub num : ℕ → ℕ → Tree
num k n = number (from k) (Some (pos n))

abbrev pub id : ℕ → FormulaId
id n = record { 0 = n }

abbrev pub ended : ℕ → List Node → Work
ended done nodes = record { limits = SMALL_LIMITS; done = done; formulas = nodes }

-- the value of an expression that stands alone
abbrev pub alone : Names → Tree → Outcome Value
alone names t = value_at names [] t 0 (ended 0 [])

-- a single signal `r`, a bus `b` of two bits and a bus `t` of the enumeration's width
abbrev pub some_names : List Definition → Names
some_names definitions = with_bus (with_bus (with_signal (with_definitions without_names definitions) (codes "r") 0) (codes "b") 1 2) (codes "t") 3 2

abbrev pub pattern : List (Option Bool) → Pattern
pattern bits = record { bits = bits; span = from 0 }

-- `enum T = A: 00, 01 B: 1*`
abbrev pub two_members : Definition
two_members = enumeration (word (codes "T") 0)
    (record { word = word (codes "A") 1; values = pattern (Some false ∷ Some false ∷ []) ∷ pattern (Some false ∷ Some true ∷ []) ∷ [] }
    ∷ record { word = word (codes "B") 2; values = pattern (Some true ∷ None ∷ []) ∷ [] } ∷ [])

-- `t == A`
abbrev pub is_a : Tree
is_a = pair (from 10) op.Equal (named (from 10) (codes "t")) (named (from 15) (codes "A"))

-- `((!t[0] && !t[1]) || (!t[0] && t[1]))`
abbrev pub nodes_of_a : List Node
nodes_of_a = node.Signal 3 ∷ node.Not (id 0) ∷ node.Signal 4 ∷ node.Not (id 2) ∷ node.And (id 1) (id 3) ∷ node.And (id 1) (id 2) ∷ node.Or (id 4) (id 5) ∷ []

-- `f(i) = i > 0 : true;`
abbrev pub positive_only : Definition
positive_only = function (word (codes "f") 0) (word (codes "i") 2 ∷ [])
    (guarded (record { guard = Some (pair (from 7) op.Greater (named (from 7) (codes "i")) (num 11 0)); value = truth (from 15) true } ∷ []))

-- `f(i) = f(i + 1);`
abbrev pub without_end : Definition
without_end = function (word (codes "f") 0) (word (codes "i") 2 ∷ [])
    (plain (call (from 7) (word (codes "f") 7) (tree (chain (from 9) (named (from 9) (codes "i")) (link op.Plus (num 13 1) no_links)) no_trees)))

-- `f(n)` at byte 158
abbrev pub f_of : ℕ → Tree
f_of n = call (from 158) (word (codes "f") 158) (tree (num 160 n) no_trees)

-- `0 <= i < n`
abbrev pub below : ℕ → Ranges
below n = between (num 3 0) false (word (codes "i") 8) true (num 12 n) no_ranges

-- each row with its value, the evaluations done and the nodes made, or with its fault
pub record RowsEvaluate : Type 0 where
  pub unknown_name : alone (some_names []) (named (from 113) (codes "x")) ≡ fails code.UnknownName 113
  pub index_out : alone (some_names []) (index (from 116) (word (codes "b") 116) (num 118 2)) ≡ fails code.IndexOut 118
  pub last_bit : alone (some_names []) (index (from 116) (word (codes "b") 116) (num 118 1)) ≡ gives (Flat (id 0)) (ended 2 (node.Signal 2 ∷ []))
  pub signal_is_never_a_bus : (nodes : List Node) → value_at (some_names []) [] (index (from 116) (word (codes "r") 116) (num 118 0)) 0 (ended 0 nodes) ≡ fails code.WrongSort 116
  pub index_before_sorts : alone (some_names []) (index (from 116) (word (codes "r") 116) (named (from 118) (codes "x"))) ≡ fails code.UnknownName 118
  pub zero_divisor : alone (some_names []) (chain (from 86) (num 86 1) (link op.Div (num 90 0) no_links)) ≡ fails code.ZeroDivisor 90
  pub rounds_to_zero : alone (some_names []) (chain (from 1) (number (from 1) (Some (negsuc 6))) (link op.Div (num 5 2) no_links)) ≡ gives (Number (negsuc 2)) (ended 3 [])
  pub sign_of_dividend : alone (some_names []) (chain (from 1) (number (from 1) (Some (negsuc 6))) (link op.Rem (num 5 2) no_links)) ≡ gives (Number (negsuc 0)) (ended 3 [])
  pub least_divided : alone (some_names []) (chain (from 1) (number (from 1) (Some (negsuc (2 ^ 63 - 1)))) (link op.Div (number (from 5) (Some (negsuc 0))) no_links)) ≡ fails code.NumberRange 1
  pub too_large : alone (some_names []) (number (from 84) None) ≡ fails code.NumberRange 84
  pub number_is_no_formula : alone (some_names []) (prefix (from 1) op.Next (num 3 1)) ≡ fails code.WrongSort 3
  pub no_guard : alone (some_names (positive_only ∷ [])) (f_of 0) ≡ fails code.NoGuard 158
  pub a_guard : alone (some_names (positive_only ∷ [])) (f_of 1) ≡ gives (Truth true) (ended 6 [])
  pub too_deep : alone (some_names (without_end ∷ [])) (f_of 0) ≡ fails code.TooDeep 9
  pub two_values : alone (some_names (two_members ∷ [])) is_a ≡ gives (Flat (id 6)) (ended 3 nodes_of_a)
  pub no_member : alone (some_names []) (big (from 1) op.And (below 0) (num 20 7)) ≡ gives (Truth true) (ended 3 [])
  pub bits_joined : alone (some_names []) (big (from 1) op.And (below 2) (index (from 16) (word (codes "b") 16) (named (from 18) (codes "i")))) ≡ gives (Flat (id 2)) (ended 7 (node.Signal 1 ∷ node.Signal 2 ∷ node.And (id 0) (id 1) ∷ []))
  pub huge_set : alone (some_names []) (steps (from 10) (num 11 0) (num 14 1) (num 19 (2 ^ 63 - 1))) ≡ fails code.ExpandTooLong 10
  pub falling_steps : alone (some_names []) (steps (from 10) (num 11 5) (num 14 3) (num 19 0)) ≡ gives (Set (pos 1 ∷ pos 3 ∷ pos 5 ∷ [])) (ended 7 [])
  pub nothing_next : alone (some_names []) (count (from 1) (num 3 0) (truth (from 6) true)) ≡ gives (Flat (id 0)) (ended 3 (node.True ∷ []))
  pub window_of_two : alone (some_names []) (window (from 1) op.Finally (num 3 1) (num 5 2) (named (from 8) (codes "r"))) ≡ gives (Flat (id 3)) (ended 7 (node.Signal 0 ∷ node.Next (id 0) ∷ node.Next (id 1) ∷ node.Or (id 1) (id 2) ∷ []))
  pub empty_window : alone (some_names []) (window (from 1) op.Globally (num 3 2) (num 5 1) (truth (from 8) false)) ≡ gives (Flat (id 0)) (ended 4 (node.True ∷ []))
