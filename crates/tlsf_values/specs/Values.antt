-- The value of a written expression, or its first fault: this project's profile of TLSF 1.1. It is one recursion on the depth
-- that is left, so it is defined for every tree.
use Rattle.std.specs.Prelude.{ℕ, zero, suc, ◌+◌, ◌-◌, Bool, true, false, ◌&&◌, ◌==◌, List, [], ◌∷◌, ◌++◌, length, Option, None, Some, ℤ, pos, negsuc, ◌+ℤ◌, ◌-ℤ◌, int_lt, int_le, unsigned_abs}
use Rattle.std.specs.Ordering.{int_eq}
use Rattle.ltl_formula.specs.declared.nodes.Node.TheVariants as node
use Rattle.spec_faults.specs.declared.code.SpecCode.TheVariants.{UnknownName, WrongSort, IndexOut, NumberRange, NoGuard, TooDeep}
use Rattle.tlsf_syntax.specs.Tree.{Tree, Trees, Links, Ranges, Named, tree_span, number, truth, named, call, index, size_of, paren, set, steps, chain, pair, prefix, count, window, big, no_trees, tree, no_links, link, no_ranges, members, between, Body, plain, guarded, Alternative}
use Rattle.tlsf_values.specs.declared.work.TheConstants.{MOST_DEPTH}
use Rattle.tlsf_values.specs.declared.work.Work.{Work}
use Rattle.tlsf_values.specs.declared.value.Value.{Value}
use Rattle.tlsf_values.specs.declared.value.Value.TheVariants.{Number, Truth, Set, Flat}
use Rattle.tlsf_values.specs.declared.formula.Formula.{Formula}
use Rattle.tlsf_values.specs.declared.formula.Connective.{Connective}
use Rattle.tlsf_values.specs.Sets.{set_of}
use Rattle.tlsf_values.specs.Steps.{step_count, stepped, numbers_from}
use Rattle.tlsf_values.specs.Outcomes.{Outcome, gives, fails, go_on, choose, checked, counted, made, Checked, fine, faulty, and_then}
use Rattle.tlsf_values.specs.Names.{Names, Binding, BusRange, Meaning, known, a_signal, a_definition, an_enumeration, undeclared, look_up, bus_at}
use Rattle.tlsf_values.specs.Sorts.{number_in, truth_in, set_in, bus_in, formula_in}
use Rattle.tlsf_values.specs.Operators.{as_value, operated, prefixed}
use Rattle.tlsf_values.specs.Counts.{count_in, count_value, window_of, window_value, joining_of, joined_over}

-- what is evaluated at one depth
pub record Evaluator : Type 0 where
  -- an expression under these bound names
  pub value : List Binding → Tree → Work → Outcome Value
  -- the body of a definition with its arguments bound, for the node at this byte
  pub body : List Binding → ℕ → Body → Work → Outcome Value

abbrev pub span_start : Tree → ℕ
span_start t = (tree_span t).start

-- ---- names and calls

-- a name by itself, in the node at this byte
abbrev pub meaning_value : Evaluator → ℕ → Meaning → Work → Outcome Value
meaning_value r place (known v) w = gives v w
meaning_value r place (a_signal k) w = go_on (made place (node.Signal k) w) (λ id w. gives (Flat id) w)
meaning_value r place (a_definition [] body) w = r.body [] place body w
meaning_value r place (a_definition (word ∷ words) body) w = fails WrongSort place
meaning_value r place an_enumeration w = fails WrongSort place
meaning_value r place undeclared w = fails UnknownName place

abbrev pub tree_count : Trees → ℕ
tree_count no_trees = 0
tree_count (tree t ts) = suc (tree_count ts)

-- several expressions from left to right, after the values of those before
abbrev pub values_at : Evaluator → List Binding → List Value → Trees → Work → Outcome (List Value)
values_at r bound so_far no_trees w = gives so_far w
values_at r bound so_far (tree t ts) w = go_on (r.value bound t w) (λ v w. values_at r bound (so_far ++ v ∷ []) ts w)

abbrev pub bind : Named → Value → List Binding → List Binding
bind word v bound = record { name = word.name; value = v } ∷ bound

-- the arguments of a call from left to right, each bound to its word after those before
abbrev pub arguments_at : Evaluator → List Binding → List Binding → List Named → Trees → Work → Outcome (List Binding)
arguments_at r bound so_far (word ∷ words) (tree t ts) w = go_on (r.value bound t w) (λ v w. arguments_at r bound (bind word v so_far) words ts w)
arguments_at r bound so_far [] ts w = gives so_far w
arguments_at r bound so_far (word ∷ words) no_trees w = gives so_far w

-- A call in the node at the first byte, of the word at the second: its number of arguments is tested, they are evaluated, and
-- then the body with them bound, which sees no other bound name.
abbrev pub call_value : Evaluator → List Binding → ℕ → ℕ → Meaning → Trees → Work → Outcome Value
call_value r bound place at (a_definition words body) ts w =
    choose (tree_count ts == length words) (λ w. go_on (arguments_at r bound [] words ts w) (λ inner w. r.body inner place body w)) (λ w. fails WrongSort place) w
call_value r bound place at undeclared ts w = fails UnknownName at
call_value r bound place at (known v) ts w = fails WrongSort place
call_value r bound place at (a_signal k) ts w = fails WrongSort place
call_value r bound place at an_enumeration ts w = fails WrongSort place

-- a guard is a truth, and `otherwise` is true
abbrev pub guard_value : Evaluator → List Binding → Option Tree → Work → Outcome Bool
guard_value r bound None w = gives true w
guard_value r bound (Some t) w = go_on (r.value bound t w) (λ v w. checked (truth_in (span_start t) v) (λ b w. gives b w) w)

-- the expression of the first alternative whose guard is true
abbrev pub chosen_value : Evaluator → List Binding → ℕ → List Alternative → Work → Outcome Value
chosen_value r bound place [] w = fails NoGuard place
chosen_value r bound place (a ∷ as') w =
    go_on (guard_value r bound a.guard w) (λ b w. choose b (λ w. r.value bound a.value w) (λ w. chosen_value r bound place as' w) w)

abbrev pub body_value : Evaluator → List Binding → ℕ → Body → Work → Outcome Value
body_value r bound place (plain t) w = r.value bound t w
body_value r bound place (guarded alternatives) w = chosen_value r bound place alternatives w

-- ---- buses

abbrev pub bit_value : ℕ → ℕ → BusRange → ℤ → Work → Outcome Value
bit_value place at bus i w =
    choose (int_le (pos 0) i && int_lt i (pos bus.width)) (λ w. go_on (made place (node.Signal (bus.first + unsigned_abs i)) w) (λ id w. gives (Flat id) w)) (λ w. fails IndexOut at) w

-- a single signal, an enumeration and a function that wants arguments are no buses, whatever the index is
abbrev pub is_never_a_bus : Meaning → Bool
is_never_a_bus (a_signal k) = true
is_never_a_bus an_enumeration = true
is_never_a_bus (a_definition (word ∷ words) body) = true
is_never_a_bus _ = false

-- the bus that the word of an index stands for, or its wrong sort
abbrev pub word_value : Evaluator → ℕ → Meaning → Work → Outcome (Checked ℕ)
word_value r place m w =
    choose (is_never_a_bus m) (λ w. gives (faulty WrongSort place) w)
    (λ w. go_on (meaning_value r place m w) (λ v w. gives (bus_in place v) w)) w

-- the word is looked up, the index is evaluated, and then their sorts are tested
abbrev pub index_value : Names → Evaluator → List Binding → ℕ → Named → Tree → Work → Outcome Value
index_value names r bound place word i w =
    go_on (word_value r word.span.start (look_up names bound word.name) w) (λ b w.
    go_on (r.value bound i w) (λ v w.
    checked b (λ k w. checked (number_in (span_start i) v) (λ z w. bit_value place (span_start i) (bus_at names k) z w) w) w))

-- ---- sets

-- the values of the expressions are numbers, after those before
abbrev pub numbers_in : List ℤ → Trees → List Value → Checked (List ℤ)
numbers_in so_far (tree t ts) (v ∷ vs) = and_then (number_in (span_start t) v) (λ z. numbers_in (so_far ++ z ∷ []) ts vs)
numbers_in so_far no_trees vs = fine so_far
numbers_in so_far (tree t ts) [] = fine so_far

-- a step of 0 is refused; each member counts before they are laid out
abbrev pub steps_value : ℕ → ℤ → ℤ → ℤ → Work → Outcome Value
steps_value place a b c w =
    choose (int_eq a b) (λ w. fails NumberRange place) (λ w. go_on (counted place (step_count a b c) w) (λ _ w. gives (Set (set_of (stepped a b c))) w)) w

-- ---- operators with several operands

-- a chain joins to the left: each operator is applied once its own two operands are evaluated
abbrev pub chain_value : Names → Evaluator → List Binding → ℕ → ℕ → Value → Links → Work → Outcome Value
chain_value names r bound own left v no_links w = gives v w
chain_value names r bound own left v (link o t more) w =
    go_on (r.value bound t w) (λ u w. go_on (operated names o (record { own = own; left = left; right = span_start t }) v u w) (λ joined w. chain_value names r bound own left joined more w))

abbrev pub window_parts : ℕ → Connective → Tree → Tree → Tree → Value → Value → Value → Work → Outcome Value
window_parts place k t u p m n v w =
    checked (number_in (span_start t) m) (λ from w. checked (number_in (span_start u) n) (λ to w. checked (formula_in (span_start p) v) (λ x w.
    checked (count_in (span_start t) from) (λ m w. checked (count_in (span_start u) to) (λ n w. window_value place k m n x w) w) w) w) w) w

abbrev pub window_at : Evaluator → List Binding → ℕ → Option Connective → Tree → Tree → Tree → Work → Outcome Value
window_at r bound place None t u p w = fails WrongSort place
window_at r bound place (Some k) t u p w =
    go_on (r.value bound t w) (λ m w. go_on (r.value bound u w) (λ n w. go_on (r.value bound p w) (λ v w. window_parts place k t u p m n v w)))

-- ---- big operators

-- a strict bound is the next number
abbrev pub low_of : Bool → ℤ → ℤ
low_of true z = z +ℤ pos 1
low_of false z = z

abbrev pub high_of : Bool → ℤ → ℤ
high_of true z = z -ℤ pos 1
high_of false z = z

-- the numbers from one to the other
abbrev pub natural : ℤ → ℕ
natural (pos n) = n
natural (negsuc n) = 0

abbrev pub run_of : ℤ → ℤ → List ℤ
run_of low high = numbers_from low (pos 1) (natural (high +ℤ pos 1 -ℤ low))

-- The members of the first range in rising order, and for each of them those of the next ranges; the body, which has to be a
-- formula or a truth, is evaluated for the members of all of them.
abbrev pub big_value : Evaluator → ℕ → Connective → List Binding → Ranges → Tree → Work → Outcome Formula
big_value r place j bound no_ranges t w = go_on (r.value bound t w) (λ v w. checked (formula_in (span_start t) v) (λ x w. gives x w) w)
big_value r place j bound (members word s more) t w =
    go_on (r.value bound s w) (λ v w. checked (set_in (span_start s) v) (λ zs w. joined_over place j (λ z w. big_value r place j (bind word (Number z) bound) more t w) zs None w) w)
big_value r place j bound (between low low_strict word high_strict high more) t w =
    go_on (r.value bound low w) (λ a w. go_on (r.value bound high w) (λ b w.
    checked (number_in (span_start low) a) (λ x w. checked (number_in (span_start high) b) (λ y w.
    joined_over place j (λ z w. big_value r place j (bind word (Number z) bound) more t w) (run_of (low_of low_strict x) (high_of high_strict y)) None w) w) w))

abbrev pub big_at : Evaluator → List Binding → ℕ → Option Connective → Ranges → Tree → Work → Outcome Value
big_at r bound place None over t w = fails WrongSort place
big_at r bound place (Some j) over t w = as_value (big_value r place j bound over t w)

-- ---- all forms

abbrev pub form_value : Names → Evaluator → List Binding → Tree → Work → Outcome Value
form_value names r bound (number s (Some z)) w = gives (Number z) w
form_value names r bound (number s None) w = fails NumberRange s.start
form_value names r bound (truth s b) w = gives (Truth b) w
form_value names r bound (named s name) w = meaning_value r s.start (look_up names bound name) w
form_value names r bound (call s word ts) w = call_value r bound s.start word.span.start (look_up names bound word.name) ts w
form_value names r bound (index s word i) w = index_value names r bound s.start word i w
form_value names r bound (size_of s t) w = go_on (r.value bound t w) (λ v w. checked (bus_in (span_start t) v) (λ k w. gives (Number (pos (bus_at names k).width)) w) w)
form_value names r bound (paren s t) w = r.value bound t w
form_value names r bound (set s ts) w = go_on (values_at r bound [] ts w) (λ vs w. checked (numbers_in [] ts vs) (λ zs w. gives (Set (set_of zs)) w) w)
form_value names r bound (steps s t u v) w =
    go_on (r.value bound t w) (λ a w. go_on (r.value bound u w) (λ b w. go_on (r.value bound v w) (λ c w.
    checked (number_in (span_start t) a) (λ x w. checked (number_in (span_start u) b) (λ y w. checked (number_in (span_start v) c) (λ z w. steps_value s.start x y z w) w) w) w)))
form_value names r bound (chain s t links) w = go_on (r.value bound t w) (λ v w. chain_value names r bound s.start (span_start t) v links w)
form_value names r bound (pair s o t u) w =
    go_on (r.value bound t w) (λ a w. go_on (r.value bound u w) (λ b w. operated names o (record { own = s.start; left = span_start t; right = span_start u }) a b w))
form_value names r bound (prefix s o t) w = go_on (r.value bound t w) (λ a w. prefixed o s.start (span_start t) a w)
form_value names r bound (count s n t) w =
    go_on (r.value bound n w) (λ m w. go_on (r.value bound t w) (λ v w.
    checked (number_in (span_start n) m) (λ z w. checked (formula_in (span_start t) v) (λ x w. checked (count_in (span_start n) z) (λ k w. count_value s.start k x w) w) w) w))
form_value names r bound (window s o t u p) w = window_at r bound s.start (window_of o) t u p w
form_value names r bound (big s o over t) w = big_at r bound s.start (joining_of o) over t w

-- A node is an evaluation. Its parts stand one deeper, and so does a body's call; the body's root is one deeper than its call.
abbrev pub deeper : Names → Evaluator → Evaluator
deeper names r = record {
  value = λ bound t w. go_on (counted (span_start t) 1 w) (λ _ w. form_value names r bound t w);
  body = λ bound place b w. body_value r bound place b w;
}

-- what is evaluated where so many nodes and calls may still be entered
unfoldable pub evaluator : Names → ℕ → Evaluator
evaluator names zero = record { value = λ bound t w. fails TooDeep (span_start t); body = λ bound place b w. fails TooDeep place }
evaluator names (suc left) = deeper names (evaluator names left)

-- the value of an expression where so many nodes and calls are entered
abbrev pub value_at : Names → List Binding → Tree → ℕ → Work → Outcome Value
value_at names bound t depth w = (evaluator names (MOST_DEPTH - depth)).value bound t w
