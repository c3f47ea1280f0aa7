-- Evaluation keeps what it gives within wider limits.
use Rattle.std.proofs.Common.{ℕ, zero, suc, ◌+◌, ◌-◌, true, List, [], ◌∷◌, ◌++◌, length, Option, None, Some}
use Rattle.std.specs.Prelude.{◌&&◌, ◌==◌, ℤ, pos, int_lt, int_le, unsigned_abs}
use Rattle.std.specs.Ordering.{int_eq}
use Rattle.text_limits.specs.declared.Limits.{Limits}
use Rattle.ltl_formula.specs.declared.nodes.Node.{Node}
use Rattle.ltl_formula.specs.declared.nodes.Node.TheVariants as node
use Rattle.tlsf_syntax.specs.Tree.{Tree, Trees, Links, Ranges, Named, number, truth, named, call, index, size_of, paren, set, steps, chain, pair, prefix, count, window, big, no_trees, tree, no_links, link, no_ranges, members, between, Body, plain, guarded, Alternative}
use Rattle.tlsf_values.specs.declared.work.TheConstants.{MOST_DEPTH}
use Rattle.tlsf_values.specs.declared.work.Work.{Work}
use Rattle.tlsf_values.specs.declared.value.Value.{Value}
use Rattle.tlsf_values.specs.declared.value.Value.TheVariants as value_is
use Rattle.tlsf_values.specs.declared.formula.Connective.{Connective}
use Rattle.tlsf_values.specs.Outcomes.{Outcome, made}
use Rattle.tlsf_values.specs.Names.{Names, Binding, BusRange, Meaning, known, a_signal, a_definition, an_enumeration, undeclared, look_up, bus_at}
use Rattle.tlsf_values.specs.Steps.{step_count}
use Rattle.tlsf_values.specs.Sorts.{number_in, truth_in, set_in, bus_in, formula_in}
use Rattle.tlsf_values.specs.Counts.{count_in, window_of, joining_of}
use Rattle.tlsf_values.specs.Formulas.{truth_node}
use Rattle.tlsf_values.specs.SectionValues.{section_formula, section_value}
use Rattle.tlsf_values.specs.Values.{Evaluator, span_start, meaning_value, tree_count, values_at, bind, arguments_at, call_value, guard_value, chosen_value, body_value, bit_value, is_never_a_bus, word_value, index_value, numbers_in, steps_value, chain_value, window_parts, window_at, low_of, high_of, run_of, big_value, big_at, form_value, deeper, evaluator, value_at}
use Rattle.limit_laws.specs.Wider.{AreWider}
use Rattle.limit_laws.proofs.Kept.{Keeps, same_given, refused_first, kept_go_on, kept_checked, kept_choose, kept_counted, kept_made}
use Rattle.limit_laws.proofs.Operated.{kept_as_value, kept_count_value, kept_joined_over, kept_operated, kept_prefixed, kept_window_value}

-- what is evaluated at one depth is kept
pub record KeepsAll (small large : Limits) (r : Evaluator) : Type 0 where
  pub value : (bound : List Binding) (t : Tree) → Keeps small large (r.value bound t)
  pub body : (bound : List Binding) (place : ℕ) (b : Body) → Keeps small large (r.body bound place b)

module _ (small large : Limits) (wider : AreWider small large) where
  abbrev Stays : {A : Type 0} → (Work → Outcome A) → Type 0
  Stays f = Keeps small large f

  makes : (place : ℕ) (n : Node) → Stays (made place n)
  makes = kept_made small large wider

  module _ (names : Names) (r : Evaluator) (all : KeepsAll small large r) where
    -- ---- names and calls

    kept_meaning_value : (place : ℕ) (m : Meaning) → Stays (meaning_value r place m)
    kept_meaning_value place (known v) = same_given v
    kept_meaning_value place (a_signal k) = λ done nodes. kept_go_on _ _ (makes place (node.Signal k) done nodes) (λ id. same_given (value_is.Flat id))
    kept_meaning_value place (a_definition [] body) = all.body [] place body
    kept_meaning_value place (a_definition (word ∷ words) body) = λ done nodes. refused_first _ _ _
    kept_meaning_value place an_enumeration = λ done nodes. refused_first _ _ _
    kept_meaning_value place undeclared = λ done nodes. refused_first _ _ _

    kept_values_at : (bound : List Binding) (so_far : List Value) (ts : Trees) → Stays (values_at r bound so_far ts)
    kept_values_at bound so_far no_trees = same_given so_far
    kept_values_at bound so_far (tree t ts) = λ done nodes. kept_go_on _ _ (all.value bound t done nodes) (λ v. kept_values_at bound (so_far ++ v ∷ []) ts)

    kept_arguments_at : (bound so_far : List Binding) (words : List Named) (ts : Trees) → Stays (arguments_at r bound so_far words ts)
    kept_arguments_at bound so_far (word ∷ words) (tree t ts) = λ done nodes. kept_go_on _ _ (all.value bound t done nodes) (λ v. kept_arguments_at bound (bind word v so_far) words ts)
    kept_arguments_at bound so_far [] ts = same_given so_far
    kept_arguments_at bound so_far (word ∷ words) no_trees = same_given so_far

    kept_call_value : (bound : List Binding) (place at : ℕ) (m : Meaning) (ts : Trees) → Stays (call_value r bound place at m ts)
    kept_call_value bound place at (a_definition words body) ts = λ done nodes.
        kept_choose (tree_count ts == length words) _ _ _ _ _ _ (kept_go_on _ _ (kept_arguments_at bound [] words ts done nodes) (λ inner. all.body inner place body)) (refused_first _ _ _)
    kept_call_value bound place at undeclared ts = λ done nodes. refused_first _ _ _
    kept_call_value bound place at (known v) ts = λ done nodes. refused_first _ _ _
    kept_call_value bound place at (a_signal k) ts = λ done nodes. refused_first _ _ _
    kept_call_value bound place at an_enumeration ts = λ done nodes. refused_first _ _ _

    kept_guard_value : (bound : List Binding) (guard : Option Tree) → Stays (guard_value r bound guard)
    kept_guard_value bound None = same_given true
    kept_guard_value bound (Some t) = λ done nodes. kept_go_on _ _ (all.value bound t done nodes) (λ v done nodes. kept_checked (truth_in (span_start t) v) _ _ _ _ (λ b. same_given b done nodes))

    kept_chosen_value : (bound : List Binding) (place : ℕ) (alternatives : List Alternative) → Stays (chosen_value r bound place alternatives)
    kept_chosen_value bound place [] = λ done nodes. refused_first _ _ _
    kept_chosen_value bound place (a ∷ rest) = λ done nodes.
        kept_go_on _ _ (kept_guard_value bound a.guard done nodes) (λ b done nodes. kept_choose b _ _ _ _ _ _ (all.value bound a.value done nodes) (kept_chosen_value bound place rest done nodes))

    kept_body_value : (bound : List Binding) (place : ℕ) (b : Body) → Stays (body_value r bound place b)
    kept_body_value bound place (plain t) = all.value bound t
    kept_body_value bound place (guarded alternatives) = kept_chosen_value bound place alternatives

    -- ---- buses and sets

    kept_bit_value : (place at : ℕ) (bus : BusRange) (i : ℤ) → Stays (bit_value place at bus i)
    kept_bit_value place at bus i done nodes =
        kept_choose (int_le (pos 0) i && int_lt i (pos bus.width)) _ _ _ _ _ _
        (kept_go_on _ _ (makes place (node.Signal (bus.first + unsigned_abs i)) done nodes) (λ id. same_given (value_is.Flat id))) (refused_first _ _ _)

    kept_word_value : (place : ℕ) (m : Meaning) → Stays (word_value r place m)
    kept_word_value place m done nodes =
        kept_choose (is_never_a_bus m) _ _ _ _ _ _ (same_given _ done nodes) (kept_go_on _ _ (kept_meaning_value place m done nodes) (λ v. same_given (bus_in place v)))

    kept_index_value : (bound : List Binding) (place : ℕ) (word : Named) (i : Tree) → Stays (index_value names r bound place word i)
    kept_index_value bound place word i done nodes =
        kept_go_on _ _ (kept_word_value word.span.start (look_up names bound word.name) done nodes) (λ b done nodes. kept_go_on _ _ (all.value bound i done nodes) (λ v done nodes.
        kept_checked b _ _ _ _ (λ k. kept_checked (number_in (span_start i) v) _ _ _ _ (λ z. kept_bit_value place (span_start i) (bus_at names k) z done nodes))))

    kept_steps_value : (place : ℕ) (a b c : ℤ) → Stays (steps_value place a b c)
    kept_steps_value place a b c done nodes =
        kept_choose (int_eq a b) _ _ _ _ _ _ (refused_first _ _ _) (kept_go_on _ _ (kept_counted small large wider place (step_count a b c) done nodes) (λ _. same_given _))

    -- ---- operators with several operands

    kept_chain_value : (bound : List Binding) (own left : ℕ) (v : Value) (links : Links) → Stays (chain_value names r bound own left v links)
    kept_chain_value bound own left v no_links = same_given v
    kept_chain_value bound own left v (link o t more) = λ done nodes.
        kept_go_on _ _ (all.value bound t done nodes) (λ u done nodes. kept_go_on _ _ (kept_operated small large wider names o (record { own = own; left = left; right = span_start t }) v u done nodes) (λ joined.
        kept_chain_value bound own left joined more))

    kept_window_parts : (place : ℕ) (k : Connective) (t u p : Tree) (m n v : Value) → Stays (window_parts place k t u p m n v)
    kept_window_parts place k t u p m n v done nodes =
        kept_checked (number_in (span_start t) m) _ _ _ _ (λ from. kept_checked (number_in (span_start u) n) _ _ _ _ (λ to. kept_checked (formula_in (span_start p) v) _ _ _ _ (λ x.
        kept_checked (count_in (span_start t) from) _ _ _ _ (λ m. kept_checked (count_in (span_start u) to) _ _ _ _ (λ n. kept_window_value small large wider place k m n x done nodes)))))

    kept_window_at : (bound : List Binding) (place : ℕ) (k : Option Connective) (t u p : Tree) → Stays (window_at r bound place k t u p)
    kept_window_at bound place None t u p = λ done nodes. refused_first _ _ _
    kept_window_at bound place (Some k) t u p = λ done nodes.
        kept_go_on _ _ (all.value bound t done nodes) (λ m done nodes. kept_go_on _ _ (all.value bound u done nodes) (λ n done nodes. kept_go_on _ _ (all.value bound p done nodes) (λ v.
        kept_window_parts place k t u p m n v)))

    kept_big_value : (place : ℕ) (j : Connective) (bound : List Binding) (over : Ranges) (t : Tree) → Stays (big_value r place j bound over t)
    kept_big_value place j bound no_ranges t = λ done nodes.
        kept_go_on _ _ (all.value bound t done nodes) (λ v done nodes. kept_checked (formula_in (span_start t) v) _ _ _ _ (λ x. same_given x done nodes))
    kept_big_value place j bound (members word s more) t = λ done nodes.
        kept_go_on _ _ (all.value bound s done nodes) (λ v done nodes. kept_checked (set_in (span_start s) v) _ _ _ _ (λ zs.
        kept_joined_over small large wider place j _ (λ z. kept_big_value place j (bind word (value_is.Number z) bound) more t) zs None done nodes))
    kept_big_value place j bound (between low low_strict word high_strict high more) t = λ done nodes.
        kept_go_on _ _ (all.value bound low done nodes) (λ a done nodes. kept_go_on _ _ (all.value bound high done nodes) (λ b done nodes.
        kept_checked (number_in (span_start low) a) _ _ _ _ (λ x. kept_checked (number_in (span_start high) b) _ _ _ _ (λ y.
        kept_joined_over small large wider place j _ (λ z. kept_big_value place j (bind word (value_is.Number z) bound) more t) (run_of (low_of low_strict x) (high_of high_strict y)) None done nodes))))

    kept_big_at : (bound : List Binding) (place : ℕ) (j : Option Connective) (over : Ranges) (t : Tree) → Stays (big_at r bound place j over t)
    kept_big_at bound place None over t = λ done nodes. refused_first _ _ _
    kept_big_at bound place (Some j) over t = λ done nodes. kept_as_value small large wider (kept_big_value place j bound over t done nodes)

    -- ---- all forms

    kept_form_value : (bound : List Binding) (t : Tree) → Stays (form_value names r bound t)
    kept_form_value bound (number s (Some z)) = same_given (value_is.Number z)
    kept_form_value bound (number s None) = λ done nodes. refused_first _ _ _
    kept_form_value bound (truth s b) = same_given (value_is.Truth b)
    kept_form_value bound (named s name) = kept_meaning_value s.start (look_up names bound name)
    kept_form_value bound (call s word ts) = kept_call_value bound s.start word.span.start (look_up names bound word.name) ts
    kept_form_value bound (index s word i) = kept_index_value bound s.start word i
    kept_form_value bound (size_of s t) = λ done nodes. kept_go_on _ _ (all.value bound t done nodes) (λ v done nodes. kept_checked (bus_in (span_start t) v) _ _ _ _ (λ k. same_given _ done nodes))
    kept_form_value bound (paren s t) = all.value bound t
    kept_form_value bound (set s ts) = λ done nodes.
        kept_go_on _ _ (kept_values_at bound [] ts done nodes) (λ vs done nodes. kept_checked (numbers_in [] ts vs) _ _ _ _ (λ zs. same_given _ done nodes))
    kept_form_value bound (steps s t u v) = λ done nodes.
        kept_go_on _ _ (all.value bound t done nodes) (λ a done nodes. kept_go_on _ _ (all.value bound u done nodes) (λ b done nodes. kept_go_on _ _ (all.value bound v done nodes) (λ c done nodes.
        kept_checked (number_in (span_start t) a) _ _ _ _ (λ x. kept_checked (number_in (span_start u) b) _ _ _ _ (λ y. kept_checked (number_in (span_start v) c) _ _ _ _ (λ z. kept_steps_value s.start x y z done nodes))))))
    kept_form_value bound (chain s t links) = λ done nodes. kept_go_on _ _ (all.value bound t done nodes) (λ v. kept_chain_value bound s.start (span_start t) v links)
    kept_form_value bound (pair s o t u) = λ done nodes.
        kept_go_on _ _ (all.value bound t done nodes) (λ a done nodes. kept_go_on _ _ (all.value bound u done nodes) (λ b.
        kept_operated small large wider names o (record { own = s.start; left = span_start t; right = span_start u }) a b))
    kept_form_value bound (prefix s o t) = λ done nodes. kept_go_on _ _ (all.value bound t done nodes) (λ a. kept_prefixed small large wider o s.start (span_start t) a)
    kept_form_value bound (count s n t) = λ done nodes.
        kept_go_on _ _ (all.value bound n done nodes) (λ m done nodes. kept_go_on _ _ (all.value bound t done nodes) (λ v done nodes.
        kept_checked (number_in (span_start n) m) _ _ _ _ (λ z. kept_checked (formula_in (span_start t) v) _ _ _ _ (λ x. kept_checked (count_in (span_start n) z) _ _ _ _ (λ k.
        kept_count_value small large wider s.start k x done nodes)))))
    kept_form_value bound (window s o t u p) = kept_window_at bound s.start (window_of o) t u p
    kept_form_value bound (big s o over t) = kept_big_at bound s.start (joining_of o) over t

    kept_deeper : KeepsAll small large (deeper names r)
    kept_deeper = record {
      value = λ bound t done nodes. kept_go_on _ _ (kept_counted small large wider (span_start t) 1 done nodes) (λ _. kept_form_value bound t);
      body = kept_body_value;
    }

  kept_evaluator : (names : Names) (left : ℕ) → KeepsAll small large (evaluator names left)
  unfolding evaluator
  kept_evaluator names zero = record { value = λ bound t done nodes. refused_first _ _ _; body = λ bound place b done nodes. refused_first _ _ _ }
  kept_evaluator names (suc left) = kept_deeper names (evaluator names left) (kept_evaluator names left)

  pub kept_value_at : (names : Names) (bound : List Binding) (t : Tree) (depth : ℕ) → Stays (value_at names bound t depth)
  kept_value_at names bound t depth = (kept_evaluator names (MOST_DEPTH - depth)).value bound t

  -- ---- a section

  kept_section_formula : (place : ℕ) (v : Value) → Stays (section_formula place v)
  kept_section_formula place (value_is.Truth b) = makes place (truth_node b)
  kept_section_formula place (value_is.Flat id) = same_given id
  kept_section_formula place _ = λ done nodes. refused_first _ _ _

  pub kept_section_value : (names : Names) (ts : List Tree) → Stays (section_value names ts)
  kept_section_value names [] = same_given []
  kept_section_value names (t ∷ ts) = λ done nodes.
      kept_go_on _ _ (kept_value_at names [] t 0 done nodes) (λ v done nodes. kept_go_on _ _ (kept_section_formula (span_start t) v done nodes) (λ id done nodes.
      kept_go_on _ _ (kept_section_value names ts done nodes) (λ ids. same_given (id ∷ ids))))
