-- A list to which nodes are added while fewer than `most` stand has at most so many, where it had at most so many before.
use Rattle.std.proofs.Common.{◌≡◌, ℕ, ◌≤◌, Bool, true, false, cond, ltb, List, [], ◌∷◌, ◌++◌, length, Option, None, Some, refl, sym, ap, subst, arith}
use Rattle.std.specs.Prelude.{◌<◌, ◌==◌, min, position, option_and_then, option_map, unwrap_or}
use Rattle.std.proofs.Math.Nat.{min-le_left}
use Rattle.std.proofs.lemmas.Bool.{ltb-true}
use Rattle.std.proofs.lemmas.List.{length_push}
use Rattle.std.proofs.lemmas.Option.{none-some}
use Rattle.ltl_formula.specs.declared.nodes.FormulaId.{FormulaId}
use Rattle.ltl_formula.specs.declared.nodes.Node.{Node}
use Rattle.ltl_formula.specs.declared.nodes.Node.TheVariants as node
use Rattle.ltl_formula.specs.declared.nodes.TheConstants.{MAX_NODES}
use Rattle.ltl_formula.specs.Added.{Built, added, built_at, node_eq}
use Rattle.kind_conversion.specs.declared.conversion.ConvertedList.{ConvertedList}
use Rattle.kind_conversion.specs.declared.shifts.Shift.{Shift}
use Rattle.kind_conversion.specs.ShiftedList.{ShiftedList, converted_of, form_at, is_shifted_node, over_forms, put_form, put_forms, then_next}
use Rattle.ltl_normal.specs.declared.simplify.Outcome.{Outcome}
use Rattle.ltl_normal.specs.declared.simplify.Outcome.TheVariants.{First, Second, Whole}
use Rattle.ltl_normal.specs.Simplify.{outcome_of}
use Rattle.ltl_normal.specs.NormalNodes.{Step, chosen_step, constant_at, constant_node, go_on, join_ids, next_id, next_step, whole_node}
use Rattle.ltl_normal.proofs.Building.{go_on-None, go_on-Some}
use Rattle.taken_laws.proofs.Forms.{Form, of_constant, of_join, of_literal, of_next}
use Rattle.taken_laws.proofs.Made.{step}

module _ (most : ℕ) where
  abbrev IsFew : List Node → Type 0
  IsFew nodes = length nodes ≤ most

  few_added : (nodes : List Node) (new : Node) → IsFew nodes → IsFew (added most nodes new).nodes
  few_added nodes new few = by (position (node_eq new) nodes)
    where
      room : (b : Bool) → ltb (length nodes) (min most MAX_NODES) ≡ b
          → IsFew (cond b (let x : Built = record { nodes = nodes ++ new ∷ []; made = Some (record { 0 = length nodes }) } in x) (let x : Built = record { nodes = nodes; made = None } in x)).nodes
      room true e =
          let less : length nodes < min most MAX_NODES = ltb-true (length nodes) (min most MAX_NODES) e in
          let least = min-le_left most MAX_NODES in
          let long = length_push nodes new in
          omega (arith, less, least, long)
      room false e = few

      by : (o : Option ℕ) → IsFew (built_at most o nodes new).nodes
      by (Some i) = few
      by None = room (ltb (length nodes) (min most MAX_NODES)) refl

  few_go_on : (built : Built) (next : FormulaId → Step) → IsFew built.nodes → ((id : FormulaId) → IsFew (next id built.nodes).nodes) → IsFew (go_on built next).nodes
  few_go_on built next few then = by built.made refl
    where
      by : (o : Option FormulaId) → built.made ≡ o → IsFew (go_on built next).nodes
      by None e = subst (λ (b : Built). IsFew b.nodes) (sym (go_on-None built next e)) few
      by (Some id) e = subst (λ (b : Built). IsFew b.nodes) (sym (go_on-Some built next id e)) (then id)

  few_next : (a : FormulaId) (nodes : List Node) (o : Option Bool) → IsFew nodes → IsFew (next_step most o a nodes).nodes
  few_next a nodes (Some value) few = few
  few_next a nodes None few = few_added nodes (node.Next a) few

  few_chosen : (o : Outcome) (a b : FormulaId) (whole : Node) (nodes : List Node) → IsFew nodes → IsFew (chosen_step most o a b whole nodes).nodes
  few_chosen First a b whole nodes few = few
  few_chosen Second a b whole nodes few = few
  few_chosen Whole a b whole nodes few = few_added nodes whole few

  pub few_step : (f : Form) (nodes : List Node) → IsFew nodes → IsFew (step most f nodes).nodes
  few_step (of_constant value) nodes few = few_added nodes (constant_node value) few
  few_step (of_literal true s) nodes few = few_added nodes (node.Signal s) few
  few_step (of_literal false s) nodes few =
      let first : IsFew (added most nodes (node.Signal s)).nodes = few_added nodes (node.Signal s) few in
      few_go_on (added most nodes (node.Signal s)) (λ x later. added most later (node.Not x)) first (λ x. few_added (added most nodes (node.Signal s)).nodes (node.Not x) first)
  few_step (of_next a) nodes few =
      let first : IsFew (step most a nodes).nodes = few_step a nodes few in
      few_go_on (step most a nodes) (next_id most) first (λ x. few_next x (step most a nodes).nodes (constant_at (step most a nodes).nodes x) first)
  few_step (of_join joint a b) nodes few =
      let first : IsFew (step most a nodes).nodes = few_step a nodes few in
      few_go_on (step most a nodes) (λ x later. go_on (step most b later) (join_ids most joint x)) first (λ x.
      let middle : List Node = (step most a nodes).nodes in
      let second : IsFew (step most b middle).nodes = few_step b middle first in
      few_go_on (step most b middle) (join_ids most joint x) second (λ y.
      let last : List Node = (step most b middle).nodes in
      few_chosen (outcome_of joint (constant_at last x) (constant_at last y) (x.0 == y.0)) x y (whole_node joint x y) last second))

  -- ---- the list that is made anew

  few_then_next : (nodes : List Node) (o : Option FormulaId) → IsFew nodes → IsFew (then_next most (record { nodes = nodes; made = o })).nodes
  few_then_next nodes (Some id) few = few_added nodes (node.Next id) few
  few_then_next nodes None few = few

  few_put : (shift : Shift) (inputs : ℕ) (forms : List FormulaId) (new : Node) (nodes : List Node) → IsFew nodes → IsFew (put_form most shift inputs forms new nodes).nodes
  few_put shift inputs forms new nodes few = by (is_shifted_node shift inputs new)
    where
      plain : IsFew (added most nodes (over_forms forms new)).nodes
      plain = few_added nodes (over_forms forms new) few

      by : (b : Bool) → IsFew (cond b (then_next most (added most nodes (over_forms forms new))) (added most nodes (over_forms forms new))).nodes
      by true = few_then_next (added most nodes (over_forms forms new)).nodes (added most nodes (over_forms forms new)).made plain
      by false = plain

  few_behind : (behind : FormulaId → Option ShiftedList) (last : ShiftedList) (o : Option FormulaId) → ((id : FormulaId) → behind id ≡ Some last → IsFew last.nodes)
      → option_and_then behind o ≡ Some last → IsFew last.nodes
  few_behind behind last None then e = absurd (none-some last e)
  few_behind behind last (Some id) then e = then id e

  few_forms : (shift : Shift) (inputs : ℕ) (nodes : List Node) (made last : ShiftedList) → IsFew made.nodes → put_forms most shift inputs nodes made ≡ Some last → IsFew last.nodes
  few_forms shift inputs [] made last few is = subst (λ (m : Option ShiftedList). length (unwrap_or m made).nodes ≤ most) is few
  few_forms shift inputs (new ∷ nodes) made last few is =
      let built : Built = put_form most shift inputs made.forms new made.nodes in
      let next : IsFew built.nodes = few_put shift inputs made.forms new made.nodes few in
      few_behind (λ id. put_forms most shift inputs nodes (record { nodes = built.nodes; forms = made.forms ++ id ∷ [] })) last built.made
      (λ id e. few_forms shift inputs nodes (record { nodes = built.nodes; forms = made.forms ++ id ∷ [] }) last next e) is

  pub few_converted : (shift : Shift) (inputs : ℕ) (nodes : List Node) (whole : FormulaId) (c : ConvertedList) → converted_of most shift inputs nodes whole ≡ Some c → length c.formulas ≤ most
  few_converted shift inputs nodes whole c is = by (put_forms most shift inputs nodes (record { nodes = []; forms = [] })) refl is
    where
      by : (o : Option ShiftedList) → put_forms most shift inputs nodes (record { nodes = []; forms = [] }) ≡ o
          → option_map (λ (made : ShiftedList). let c : ConvertedList = record { formulas = made.nodes; whole = form_at made.forms whole } in c) o ≡ Some c → length c.formulas ≤ most
      by None e is = absurd (none-some c is)
      by (Some made) e is =
          let few : length made.nodes ≤ most = few_forms shift inputs nodes (record { nodes = []; forms = [] }) made (omega arith) e in
          let same : made.nodes ≡ c.formulas = ap (λ (o : Option ConvertedList). (unwrap_or o c).formulas) is in
          subst (λ (ns : List Node). length ns ≤ most) same few
