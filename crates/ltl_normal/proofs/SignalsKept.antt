-- Normal forms have no signals but those of their formulas.
use Rattle.std.proofs.Common.{◌≡◌, ℕ, Bool, true, false, List, Option, None, Some, Result, Ok, Err, ap, subst}
use Rattle.std.specs.Prelude.{not, ◌==◌, IfOk, OnOk}
use Rattle.ltl_formula.specs.declared.faults.AddFault.{AddFault}
use Rattle.ltl_formula.specs.declared.nodes.FormulaId.{FormulaId}
use Rattle.ltl_formula.specs.declared.nodes.Node.{Node}
use Rattle.ltl_formula.specs.declared.nodes.Node.TheVariants as node
use Rattle.ltl_formula.specs.ListSignals.{HasSignalsBelow, KeepsSignals}
use Rattle.ltl_formula.specs.Nodes.{IsNodeList, SignalBelow, IsNodeIn, tree_at}
use Rattle.ltl_formula.specs.Added.{Built, added}
use Rattle.ltl_formula.specs.Tree.{Tree, SignalsBelow}
use Rattle.ltl_formula.specs.Tree.Tree.{truth, falsity, signal, negation, next_time, finally, globally, conjunction, disjunction, implication, equivalence, until, release, weak_until}
use Rattle.ltl_formula.proofs.ListSignals.{HasSignalsBelow-added, signals_of_lists_are_kept}
use Rattle.ltl_normal.specs.declared.simplify.Joint.{Joint}
use Rattle.ltl_normal.specs.declared.simplify.Joint.TheVariants.{And, Or, Until, Release}
use Rattle.ltl_normal.specs.declared.simplify.Outcome.{Outcome}
use Rattle.ltl_normal.specs.declared.simplify.Outcome.TheVariants.{First, Second, Whole}
use Rattle.ltl_normal.specs.Simplify.{facing_of, outcome_of}
use Rattle.ltl_normal.specs.NormalNodes.{Step, go_on, whole_node, constant_at, chosen_step, join_ids, next_step, next_id, constant_node, literal_step, nodes_to, form_in}
use Rattle.ltl_normal.proofs.Building.{signal-whole_node}

module _ (most n : ℕ) where
  -- the step adds no signal from n on
  abbrev pub KeepsBelow : Step → Type 0
  KeepsBelow step = (nodes : List Node) → HasSignalsBelow n nodes → HasSignalsBelow n (step nodes).nodes

  keeps_go_on : (built : Built) (next : FormulaId → Step) → HasSignalsBelow n built.nodes → ((id : FormulaId) → KeepsBelow (next id)) → HasSignalsBelow n (go_on built next).nodes
  keeps_go_on built next h more = by built.made
    where
      by : (o : Option FormulaId) → HasSignalsBelow n (go_on (record { nodes = built.nodes; made = o }) next).nodes
      by (Some id) = more id built.nodes h
      by None = h

  constant_below : (b : Bool) → SignalBelow n (constant_node b)
  constant_below true = tt
  constant_below false = tt

  keeps_constant : (b : Bool) → KeepsBelow ((nodes_to most).constant b)
  keeps_constant b nodes h = HasSignalsBelow-added most n nodes (constant_node b) h (constant_below b)

  keeps_literal : (keep : Bool) (s : ℕ) → SignalBelow n (node.Signal s) → KeepsBelow (literal_step most keep s)
  keeps_literal true s below nodes h = HasSignalsBelow-added most n nodes (node.Signal s) h below
  keeps_literal false s below nodes h =
      keeps_go_on (added most nodes (node.Signal s)) (λ id later. added most later (node.Not id)) (HasSignalsBelow-added most n nodes (node.Signal s) h below)
      (λ id later g. HasSignalsBelow-added most n later (node.Not id) g tt)

  keeps_next_step : (c : Option Bool) (a : FormulaId) → KeepsBelow (next_step most c a)
  keeps_next_step (Some value) a nodes h = h
  keeps_next_step None a nodes h = HasSignalsBelow-added most n nodes (node.Next a) h tt

  keeps_next : (a : Step) → KeepsBelow a → KeepsBelow ((nodes_to most).next a)
  keeps_next a keeps nodes h = keeps_go_on (a nodes) (next_id most) (keeps nodes h) (λ id later g. keeps_next_step (constant_at later id) id later g)

  keeps_chosen : (joint : Joint) (o : Outcome) (a b : FormulaId) → KeepsBelow (chosen_step most o a b (whole_node joint a b))
  keeps_chosen joint First a b nodes h = h
  keeps_chosen joint Second a b nodes h = h
  keeps_chosen joint Whole a b nodes h = HasSignalsBelow-added most n nodes (whole_node joint a b) h (signal-whole_node joint a b n)

  keeps_join : (joint : Joint) (a b : Step) → KeepsBelow a → KeepsBelow b → KeepsBelow ((nodes_to most).join joint a b)
  keeps_join joint a b keeps_a keeps_b nodes h =
      keeps_go_on (a nodes) (λ x later. go_on (b later) (join_ids most joint x)) (keeps_a nodes h) (λ x later g.
      keeps_go_on (b later) (join_ids most joint x) (keeps_b later g) (λ y last k.
      keeps_chosen joint (outcome_of joint (constant_at last x) (constant_at last y) (x.0 == y.0)) x y last k))

  pub keeps_form : (keep : Bool) (f : Tree) → SignalsBelow n f → KeepsBelow (form_in most keep f)
  keeps_form keep truth s = keeps_constant keep
  keeps_form keep falsity s = keeps_constant (not keep)
  keeps_form keep (signal k) s = keeps_literal keep k s
  keeps_form keep (negation a) s = keeps_form (not keep) a s
  keeps_form keep (next_time a) s = keeps_next (form_in most keep a) (keeps_form keep a s)
  keeps_form keep (finally a) s = keeps_join (facing_of keep Until) ((nodes_to most).constant keep) (form_in most keep a) (keeps_constant keep) (keeps_form keep a s)
  keeps_form keep (globally a) s = keeps_join (facing_of keep Release) ((nodes_to most).constant (not keep)) (form_in most keep a) (keeps_constant (not keep)) (keeps_form keep a s)
  keeps_form keep (conjunction a b) s = keeps_join (facing_of keep And) (form_in most keep a) (form_in most keep b) (keeps_form keep a s.0) (keeps_form keep b s.1)
  keeps_form keep (disjunction a b) s = keeps_join (facing_of keep Or) (form_in most keep a) (form_in most keep b) (keeps_form keep a s.0) (keeps_form keep b s.1)
  keeps_form keep (implication a b) s = keeps_join (facing_of keep Or) (form_in most (not keep) a) (form_in most keep b) (keeps_form (not keep) a s.0) (keeps_form keep b s.1)
  keeps_form keep (equivalence a b) s =
      keeps_join Or ((nodes_to most).join And (form_in most true a) (form_in most keep b)) ((nodes_to most).join And (form_in most false a) (form_in most (not keep) b))
      (keeps_join And (form_in most true a) (form_in most keep b) (keeps_form true a s.0) (keeps_form keep b s.1))
      (keeps_join And (form_in most false a) (form_in most (not keep) b) (keeps_form false a s.0) (keeps_form (not keep) b s.1))
  keeps_form keep (until a b) s = keeps_join (facing_of keep Until) (form_in most keep a) (form_in most keep b) (keeps_form keep a s.0) (keeps_form keep b s.1)
  keeps_form keep (release a b) s = keeps_join (facing_of keep Release) (form_in most keep a) (form_in most keep b) (keeps_form keep a s.0) (keeps_form keep b s.1)
  keeps_form keep (weak_until a b) s =
      keeps_join (facing_of keep Release) (form_in most keep b) ((nodes_to most).join (facing_of keep Or) (form_in most keep a) (form_in most keep b)) (keeps_form keep b s.1)
      (keeps_join (facing_of keep Or) (form_in most keep a) (form_in most keep b) (keeps_form keep a s.0) (keeps_form keep b s.1))

-- a list in which a form of one of its formulas was made has no more signals
pub signals_kept : (most : ℕ) (keep : Bool) (old new : List Node) (f : FormulaId) (r : Result FormulaId AddFault) → IsNodeList old → IsNodeIn old f
    → IfOk r (λ id. form_in most keep (tree_at old f) old ≡ record { nodes = new; made = Some id }) → OnOk r (KeepsSignals old new)
signals_kept most keep old new f (Err fault) list stands ok = tt
signals_kept most keep old new f (Ok id) list stands ok = record {
  kept = λ n h. subst (HasSignalsBelow n) (ap (λ (b : Built). b.nodes) ok) (keeps_form most n keep (tree_at old f) (signals_of_lists_are_kept.of_formulas n old f list h stands) old h);
}
