-- The limit on signals, and which of them formulas speak of: this project's profile of TLSF 1.1.
use Rattle.std.specs.Prelude.{◌≡◌, ◌≤◌, ◌+◌, ℕ, List, Option, length}
use Rattle.text_limits.specs.declared.Limits.{Limits}
use Rattle.letters_and_lassos.specs.declared.kinds.Kind.{Kind}
use Rattle.ltl_formula.specs.declared.nodes.Node.{Node}
use Rattle.ltl_formula.specs.ListSignals.{HasSignalsBelow}
use Rattle.tlsf_values.specs.declared.work.Work.{Work}
use Rattle.tlsf_values.specs.Outcomes.{gives}
use Rattle.tlsf_syntax.specs.Text.{Text}
use Rattle.tlsf_expand.specs.Expansion.{Expanded, expanded}

-- there are at most as many inputs as the limits say, at most as many outputs, and at most as many of both together, and a list of formulas speaks of no other signals
pub record HasFewSignals (limits : Limits) (inputs outputs : ℕ) (nodes : List Node) : Type 0 where
  pub few_inputs : inputs ≤ limits.signals
  pub few_outputs : outputs ≤ limits.signals
  pub few_signals : inputs + outputs ≤ limits.all_signals
  pub below : HasSignalsBelow (inputs + outputs) nodes

-- a text that is expanded keeps to the limits, and its formulas speak of its signals alone
abbrev pub ExpansionHasFewSignals : Type 0
ExpansionHasFewSignals = (limits : Limits) (text : Text) (kind : Option Kind) (x : Expanded) (work : Work) → expanded limits text kind ≡ gives x work → HasFewSignals limits (length x.inputs) (length x.outputs) work.formulas
