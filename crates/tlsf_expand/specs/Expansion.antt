-- A whole text expanded: its flat sections with the formula of the whole, or its first fault of those that come after reading and
-- before normal forms, within the limits that are handed in. This project's profile of TLSF 1.1.
use Rattle.std.specs.Prelude.{ℕ, Bool, List, Option, None, Some}
use Rattle.text_limits.specs.declared.Limits.{Limits}
use Rattle.letters_and_lassos.specs.declared.kinds.Kind.{Kind}
use Rattle.letters_and_lassos.specs.declared.kinds.Kind.TheVariants.{Mealy, Moore}
use Rattle.ltl_formula.specs.declared.nodes.FormulaId.{FormulaId}
use Rattle.spec_faults.specs.declared.code.SpecCode.{SpecCode}
use Rattle.spec_faults.specs.declared.code.SpecCode.TheVariants.{TargetDiffers}
use Rattle.tlsf_values.specs.Outcomes.{Outcome, gives, fails, go_on}
use Rattle.tlsf_syntax.specs.declared.sections.Sections.{Sections}
use Rattle.tlsf_syntax.specs.Text.{Text}
use Rattle.tlsf_expand.specs.Signals.{signals_of}
use Rattle.tlsf_expand.specs.Sections.{sections_value, whole_value}

pub record Expanded : Type 0 where
  pub inputs : List (List ℕ)
  pub outputs : List (List ℕ)
  pub kind : Kind
  pub strict : Bool
  pub sections : Sections (List FormulaId)
  pub whole : FormulaId

abbrev pub common_kind : Kind → Kind → Option Kind
common_kind Mealy Mealy = Some Mealy
common_kind Moore Moore = Some Moore
common_kind _ _ = None

-- a kind that is given stands for SEMANTICS' and TARGET's; without it these must be one
abbrev pub kind_of : Option Kind → Text → Option Kind
kind_of (Some kind) text = Some kind
kind_of None text = common_kind text.info.semantics text.info.target

abbrev pub expanded_as : Limits → Option Kind → Text → Outcome Expanded
expanded_as limits None text = fails TargetDiffers text.info.target_at
expanded_as limits (Some kind) text =
    go_on (signals_of limits text) (λ signals w. go_on (sections_value signals text.sections w) (λ sections w. go_on (whole_value text.info.strict sections w) (λ whole w.
    gives (record { inputs = signals.inputs; outputs = signals.outputs; kind = kind; strict = text.info.strict; sections = sections; whole = whole }) w)))

-- the work after it has the list of all nodes, and the evaluations done
abbrev pub expanded : Limits → Text → Option Kind → Outcome Expanded
expanded limits text kind = expanded_as limits (kind_of kind text) text

pub record Fault : Type 0 where
  pub code : SpecCode
  pub place : ℕ

abbrev pub fault_in : {A : Type 0} → Outcome A → Option Fault
fault_in (gives a w) = None
fault_in (fails code place) = Some (record { code = code; place = place })

-- the first fault of a text that was read, without those of normal forms and automata
abbrev pub flat_fault : Limits → Text → Option Kind → Option Fault
flat_fault limits text kind = fault_in (expanded limits text kind)
