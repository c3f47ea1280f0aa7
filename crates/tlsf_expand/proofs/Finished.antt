-- What the steps of the call make of a text: its expansion, or the fault of the first step that has one.
use Rattle.std.proofs.Common.{◌≡◌, List, Option, Some, length, ap, ◌∙◌}
use Rattle.text_limits.specs.declared.Limits.{Limits}
use Rattle.letters_and_lassos.specs.declared.kinds.Kind.{Kind}
use Rattle.ltl_formula.specs.declared.nodes.FormulaId.{FormulaId}
use Rattle.spec_faults.specs.declared.code.SpecFault.{SpecFault}
use Rattle.spec_faults.specs.declared.code.SpecFault.TheVariants.{NoMemory, At}
use Rattle.tlsf_syntax.specs.declared.sections.Sections.{Sections}
use Rattle.tlsf_syntax.specs.Text.{Text}
use Rattle.tlsf_values.specs.declared.work.Work.{Work}
use Rattle.tlsf_values.specs.Outcomes.{Outcome, gives, go_on}
use Rattle.tlsf_values.specs.Results.{IsFault}
use Rattle.tlsf_expand.specs.Expansion.{Expanded, kind_of, expanded_as, expanded}
use Rattle.tlsf_expand.specs.FewSignals.{HasFewSignals}
use Rattle.tlsf_expand.specs.Results.{KeepsMeaning}
use Rattle.tlsf_expand.specs.Sections.{sections_value, whole_value}
use Rattle.tlsf_expand.specs.Signals.{Signals, signals_of}
use Rattle.tlsf_expand.proofs.Expanded.{expansion_has_few_signals, expansion_keeps_meaning}

module _ (limits : Limits) (text : Text) (asked : Option Kind) (kind : Kind) (signals : Signals) (w1 : Work) (kind_is : kind_of asked text ≡ Some kind) (signals_are : signals_of limits text ≡ gives signals w1) where
  abbrev finished : Sections (List FormulaId) → FormulaId → Expanded
  finished sections whole = record { inputs = signals.inputs; outputs = signals.outputs; kind = kind; strict = text.info.strict; sections = sections; whole = whole }

  abbrev after_sections : Sections (List FormulaId) → Work → Outcome Expanded
  after_sections sections w = go_on (whole_value text.info.strict sections w) (λ whole w. gives (finished sections whole) w)

  from_sections : expanded limits text asked ≡ go_on (sections_value signals text.sections w1) after_sections
  from_sections =
      ap (λ o. expanded_as limits o text) kind_is
      ∙ ap (λ o. go_on o (λ signals w. go_on (sections_value signals text.sections w) (λ sections w. go_on (whole_value text.info.strict sections w) (λ whole w.
      gives (record { inputs = signals.inputs; outputs = signals.outputs; kind = kind; strict = text.info.strict; sections = sections; whole = whole }) w)))) signals_are

  pub sections_fault : (e : SpecFault) → IsFault (sections_value signals text.sections w1) e → IsFault (expanded limits text asked) e
  sections_fault NoMemory h = tt
  sections_fault (At code place) h = from_sections ∙ ap (λ o. go_on o after_sections) h

  module _ (sections : Sections (List FormulaId)) (w2 : Work) (sections_are : sections_value signals text.sections w1 ≡ gives sections w2) where
    from_whole : expanded limits text asked ≡ after_sections sections w2
    from_whole = from_sections ∙ ap (λ o. go_on o after_sections) sections_are

    pub whole_fault : (e : SpecFault) → IsFault (whole_value text.info.strict sections w2) e → IsFault (expanded limits text asked) e
    whole_fault NoMemory h = tt
    whole_fault (At code place) h = from_whole ∙ ap (λ o. go_on o (λ whole w. gives (finished sections whole) w)) h

    module _ (whole : FormulaId) (w3 : Work) (whole_is : whole_value text.info.strict sections w2 ≡ gives whole w3) where
      is_expanded : expanded limits text asked ≡ gives (finished sections whole) w3
      is_expanded = from_whole ∙ ap (λ o. go_on o (λ whole w. gives (finished sections whole) w)) whole_is

      pub meaning_kept : KeepsMeaning limits text w3.formulas whole
      meaning_kept = record {
        stands = expansion_keeps_meaning.stands limits text asked (finished sections whole) w3 is_expanded;
        same = λ w. expansion_keeps_meaning.meaning limits text asked (finished sections whole) w3 is_expanded w;
      }

      pub few_signals : HasFewSignals limits (length signals.inputs) (length signals.outputs) w3.formulas
      few_signals = expansion_has_few_signals limits text asked (finished sections whole) w3 is_expanded
