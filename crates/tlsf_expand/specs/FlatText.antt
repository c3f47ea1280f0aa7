-- The code's flat sections as the definitions see them.
use Rattle.std.specs.Prelude.{List, Option, None, Some}
use Rattle.ltl_formula.specs.declared.nodes.Node.{Node}
use Rattle.tlsf_syntax.specs.Text.{section_lists}
use Rattle.tlsf_values.specs.Outcomes.{Outcome, gives, fails}
use Rattle.tlsf_expand.specs.declared.spec.Spec.{Spec}
use Rattle.tlsf_expand.specs.Expansion.{Expanded}

-- the flat sections of a text, with the list that their formulas stand in
pub record FlatText : Type 0 where
  pub expanded : Expanded
  pub formulas : List Node

abbrev pub spec_seen : Spec → FlatText
spec_seen s = record {
  expanded = record {
    inputs = s.inputs.items;
    outputs = s.outputs.items;
    kind = s.kind;
    strict = s.strict;
    sections = section_lists s.sections;
    whole = s.whole;
  };
  formulas = s.formulas;
}

abbrev pub flat_in : Outcome Expanded → Option FlatText
flat_in (gives x w) = Some (record { expanded = x; formulas = w.formulas })
flat_in (fails code place) = None
