-- What the code answers, against what comes of the definitions.
use Rattle.std.specs.Prelude.{◌≡◌, List, Some, Result, Ok, Err}
use Rattle.text_limits.specs.declared.Limits.{Limits}
use Rattle.letters_and_lassos.specs.Word.{Word}
use Rattle.ltl_formula.specs.declared.nodes.FormulaId.{FormulaId}
use Rattle.ltl_formula.specs.declared.nodes.Node.{Node}
use Rattle.ltl_formula.specs.Nodes.{IsNodeIn, tree_at}
use Rattle.ltl_formula.specs.Truth.{holds}
use Rattle.spec_faults.specs.declared.code.SpecFault.{SpecFault}
use Rattle.tlsf_values.specs.Outcomes.{Outcome}
use Rattle.tlsf_values.specs.Results.{IsFault}
use Rattle.tlsf_expand.specs.declared.spec.Spec.{Spec}
use Rattle.tlsf_syntax.specs.Text.{Text}
use Rattle.tlsf_expand.specs.Expansion.{Expanded}
use Rattle.tlsf_expand.specs.Meaning.{means}
use Rattle.tlsf_expand.specs.FlatText.{spec_seen, flat_in}

-- the text was expanded to these flat sections, or has this first fault, unless memory was wanted
abbrev pub IsExpansion : Result Spec SpecFault → Outcome Expanded → Type 0
IsExpansion (Ok spec) o = flat_in o ≡ Some (spec_seen spec)
IsExpansion (Err e) o = IsFault o e

-- a flat formula holds on every lasso exactly where the text means so
pub record KeepsMeaning (limits : Limits) (text : Text) (nodes : List Node) (whole : FormulaId) : Type 0 where
  pub stands : IsNodeIn nodes whole
  pub same : (w : Word) → holds w (tree_at nodes whole) 0 ≡ means limits w text
