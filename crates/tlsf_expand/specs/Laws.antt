-- Laws of expansion.
use Rattle.std.specs.Prelude.{◌≡◌, Option}
use Rattle.text_limits.specs.declared.Limits.{Limits}
use Rattle.letters_and_lassos.specs.declared.kinds.Kind.{Kind}
use Rattle.letters_and_lassos.specs.Word.{Word}
use Rattle.ltl_formula.specs.Nodes.{IsNodeList, IsNodeIn, tree_at}
use Rattle.ltl_formula.specs.Truth.{holds}
use Rattle.tlsf_values.specs.declared.work.Work.{Work}
use Rattle.tlsf_values.specs.Outcomes.{gives}
use Rattle.tlsf_syntax.specs.Text.{Text}
use Rattle.tlsf_expand.specs.Expansion.{Expanded, expanded}
use Rattle.tlsf_expand.specs.Meaning.{means}

-- where a text is expanded, the whole flat formula holds on a lasso exactly where the text means so
pub record ExpansionKeepsMeaning : Type 0 where
  pub stands : (limits : Limits) (text : Text) (kind : Option Kind) (x : Expanded) (work : Work) → expanded limits text kind ≡ gives x work → IsNodeIn work.formulas x.whole
  pub list : (limits : Limits) (text : Text) (kind : Option Kind) (x : Expanded) (work : Work) → expanded limits text kind ≡ gives x work → IsNodeList work.formulas
  pub meaning : (limits : Limits) (text : Text) (kind : Option Kind) (x : Expanded) (work : Work) → expanded limits text kind ≡ gives x work
      → (w : Word) → holds w (tree_at work.formulas x.whole) 0 ≡ means limits w text
