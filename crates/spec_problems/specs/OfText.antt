-- The problems of both sides of a text, or its first fault of all: this project's profile of TLSF 1.1 and its order of refusals, in
-- which the faults of normal forms and automata come last.
use Rattle.std.specs.Prelude.{◌≡◌, ℕ, List, Option, length}
use Rattle.text_limits.specs.declared.TheConstants.{SMALL_LIMITS}
use Rattle.letters_and_lassos.specs.declared.kinds.Kind.{Kind}
use Rattle.ltl_formula.specs.declared.nodes.FormulaId.{FormulaId}
use Rattle.ltl_formula.specs.declared.nodes.Node.{Node}
use Rattle.ltl_formula.specs.Nodes.{tree_at}
use Rattle.machine_model.specs.declared.counting.Counts.{Counts}
use Rattle.spec_faults.specs.declared.code.SpecCode.{SpecCode}
use Rattle.tlsf_syntax.specs.Text.{Text}
use Rattle.tlsf_reader.specs.Reads.{Reads}
use Rattle.tlsf_expand.specs.Expansion.{Expanded}
use Rattle.tlsf_expand.specs.Results.{KeepsMeaning}
use Rattle.tlsf_expand.specs.FlatText.{FlatText}
use Rattle.flat_text.specs.FlatOf.{IsFlatFault, IsFlatOf}
use Rattle.spec_problems.specs.declared.sides.Interface.{Interface}
use Rattle.spec_problems.specs.declared.sides.SideProblems.{SideProblems}
use Rattle.spec_problems.specs.OfFormula.{AreProblemsIn, IsFormFault}

-- what both problems of a text share
abbrev pub interface_of : Counts → Expanded → Interface
interface_of counts x = record { inputs = length x.inputs; outputs = length x.outputs; kind = x.kind; counts = counts }

-- The text is this one, flat, in whose list the normal forms of the whole stand too, and these are the problems of the whole. A kind
-- that is given stands for those that the text names.
pub record AreProblemsOf (text : List ℕ) (kind : Option Kind) (counts : Counts) (spec : FlatText) (s : SideProblems) : Type 0 where
  pub flat : FlatText
  pub is_flat : IsFlatOf SMALL_LIMITS text kind flat
  pub same : spec.expanded ≡ flat.expanded
  pub problems : AreProblemsIn (interface_of counts flat.expanded) (tree_at flat.formulas flat.expanded.whole) flat.formulas spec.formulas s

-- the text's first fault: that of reading or expansion, and where it has a flat text, that of normal forms and automata
pub data IsFirstFault (text : List ℕ) (kind : Option Kind) : SpecCode → ℕ → Type 0 where
  of_text : (code : SpecCode) (place : ℕ) → IsFlatFault SMALL_LIMITS text kind code place → IsFirstFault text kind code place
  of_problems : (flat : FlatText) (code : SpecCode) (place : ℕ) → IsFlatOf SMALL_LIMITS text kind flat
      → IsFormFault (tree_at flat.formulas flat.expanded.whole) flat.formulas code place → IsFirstFault text kind code place

-- the text has a tree, and a formula of a list holds on a lasso exactly where the tree means so
pub record SaysWhat (text : List ℕ) (nodes : List Node) (whole : FormulaId) : Type 0 where
  pub tree : Text
  pub read : Reads text tree
  pub meaning : KeepsMeaning SMALL_LIMITS tree nodes whole
