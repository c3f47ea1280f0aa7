-- What an answer stands on: what is wanted, and a formula that says it. For a text these are what the text means and its flat whole
-- (this project's own).
use Rattle.std.specs.Prelude.{◌≡◌, ℕ, Bool, List, Option, length}
use Rattle.text_limits.specs.declared.TheConstants.{SMALL_LIMITS}
use Rattle.letters_and_lassos.specs.declared.kinds.Kind.{Kind}
use Rattle.letters_and_lassos.specs.Word.{Word}
use Rattle.ltl_formula.specs.declared.nodes.FormulaId.{FormulaId}
use Rattle.ltl_formula.specs.declared.nodes.Node.{Node}
use Rattle.ltl_formula.specs.Nodes.{tree_at}
use Rattle.ltl_formula.specs.Tree.{Tree}
use Rattle.tlsf_syntax.specs.Text.{Text}
use Rattle.tlsf_reader.specs.Reads.{Reads}
use Rattle.tlsf_expand.specs.Expansion.{Expanded}
use Rattle.tlsf_expand.specs.Meaning.{means}
use Rattle.tlsf_expand.specs.FlatText.{FlatText}
use Rattle.flat_text.specs.FlatOf.{IsFlatOf}
use Rattle.machine_model.specs.declared.counting.Counts.{Counts}
use Rattle.spec_problems.specs.declared.sides.Interface.{Interface}
use Rattle.spec_problems.specs.declared.sides.SideProblems.{SideProblems}
use Rattle.spec_problems.specs.OfFormula.{AcceptBySide, AreProblemsIn}
use Rattle.satisfaction.specs.Wanted.{Says, Wanted}
use Rattle.document_check.specs.Facts.{Facts}

pub record Ground : Type 0 where
  pub wanted : Wanted
  -- the list in which the formula of the whole stands, before its normal forms
  pub formulas : List Node
  pub whole : FormulaId

abbrev pub formula_on : Ground → Tree
formula_on g = tree_at g.formulas g.whole

-- what both problems share, whose numbers count so
abbrev pub interface_on : Counts → Ground → Interface
interface_on counts g = record { inputs = length g.wanted.inputs; outputs = length g.wanted.outputs; kind = g.wanted.kind; counts = counts }

-- these are the problems of both sides; the later list has the normal forms too
abbrev pub AreProblemsOn : Counts → Ground → List Node → SideProblems → Type 0
AreProblemsOn counts g later s = AreProblemsIn (interface_on counts g) (formula_on g) g.formulas later s

-- what a document is checked against
abbrev pub facts_on : Ground → SideProblems → Facts
facts_on g s = record {
  inputs = g.wanted.inputs;
  outputs = g.wanted.outputs;
  system = s.system;
  environment = s.environment;
}

-- the names and the kind of a flat text, with what is true on which lassos, and a formula in a list
abbrev pub ground_with : Expanded → (Word → Bool) → List Node → FormulaId → Ground
ground_with x truth nodes id = record {
  wanted = record { inputs = x.inputs; outputs = x.outputs; kind = x.kind; means = truth };
  formulas = nodes;
  whole = id;
}

-- the problems are those of the ground, whose numbers count so, and their automata accept by what is wanted
pub record AreGivenOn (counts : Counts) (g : Ground) (s : SideProblems) : Type 0 where
  pub later : List Node
  pub are_problems : AreProblemsOn counts g later s
  pub formula : Tree
  pub accept : AcceptBySide formula s
  pub says : Says formula g.wanted

-- == the ground of a text ==

-- what a flat text and its problems give to the tests of documents and of circuits
abbrev pub given_by : FlatText → SideProblems → Facts
given_by spec problems = record {
  inputs = spec.expanded.inputs;
  outputs = spec.expanded.outputs;
  system = problems.system;
  environment = problems.environment;
}

-- What a text wants: the names of its signals and its kind are those of its flat form, and on a lasso the text's written tree says
-- what is true. A kind that is given stands for those that the text names.
pub record IsWantedBy (text : List ℕ) (kind : Option Kind) (x : Wanted) : Type 0 where
  pub flat : FlatText
  pub is_flat : IsFlatOf SMALL_LIMITS text kind flat
  pub inputs : x.inputs ≡ flat.expanded.inputs
  pub outputs : x.outputs ≡ flat.expanded.outputs
  pub kind_is : x.kind ≡ flat.expanded.kind
  pub tree : Text
  pub read : Reads text tree
  pub meaning : (w : Word) → x.means w ≡ means SMALL_LIMITS w tree

-- its flat whole says it, in the list that evaluation leaves
pub record IsGroundOf (text : List ℕ) (kind : Option Kind) (g : Ground) : Type 0 where
  pub is_wanted : IsWantedBy text kind g.wanted
  pub formulas : g.formulas ≡ is_wanted.flat.formulas
  pub whole : g.whole ≡ is_wanted.flat.expanded.whole
