-- Laws of annotations over named states.
use Rattle.std.specs.Prelude.{◌≡◌, ℕ, false, List}
use Rattle.letters_and_lassos.specs.declared.kinds.Kind.{Kind}
use Rattle.letters_and_lassos.specs.declared.kinds.Side.{Side}
use Rattle.letters_and_lassos.specs.Word.{Word}
use Rattle.ltl_formula.specs.declared.nodes.FormulaId.{FormulaId}
use Rattle.ltl_formula.specs.declared.nodes.Node.{Node}
use Rattle.ltl_formula.specs.Nodes.{IsNodeList, IsNodeIn, tree_at}
use Rattle.ltl_formula.specs.NormalForm.{IsNormal}
use Rattle.ltl_formula.specs.Truth.{holds}
use Rattle.aiger_text.specs.Circuit.{Circuit, Valuation, IsCircuitRun}
use Rattle.annot_check.specs.declared.faults.AnnotFault.{AnnotFault}
use Rattle.annot_check.specs.Causes.{IsCause}
use Rattle.annot_check.specs.Valid.{IsValidPairList}
use Rattle.named_annotation.specs.NamedStates.{Named}
use Rattle.named_annotation.specs.NamedText.{IsFirstBadNamedLine, StatesNamed}

-- the pairs are a valid list for the circuit, which plays the side and is of the kind, and for the automaton of the named states
abbrev pub IsValidNamed : Side → Circuit → Kind → Named → Type 0
IsValidNamed side c kind named = IsValidPairList side c kind named.automaton named.list.pairs

-- why an annotation isn't valid: of the causes the first that applies
abbrev pub IsNamedCause : Side → Circuit → Kind → Named → AnnotFault → Type 0
IsNamedCause side c kind named fault = IsCause side c kind named.automaton named.list.pairs fault

-- the formula is true on no run lasso of the circuit, which plays the side
pub record IsNeverTrue (side : Side) (c : Circuit) (ns : List Node) (f : FormulaId) : Type 0 where
  pub never : (w : Word) (values : ℕ → Valuation) → IsCircuitRun side c w values → holds w (tree_at ns f) 0 ≡ false

-- where a valid annotation over named states of a formula in normal form is stated, the formula is true on no run lasso of the circuit
abbrev pub ValidNamedListsShow : Type 0
ValidNamedListsShow =
    (side : Side) (c : Circuit) (kind : Kind) (ns : List Node) (f : FormulaId) (bytes : List ℕ) (latches inputs : ℕ) (named : Named)
    → IsNodeList ns → IsNodeIn ns f → IsNormal (tree_at ns f) → StatesNamed bytes latches inputs ns f named → IsValidNamed side c kind named
    → IsNeverTrue side c ns f

-- a text states at most one annotation over named states, has at most one first bad line, and not both
pub record NamedReadingsAreApart : Type 0 where
  pub one : (bytes : List ℕ) (latches inputs : ℕ) (ns : List Node) (f : FormulaId) (p q : Named) → StatesNamed bytes latches inputs ns f p
      → StatesNamed bytes latches inputs ns f q → p ≡ q
  pub one_line : (bytes : List ℕ) (latches inputs : ℕ) (ns : List Node) (f : FormulaId) (m n : ℕ) → IsFirstBadNamedLine bytes latches inputs ns f m
      → IsFirstBadNamedLine bytes latches inputs ns f n → m ≡ n
  pub apart : (bytes : List ℕ) (latches inputs : ℕ) (ns : List Node) (f : FormulaId) (p : Named) (n : ℕ) → StatesNamed bytes latches inputs ns f p
      → IsFirstBadNamedLine bytes latches inputs ns f n → ⊥
