-- When a document of version 6 holds for a text (this project's own; bounded synthesis of Finkbeiner and Schewe).
use Rattle.std.specs.Prelude.{◌≡◌, ℕ, ⊤, true, List, Some, All, length}
use Rattle.letters_and_lassos.specs.declared.kinds.Side.{Side}
use Rattle.letters_and_lassos.specs.declared.kinds.Side.TheVariants.{System, Environment}
use Rattle.aiger_text.specs.Circuit.{Circuit, HasStates}
use Rattle.circuit_names.specs.Names.{HasNames}
use Rattle.named_annotation.specs.Laws.{IsValidNamed}
use Rattle.named_annotation.specs.NamedStates.{Named}
use Rattle.named_annotation.specs.NamedText.{StatesNamed}
use Rattle.size_refutations.specs.Holds.{LogHolds}
use Rattle.solve_ground.specs.declared.texts.SolveText.{SolveText}
use Rattle.solved_text.specs.declared.documents.Verdict.{Verdict}
use Rattle.solved_text.specs.declared.documents.Verdict.TheVariants.{Realizable, Unrealizable, Unknown}
use Rattle.solved_text.specs.Parts.{Document}
use Rattle.solve_check.specs.Given.{form_for, is_taken_so, kind_for, names_in}
use Rattle.solve_check.specs.FirstBad.{may_be_counted}
use Rattle.solve_check.specs.SizeLogs.{ground_for}

-- the annotation is one of the circuit, which plays this side, over what that side keeps from being true, and it is valid
pub record IsAnnotationOf (t : SolveText) (side : Side) (c : Circuit) (annotation : List ℕ) : Type 0 where
  pub named : Named
  pub stated : StatesNamed annotation (length c.latches) (length c.inputs) t.formulas (form_for t side) named
  pub valid : IsValidNamed side c (kind_for t side) named

-- the document has a circuit for this side that reaches n states, with the text's names and a valid annotation, and each of its logs
-- refutes its size
pub record HasCircuit (t : SolveText) (side : Side) (n : ℕ) (d : Document) : Type 0 where
  pub circuit : Circuit
  pub circuit_is : d.circuit ≡ Some circuit
  pub names : HasNames (names_in t) side circuit
  pub counted : may_be_counted n (length circuit.inputs) ≡ true
  pub states : HasStates circuit n
  pub annotation : IsAnnotationOf t side circuit d.annotation
  pub logs : All (LogHolds (ground_for t side)) d.logs

-- what a verdict wants of its document
abbrev pub HasWhatIsSaid : SolveText → Document → Verdict → Type 0
HasWhatIsSaid t d (Realizable n) = HasCircuit t System n d
HasWhatIsSaid t d (Unrealizable n) = HasCircuit t Environment n d
HasWhatIsSaid t d Unknown = ⊤

-- Of a document that is well formed: the text is taken as it says, and it has what its verdict wants.
pub record HoldsSolved (t : SolveText) (d : Document) : Type 0 where
  pub taken : is_taken_so t d.kind d.converted ≡ true
  pub said : HasWhatIsSaid t d d.verdict
