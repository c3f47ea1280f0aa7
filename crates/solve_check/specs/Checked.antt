-- What the test of a document answers (this project's own).
use Rattle.std.specs.Prelude.{◌≡◌, ◌≤◌, ⊤, ℕ, List, Option, length}
use Rattle.text_limits.specs.declared.TheConstants.{LARGE_LIMITS}
use Rattle.letters_and_lassos.specs.declared.kinds.Kind.{Kind}
use Rattle.ltl_formula.specs.NormalForm.{IsNormal}
use Rattle.ltl_formula.specs.Nodes.{IsNodeIn, tree_at}
use Rattle.solve_ground.specs.declared.texts.SolveText.{SolveText}
use Rattle.solved_text.specs.Parts.{Document}
use Rattle.solved_text.specs.States.{States}
use Rattle.solve_check.specs.declared.acceptance.Acceptance.{Acceptance}
use Rattle.solve_check.specs.declared.checking.Checked.{Checked}
use Rattle.solve_check.specs.declared.checking.Checked.TheVariants.{Accepted, BadLine}
use Rattle.solve_check.specs.Accepted.{IsAcceptedSolved}
use Rattle.solve_check.specs.FirstBad.{IsFirstBadSolved}
use Rattle.solve_check.specs.Holds.{HoldsSolved}
use Rattle.solve_check.specs.Line.{acceptance_of}

-- both forms of a text's whole are in normal form
pub record AreNormal (t : SolveText) : Type 0 where
  pub negated : IsNormal (tree_at t.formulas t.negated)
  pub normal : IsNormal (tree_at t.formulas t.normal)

-- both forms of a text's whole stand in its list in normal form, and its signals are few
pub record IsReady (t : SolveText) : Type 0 where
  pub negated : IsNodeIn t.formulas t.negated
  pub normal : IsNodeIn t.formulas t.normal
  pub forms : AreNormal t
  pub few_inputs : length t.inputs.items ≤ LARGE_LIMITS.signals
  pub few_outputs : length t.outputs.items ≤ LARGE_LIMITS.signals

-- the bytes state a document that holds for the text, of which this is told
pub record HoldsAs (t : SolveText) (bytes : List ℕ) (a : Acceptance) : Type 0 where
  pub document : Document
  pub states : States bytes document
  pub holds : HoldsSolved t document
  pub told : a ≡ acceptance_of t document

-- the bytes are a document that is accepted for the text of these bytes, of which this is told
pub record IsAcceptedAs (text : List ℕ) (given : Option Kind) (bytes : List ℕ) (a : Acceptance) : Type 0 where
  pub document : Document
  pub accepted : IsAcceptedSolved text given bytes document
  pub told : a ≡ acceptance_of accepted.known document

-- what is answered of a text that is known
abbrev pub IsCheckedFor : SolveText → List ℕ → Checked → Type 0
IsCheckedFor t bytes (Accepted a) = HoldsAs t bytes a
IsCheckedFor t bytes (BadLine n) = IsFirstBadSolved t bytes n

-- and what that means of the text's bytes
abbrev pub IsMeantOf : List ℕ → Option Kind → List ℕ → Checked → Type 0
IsMeantOf text given bytes (Accepted a) = IsAcceptedAs text given bytes a
IsMeantOf text given bytes (BadLine n) = ⊤
