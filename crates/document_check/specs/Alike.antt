-- What the test of documents sees of a text (this project's own): its names, and of each side the automaton and the signals. The problems'
-- kinds and sizes, and what their numbers count, are the document's.
use Rattle.std.specs.Prelude.{◌≡◌, ℕ, Option, Some, None}
use Rattle.letters_and_lassos.specs.declared.kinds.Side.{Side}
use Rattle.machine_model.specs.Automaton.{AutomatonModel}
use Rattle.machine_model.specs.Problem.{automaton_of}
use Rattle.machine_model.specs.declared.problems.Problem.{Problem}
use Rattle.document_check.specs.Facts.{Facts}

pub record Shape : Type 0 where
  pub automaton : AutomatonModel
  pub inputs : ℕ
  pub outputs : ℕ
  pub side : Side

abbrev pub shape_of : Problem → Shape
shape_of p = record { automaton = automaton_of p; inputs = p.inputs; outputs = p.outputs; side = p.side }

abbrev pub AreSameShapes : Option Problem → Option Problem → Type 0
AreSameShapes None None = Unit {0}
AreSameShapes (Some p) (Some q) = shape_of p ≡ shape_of q
AreSameShapes None (Some q) = ⊥
AreSameShapes (Some p) None = ⊥

-- two texts of which it sees the same
pub record AreAlike (facts other : Facts) : Type 0 where
  pub inputs : facts.inputs ≡ other.inputs
  pub outputs : facts.outputs ≡ other.outputs
  pub system : shape_of facts.system ≡ shape_of other.system
  pub environment : AreSameShapes facts.environment other.environment
