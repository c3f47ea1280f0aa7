-- The logs of a document of version 6 against its text (this project's own).
use Rattle.std.specs.Prelude.{ℕ, Option, Some, None, List, [], ◌∷◌, length}
use Rattle.letters_and_lassos.specs.declared.kinds.Side.{Side}
use Rattle.size_refutations.specs.FirstBad.{LogFails}
use Rattle.size_refutations.specs.Ground.{LogGround}
use Rattle.solve_ground.specs.declared.texts.SolveText.{SolveText}
use Rattle.solved_text.specs.Parts.{SizeLog}
use Rattle.solve_check.specs.Given.{form_for, kind_for}

-- what a side's logs are tested against: what the side keeps from being true, in the text's list, and the machines of the side
abbrev pub ground_for : SolveText → Side → LogGround
ground_for t side = record {
  nodes = t.formulas;
  form = form_for t side;
  side = side;
  kind = kind_for t side;
  inputs = length t.inputs.items;
  outputs = length t.outputs.items;
}

-- the line at which the first log that fails does so
pub data LogsFail (g : LogGround) : List SizeLog → Option ℕ → Type 0 where
  none_fails : LogsFail g [] None
  one_fails : (l : SizeLog) (logs : List SizeLog) (n : ℕ) → LogFails g l (Some n) → LogsFail g (l ∷ logs) (Some n)
  one_good : (l : SizeLog) (logs : List SizeLog) (first : Option ℕ) → LogFails g l None → LogsFail g logs first
      → LogsFail g (l ∷ logs) first
