-- A text that is ready gives its logs something to be tested against.
use Rattle.letters_and_lassos.specs.declared.kinds.Side.{Side}
use Rattle.letters_and_lassos.specs.declared.kinds.Side.TheVariants.{System, Environment}
use Rattle.size_refutations.specs.Parts.{IsSought}
use Rattle.solve_ground.specs.declared.texts.SolveText.{SolveText}
use Rattle.solve_check.specs.Checked.{IsReady}
use Rattle.solve_check.specs.SizeLogs.{ground_for}

pub is_sought : (t : SolveText) (side : Side) → IsReady t → IsSought (ground_for t side)
is_sought t System ready = record { stands = ready.negated; normal = ready.forms.negated; few_inputs = ready.few_inputs; few_outputs = ready.few_outputs }
is_sought t Environment ready = record { stands = ready.normal; normal = ready.forms.normal; few_inputs = ready.few_inputs; few_outputs = ready.few_outputs }
