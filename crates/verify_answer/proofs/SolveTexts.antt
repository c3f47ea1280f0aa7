-- Texts as `solve` takes them that are the same want the same of circuits.
use Rattle.std.proofs.Common.{◌≡◌}
use Rattle.letters_and_lassos.specs.declared.kinds.Side.{Side}
use Rattle.letters_and_lassos.specs.declared.kinds.Side.TheVariants.{System, Environment}
use Rattle.letters_and_lassos.specs.Kinds.{other_kind}
use Rattle.solve_ground.specs.declared.texts.SolveText.{SolveText}
use Rattle.solve_ground.specs.Laws.{IsSameText}
use Rattle.verify_answer.specs.Answer.{owed_to}

pub owed_same : (t t' : SolveText) → IsSameText t t' → (side : Side) → owed_to t side ≡ owed_to t' side
owed_same t t' same System = λ i. record {
  names = record { inputs = same.inputs i; outputs = same.outputs i };
  side = System;
  kind = same.kind i;
  nodes = (same.forms i).nodes;
  form = (same.forms i).negated;
}
owed_same t t' same Environment = λ i. record {
  names = record { inputs = same.outputs i; outputs = same.inputs i };
  side = Environment;
  kind = other_kind (same.kind i);
  nodes = (same.forms i).nodes;
  form = (same.forms i).normal;
}
