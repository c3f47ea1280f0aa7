use Rattle.batch_answer.proofs.WholeLines.{answers_are_lines}
use Rattle.batch_answer.proofs.laws.answers_are_lines.Goals as goal

pub returns : goal.returns
returns c = answers_are_lines
