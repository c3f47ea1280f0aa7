use Rattle.std.proofs.Common.{ap}
use Rattle.solved_text.specs.Reading.{SolvedLines}
use Rattle.check_answer.proofs.solved.header_of.Goals as goal

pub returns : goal.returns
returns c = record {
  lines = c.in_ok-lines.lines;
  reads = c.in_ok-lines.ensures.reads;
  is = ap (λ (l : SolvedLines). l.header) c.lines.view_is;
}
