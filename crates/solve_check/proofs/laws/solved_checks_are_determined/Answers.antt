use Rattle.solve_check.proofs.Determined.{one_line}
use Rattle.solve_check.proofs.Passing.{holding_has_none}
use Rattle.solve_check.proofs.laws.solved_checks_are_determined.Goals as goal

pub returns : goal.returns
returns c = record {
  one_line = λ t bytes n m first other. one_line c.logs_are_determined.ensures t bytes c.solved_are_determined.ensures n m first other;
  holding_has_none = λ t bytes d n states holds first. holding_has_none c.solved_are_determined.ensures c.logs_are_determined.ensures t bytes d states holds n first;
}
