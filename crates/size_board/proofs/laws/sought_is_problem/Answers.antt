use Rattle.size_board.proofs.LawProofs.{sought_is_problem}
use Rattle.size_board.proofs.laws.sought_is_problem.Goals as goal

pub returns : goal.returns
returns c = sought_is_problem
