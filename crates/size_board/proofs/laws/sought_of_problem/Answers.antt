use Rattle.size_board.proofs.LawProofs.{sought_of_problem}
use Rattle.size_board.proofs.laws.sought_of_problem.Goals as goal

pub returns : goal.returns
returns c p m = sought_of_problem p m
