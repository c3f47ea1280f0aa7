use Rattle.std.proofs.Common.{◌*◌}
use Rattle.size_board.proofs.Firsts.{IsSearched}
use Rattle.size_board.proofs.boards.Board.first_open.Given as goal

abbrev pub invariant-loop-size : goal.invariant-loop-size
invariant-loop-size g l = IsSearched g.P.ProblemNames.named l.self (2 * l.size) l.first
