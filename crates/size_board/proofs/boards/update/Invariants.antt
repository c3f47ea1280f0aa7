use Rattle.size_board.proofs.Updates.{IsUpdated}
use Rattle.size_board.proofs.boards.update.Given as goal

abbrev pub invariant-loop-place : goal.invariant-loop-place
invariant-loop-place l = IsUpdated l.side l.event l.initial.states l.states l.place
