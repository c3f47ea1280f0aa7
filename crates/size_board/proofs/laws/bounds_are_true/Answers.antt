use Rattle.size_board.proofs.LawProofs.{bounds_are_true}
use Rattle.size_board.proofs.laws.bounds_are_true.Goals as goal

pub returns : goal.returns
returns c names b side low sound least = bounds_are_true names b side low sound least
