use Rattle.std.proofs.Common.{◌≡◌, ℕ, ◌<◌, get_or, true}
use Rattle.size_board.specs.States.{fresh}
use Rattle.size_board.proofs.boards.refuted_len.Given as goal

abbrev pub invariant-loop-place : goal.invariant-loop-place
invariant-loop-place l = (k : ℕ) → k < l.place → (get_or l.states k fresh).is_refuted ≡ true
