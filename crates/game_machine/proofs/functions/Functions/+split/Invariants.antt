-- Each call has one variable less to split on.
use Rattle.game_machine.proofs.functions.Functions.+split.Given as goal

abbrev pub decreases-split : goal.decreases-split
decreases-split l = l.left
