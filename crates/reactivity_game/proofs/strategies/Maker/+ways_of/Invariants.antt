-- Each call has one level less to split on.
use Rattle.reactivity_game.proofs.strategies.Maker.+ways_of.Given as goal

abbrev pub decreases-ways_of : goal.decreases-ways_of
decreases-ways_of l = l.left
