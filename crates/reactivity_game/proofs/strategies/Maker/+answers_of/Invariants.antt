-- Each call has one level less to split on.
use Rattle.reactivity_game.proofs.strategies.Maker.+answers_of.Given as goal

abbrev pub decreases-answers_of : goal.decreases-answers_of
decreases-answers_of l = l.left
