-- Each call has one level less to split on.
use Rattle.conjunct_monitors.proofs.expansions.Expansions.+join.Given as goal

abbrev pub decreases-join : goal.decreases-join
decreases-join l = l.left
