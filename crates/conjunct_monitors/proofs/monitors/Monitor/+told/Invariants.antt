-- Each call has one level less to split on.
use Rattle.conjunct_monitors.proofs.monitors.Monitor.+told.Given as goal

abbrev pub decreases-told : goal.decreases-told
decreases-told l = l.left
