use Rattle.witness_check.proofs.Holding.{Tested}
use Rattle.witness_check.proofs.check.check_first_logs.Given as goal

abbrev pub invariant-loop-place : goal.invariant-loop-place
invariant-loop-place l = Tested l.claim l.logs l.place l.bases
