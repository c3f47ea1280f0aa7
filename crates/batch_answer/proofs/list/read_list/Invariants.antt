use Rattle.std.proofs.Common.{length}
use Rattle.batch_answer.proofs.ListLemmas.{IsRead}
use Rattle.batch_answer.proofs.list.read_list.Given as goal

abbrev pub invariant-loop-rest : goal.invariant-loop-rest
invariant-loop-rest l = IsRead l.bytes l.names.items l.rest

abbrev pub decreases-loop-rest : goal.decreases-loop-rest
decreases-loop-rest l = length l.rest
