use Rattle.std.proofs.Common.{◌≡◌, List, ◌++◌, vec_len}
use Rattle.clause_exchange.specs.SharedLog.{PassView}
use Rattle.clause_exchange.specs.Opening.{IsGathered}
use Rattle.clause_exchange.proofs.exchange.gather.Given as goal

abbrev pub invariant-loop-pass : goal.invariant-loop-pass
invariant-loop-pass l = (done : List PassView) × (l.fn.passes.items ≡ l.passes.items ++ done) × IsGathered l.words.table_id l.place done

abbrev pub decreases-loop-pass : goal.decreases-loop-pass
decreases-loop-pass l = vec_len l.passes
