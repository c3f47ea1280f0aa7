use Rattle.machine_model.proofs.StateBits.{AreOred}
use Rattle.machine_model.proofs.reached.StateSet.pass.Given as goal

abbrev pub invariant-loop-place : goal.invariant-loop-place
invariant-loop-place l = AreOred l.place l.other.words l.fn.self.words l.word-items
