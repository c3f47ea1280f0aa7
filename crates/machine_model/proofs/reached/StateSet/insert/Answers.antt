use Rattle.std.proofs.Common.{arith}
use Rattle.machine_model.proofs.StateBits.{inserted}
use Rattle.machine_model.proofs.reached.StateSet.insert.Goals as goal

pub returns : goal.returns
returns c = inserted c.args.self.now.words c.args.q (omega arith)
