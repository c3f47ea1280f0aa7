use Rattle.std.proofs.Common.{refl}
use Rattle.machine_model.proofs.StateBits.{from_none}
use Rattle.machine_model.proofs.reached.StateSet.of.Goals as goal

pub returns : goal.returns
returns c = from_none c.args.q _ c.insert.new.self.words refl c.insert.ensures
