use Rattle.machine_model.proofs.Determined.{moore_writes_before_reading}
use Rattle.machine_model.proofs.laws.moore_writes_before_reading.Goals as goal

pub returns : goal.returns
returns c = moore_writes_before_reading
