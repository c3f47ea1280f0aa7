use Rattle.machine_model.proofs.Determined.{stays_within}
use Rattle.machine_model.proofs.laws.runs_stay_within.Goals as goal

pub returns : goal.returns
returns c m side w states machine run = stays_within m side w states machine run
