use Rattle.machine_model.proofs.CountingLemmas.{one_counted}
use Rattle.machine_model.proofs.laws.counting_is_determined.Goals as goal

pub returns : goal.returns
returns c = one_counted
