use Rattle.machine_model.proofs.Classes.{joined_paths, paths_joined}
use Rattle.machine_model.proofs.laws.joined_is_reached.Goals as goal

pub returns : goal.returns
returns c = λ a q r whole hq hr. (joined_paths a q r, paths_joined a q r whole hq hr)
