use Rattle.unrealizable_core.proofs.Needed.{kept_are_needed}
use Rattle.unrealizable_core.proofs.laws.kept_are_needed.Goals as goal

pub returns : goal.returns
returns c = kept_are_needed
