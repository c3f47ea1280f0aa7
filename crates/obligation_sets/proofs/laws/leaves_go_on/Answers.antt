use Rattle.obligation_sets.proofs.Walks.{leaves_of-step}
use Rattle.obligation_sets.proofs.laws.leaves_go_on.Goals as goal

pub returns : goal.returns
returns c = λ ns b list places. leaves_of-step ns list b places
