use Rattle.boundsyn_top.proofs.VerifiedLemmas.{runs_are_verified}
use Rattle.boundsyn_top.proofs.laws.solutions_are_verified.Goals as goal

pub returns : goal.returns
returns c = runs_are_verified c.accepted_are_verified.ensures
