use Rattle.refutation_log.proofs.FollowsLemmas.{Follows-implied}
use Rattle.refutation_log.proofs.LegalLemmas.{legal_meets, closed_refutes}
use Rattle.refutation_log.proofs.laws.logs_are_sound.Goals as goal

pub returns : goal.returns
returns c = record { implied = Follows-implied; legal = legal_meets; closed = closed_refutes }
