use Rattle.verify_laws.proofs.Verified.{accepted_are_verified as law}
use Rattle.verify_laws.proofs.laws.accepted_are_verified.Goals as goal

pub returns : goal.returns
returns c = law c.verifications_are_determined.ensures c.environments_are_determined.ensures
