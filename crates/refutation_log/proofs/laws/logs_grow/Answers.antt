use Rattle.refutation_log.proofs.LegalLemmas.{legal_grows}
use Rattle.refutation_log.proofs.TeachLemmas.{taught-push}
use Rattle.refutation_log.proofs.laws.logs_grow.Goals as goal

pub returns : goal.returns
returns c = record { legal = legal_grows; taught = taught-push }
