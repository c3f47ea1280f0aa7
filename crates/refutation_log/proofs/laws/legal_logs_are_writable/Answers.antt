use Rattle.refutation_log.proofs.WritableLemmas.{legal-writable}
use Rattle.refutation_log.proofs.laws.legal_logs_are_writable.Goals as goal

pub returns : goal.returns
returns c = record { writable = legal-writable }
