use Rattle.refutation_log.proofs.LegalLemmas.{legal_empty, legal_run}
use Rattle.refutation_log.proofs.laws.runs_stay_legal.Goals as goal

pub returns : goal.returns
returns c = record { from_empty = legal_empty; along = legal_run }
