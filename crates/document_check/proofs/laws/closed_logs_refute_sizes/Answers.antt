use Rattle.document_check.proofs.RefuteLemmas.{closed_logs_refute_sizes}
use Rattle.document_check.proofs.laws.closed_logs_refute_sizes.Goals as goal

pub returns : goal.returns
returns c = closed_logs_refute_sizes c.closed_logs_refute.ensures
