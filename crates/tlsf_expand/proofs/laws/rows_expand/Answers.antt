use Rattle.tlsf_expand.proofs.RowProofs.{rows}
use Rattle.tlsf_expand.proofs.laws.rows_expand.Goals as goal

pub returns : goal.returns
returns c = rows
