use Rattle.tlsf_values.proofs.RowProofs.{rows}
use Rattle.tlsf_values.proofs.laws.rows_evaluate.Goals as goal

pub returns : goal.returns
returns c = rows
