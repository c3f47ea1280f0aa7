use Rattle.tlsf_syntax.proofs.Climbs.{rows}
use Rattle.tlsf_syntax.proofs.laws.rows_derive.Goals as goal

pub returns : goal.returns
returns c = rows
