use Rattle.tlsf_reader.proofs.Descending.{read_stop, read_go, read_unexpected}
use Rattle.tlsf_reader.proofs.Climbing.{read_exit}
use Rattle.tlsf_reader.proofs.section.formula.Goals as goal

pub returns-in_err-formula-clause-read : goal.returns-in_err-formula-clause-read
returns-in_err-formula-clause-read c = read_exit _ c.from_residual.ensures.1 (read_stop _ c.in_err-formula.ensures.read)

pub returns-in_err-expect-clause-read : goal.returns-in_err-expect-clause-read
returns-in_err-expect-clause-read c = read_exit _ c.from_residual-in_err-expect.ensures.1 (read_go _ c.in_ok-formula.ensures.read (read_unexpected _ c.in_err-expect.ensures.next))
