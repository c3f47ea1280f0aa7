use Rattle.tlsf_reader.proofs.Descending.{read_stop, read_expected}
use Rattle.tlsf_reader.proofs.Climbing.{read_exit}
use Rattle.tlsf_reader.proofs.definition.enumeration.Goals as goal

pub returns-in_err-members-clause-read : goal.returns-in_err-members-clause-read
returns-in_err-members-clause-read c =
    read_exit _ c.from_residual-in_err-members.ensures.1 (read_expected _ c.in_ok-name.ensures.next (read_expected _ c.in_ok-expect.ensures.next (read_stop _ c.in_err-members.ensures.read)))
