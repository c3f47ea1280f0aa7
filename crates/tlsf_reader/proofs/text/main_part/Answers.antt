use Rattle.tlsf_reader.proofs.Descending.{read_stop, read_go, read_expected, read_unexpected}
use Rattle.tlsf_reader.proofs.Climbing.{read_exit}
use Rattle.tlsf_reader.proofs.text.main_part.Goals as goal

pub returns-in_err-parts : goal.returns-in_err-parts
returns-in_err-parts c = read_exit _ c.from_residual-in_err-parts.ensures.1 (read_expected _ c.in_ok-expect.ensures.next (read_expected _ c.in_ok-expect-2.ensures.next (read_stop _ c.in_err-parts.ensures.read)))

pub returns-in_err-expect-3 : goal.returns-in_err-expect-3
returns-in_err-expect-3 c =
    read_exit _ c.from_residual-in_err-expect-3.ensures.1
    (read_expected _ c.in_ok-expect.ensures.next (read_expected _ c.in_ok-expect-2.ensures.next (read_go _ c.in_ok-parts.ensures.read (read_unexpected _ c.in_err-expect-3.ensures.next))))
