use Rattle.std.proofs.Common.{ap}
use Rattle.tlsf_syntax.specs.Tree as plain
use Rattle.tlsf_reader.specs.Seen.{seen}
use Rattle.tlsf_syntax.specs.Seen.{expr_seen}
use Rattle.tlsf_reader.proofs.Descending.{read_stop, read_go, read_expected, read_unexpected, read_next, read_other, read_here}
use Rattle.tlsf_reader.proofs.Climbing.{read_exit}
use Rattle.tlsf_reader.proofs.SectionDescending.{wide_declaration}
use Rattle.tlsf_reader.proofs.section.declaration.Goals as goal

pub returns-in_err-width-clause-read : goal.returns-in_err-width-clause-read
returns-in_err-width-clause-read c =
    read_exit _ c.from_residual-in_err-width.ensures.1
    (read_expected _ c.in_ok-first.ensures.next (read_other _ (wide_declaration (seen c.in_ok-first.first)) c.in_default.ensures.next (read_next _ _ c.in-Some-next_if.ensures.next (read_stop _ c.in_err-width.ensures.read))))

pub returns-in_err-expect-clause-read : goal.returns-in_err-expect-clause-read
returns-in_err-expect-clause-read c =
    read_exit _ c.from_residual-in_err-expect.ensures.1
    (read_expected _ c.in_ok-first.ensures.next (read_other _ (wide_declaration (seen c.in_ok-first.first)) c.in_default.ensures.next (read_next _ _ c.in-Some-next_if.ensures.next
    (read_go _ c.in_ok-width.ensures.read (read_unexpected _ c.in_err-expect.ensures.next)))))

pub returns-in_err-expect-2-clause-read : goal.returns-in_err-expect-2-clause-read
returns-in_err-expect-2-clause-read c =
    read_exit _ c.from_residual-in_err-expect-2.ensures.1
    (read_expected _ c.in_ok-first.ensures.next (read_other _ (wide_declaration (seen c.in_ok-first.first)) c.in_default.ensures.next (read_next _ _ c.in-Some-next_if.ensures.next
    (read_go _ c.in_ok-width.ensures.read (read_expected _ c.in_ok-expect.ensures.next (read_unexpected _ c.in_err-expect-2.ensures.next))))))

pub returns-in-Some-next_if-clause-read : goal.returns-in-Some-next_if-clause-read
returns-in-Some-next_if-clause-read c =
    read_expected _ c.in_ok-first.ensures.next (read_other _ (wide_declaration (seen c.in_ok-first.first)) c.in_default.ensures.next (read_next _ _ c.in-Some-next_if.ensures.next
    (read_go _ c.in_ok-width.ensures.read (read_expected _ c.in_ok-expect.ensures.next (read_expected _ c.in_ok-expect-2.ensures.next
    (read_here (ap (λ (x : plain.Named). record { word = x; shape = plain.bus (expr_seen c.in_ok-width.width) }) c.in_ok-word.ensures)))))))
