use Rattle.std.proofs.Common.{ap}
use Rattle.tlsf_syntax.specs.Tree as plain
use Rattle.tlsf_syntax.specs.Seen.{body_seen, word_seen}
use Rattle.tlsf_reader.proofs.Descending.{read_stop, read_go, read_expected, read_unexpected, read_here}
use Rattle.tlsf_reader.proofs.Climbing.{read_exit}
use Rattle.tlsf_reader.specs.TextView.{each}
use Rattle.tlsf_reader.proofs.definition.function.Goals as goal

pub returns-in_err-body-clause-read : goal.returns-in_err-body-clause-read
returns-in_err-body-clause-read c = read_exit _ c.from_residual-in_err-body.ensures.1 (read_expected _ c.in_ok-expect.ensures.next (read_stop _ c.in_err-body.ensures.read))

pub returns-in_err-expect-2-clause-read : goal.returns-in_err-expect-2-clause-read
returns-in_err-expect-2-clause-read c =
    read_exit _ c.from_residual-in_err-expect-2.ensures.1 (read_expected _ c.in_ok-expect.ensures.next (read_go _ c.in_ok-body.ensures.read (read_unexpected _ c.in_err-expect-2.ensures.next)))

pub returns-clause-read : goal.returns-clause-read
returns-clause-read c =
    read_expected _ c.in_ok-expect.ensures.next (read_go _ c.in_ok-body.ensures.read (read_expected _ c.in_ok-expect-2.ensures.next
    (read_here (ap (λ (x : plain.Named). plain.function x (each word_seen c.args.arguments) (body_seen c.in_ok-body.body)) c.in_ok-word.ensures))))
