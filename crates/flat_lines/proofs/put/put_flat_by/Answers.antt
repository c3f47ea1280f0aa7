use Rattle.tlsf_expand.specs.FlatText.{spec_seen}
use Rattle.flat_lines.specs.FlatLines.{flat_bytes_by}
use Rattle.flat_lines.proofs.Pieces.{nothing_yet}
use Rattle.flat_lines.proofs.put.put_flat_by.Goals as goal

pub returns-in_err-lines-clause-front : goal.returns-in_err-lines-clause-front
returns-in_err-lines-clause-front g c =
    nothing_yet c.from_residual.result (g.K.Sink.written c.args.out.now) (flat_bytes_by c.args.names.now (spec_seen c.args.spec.now))
