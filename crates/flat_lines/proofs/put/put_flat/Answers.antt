use Rattle.tlsf_expand.specs.FlatText.{spec_seen}
use Rattle.flat_lines.specs.FlatLines.{flat_bytes}
use Rattle.flat_lines.proofs.Pieces.{nothing_yet}
use Rattle.flat_lines.proofs.put.put_flat.Goals as goal

pub returns-in_err-names-clause-front : goal.returns-in_err-names-clause-front
returns-in_err-names-clause-front g c =
    nothing_yet c.from_residual.result (g.K.Sink.written c.args.out.now) (flat_bytes (spec_seen c.args.spec.now))
