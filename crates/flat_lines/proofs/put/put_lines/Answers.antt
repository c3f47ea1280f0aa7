use Rattle.std_lemmas.proofs.Results.{on_err}
use Rattle.tlsf_expand.specs.FlatText.{spec_seen}
use Rattle.flat_lines.specs.FlatLines.{ended_line}
use Rattle.flat_lines.specs.declared.lines.Line.TheVariants.{Kinds}
use Rattle.flat_lines.proofs.Pieces.{pieces_front}
use Rattle.flat_lines.proofs.put.put_lines.Goals as goal

pub returns-in_err-put_line-clause-front : goal.returns-in_err-put_line-clause-front
returns-in_err-put_line-clause-front g c =
    on_err c.from_residual.result (pieces_front (ended_line c.args.names.now (spec_seen c.args.spec.now)) c.args.lines.now
    (g.K.Sink.written c.args.out.now) (g.K.Sink.written c.loop-line.out) (g.K.Sink.written c.put_line.new.out)
    c.loop-line.line-index Kinds c.loop-line-test.true c.loop-line.invariant.gained c.in_err-put_line.ensures.front)
