use Rattle.std.proofs.Common.{◌≡◌, flat_map, take}
use Rattle.tlsf_expand.specs.FlatText.{spec_seen}
use Rattle.input_output.specs.Bytes.{Gains}
use Rattle.flat_lines.specs.FlatLines.{ended_line}
use Rattle.flat_lines.proofs.put.put_lines.Given as goal

-- the lines so far were written, and no fault occurred
abbrev pub invariant-loop-line : goal.invariant-loop-line
invariant-loop-line g l = record {
  gained : Gains (g.K.Sink.written l.initial.out) (g.K.Sink.written l.out) (flat_map (ended_line l.names (spec_seen l.spec)) (take l.line-index l.lines));
  no_fault : g.K.Sink.faults l.out ≡ g.K.Sink.faults l.initial.out;
}
