use Rattle.std.proofs.Common.{◌≡◌, ◌≤◌, length}
use Rattle.input_output.specs.Bytes.{Gains}
use Rattle.solved_flat.specs.Expand.{first_node_lines}
use Rattle.solved_flat.proofs.lists.put_nodes.Given as goal

-- the lines of the nodes so far were written, and no fault occurred
abbrev pub invariant-loop-place : goal.invariant-loop-place
invariant-loop-place g l = record {
  within : l.place ≤ length l.formulas;
  gained : Gains (g.K.Sink.written l.initial.out) (g.K.Sink.written l.out) (first_node_lines l.names l.formulas l.place);
  no_fault : g.K.Sink.faults l.out ≡ g.K.Sink.faults l.initial.out;
}
