use Rattle.std.proofs.Common.{◌≡◌, ◌≤◌}
use Rattle.annotation_encode.specs.Count.{free_below}
use Rattle.annotation_encode.proofs.counting.free_signals.Given as goal

abbrev pub invariant-loop-signal : goal.invariant-loop-signal
invariant-loop-signal l = record {
  value : l.free ≡ free_below l.problem l.cube l.signal;
  small : l.free ≤ l.signal;
}
