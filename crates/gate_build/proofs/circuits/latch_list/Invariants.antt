use Rattle.std.proofs.Common.{◌≡◌}
use Rattle.std.specs.Prelude.{map}
use Rattle.std.specs.List.{range_with_len}
use Rattle.gate_build.specs.Table.{latch_from}
use Rattle.gate_build.proofs.circuits.latch_list.Given as goal

abbrev pub invariant-loop-place : goal.invariant-loop-place
invariant-loop-place l = l.latches.items ≡ map (latch_from l.from l.nexts) (range_with_len 0 l.place)
