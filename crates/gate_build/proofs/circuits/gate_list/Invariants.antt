use Rattle.std.proofs.Common.{◌≡◌}
use Rattle.std.specs.Prelude.{map}
use Rattle.std.specs.List.{range_with_len}
use Rattle.gate_build.specs.Table.{gate_from}
use Rattle.gate_build.proofs.circuits.gate_list.Given as goal

abbrev pub invariant-loop-place : goal.invariant-loop-place
invariant-loop-place l = l.gates.items ≡ map (gate_from l.first l.operands) (range_with_len 0 l.place)
