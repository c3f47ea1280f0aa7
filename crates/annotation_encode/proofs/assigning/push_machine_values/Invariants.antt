use Rattle.std.proofs.Common.{◌≡◌, ◌++◌, map}
use Rattle.std.specs.List.{range_with_len}
use Rattle.annotation_encode.specs.Assigned.{machine_value}
use Rattle.annotation_encode.proofs.assigning.push_machine_values.Given as goal

abbrev pub invariant-loop-place : goal.invariant-loop-place
invariant-loop-place l = l.values.items ≡ l.fn.values.items ++ map (machine_value l.problem l.machine) (range_with_len 0 l.place)
