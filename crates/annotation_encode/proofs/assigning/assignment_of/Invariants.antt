use Rattle.std.proofs.Common.{◌≡◌, ◌++◌}
use Rattle.annotation_encode.specs.Assigned.{machine_values, state_values}
use Rattle.annotation_encode.specs.BaseClauses.{each_below}
use Rattle.annotation_encode.proofs.assigning.assignment_of.Given as goal

abbrev pub invariant-loop-t : goal.invariant-loop-t
invariant-loop-t l = l.values.items ≡ machine_values l.problem l.machine ++ each_below l.t (λ t. state_values l.problem l.annotation.numbers.items t)
