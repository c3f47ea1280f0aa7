use Rattle.std.proofs.Common.{◌≡◌, ◌++◌}
use Rattle.annotation_encode.specs.Assigned.{pair_values}
use Rattle.annotation_encode.specs.BaseClauses.{each_below}
use Rattle.annotation_encode.proofs.assigning.push_state_values.Given as goal

abbrev pub invariant-loop-q : goal.invariant-loop-q
invariant-loop-q l = l.values.items ≡ l.fn.values.items ++ each_below l.q (λ q. pair_values l.numbering.problem.now l.annotation.numbers.items l.t q)
