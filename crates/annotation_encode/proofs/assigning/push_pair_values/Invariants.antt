use Rattle.std.proofs.Common.{◌≡◌, [], ◌∷◌, ◌++◌}
use Rattle.annotation_encode.specs.Assigned.{reaches}
use Rattle.annotation_encode.specs.BaseClauses.{each_below}
use Rattle.annotation_encode.proofs.assigning.push_pair_values.Given as goal

abbrev pub invariant-loop-count : goal.invariant-loop-count
invariant-loop-count l = l.values.items ≡ l.fn.values.items ++ each_below l.count (λ c. reaches l.number c ∷ [])
