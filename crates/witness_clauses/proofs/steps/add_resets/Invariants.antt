use Rattle.std.proofs.Common.{◌≡◌, ◌++◌, [], ◌∷◌, take}
use Rattle.std.specs.Prelude.{map, if◌then◌else◌}
use Rattle.truth_witness.specs.Clauses.{opposite}
use Rattle.witness_clauses.proofs.steps.add_resets.Given as goal

abbrev pub invariant-loop-latch : goal.invariant-loop-latch
invariant-loop-latch l =
    l.clauses.items ≡ l.fn.clauses.items ++ map (λ latch. (if latch.reset then latch.literal else opposite latch.literal) ∷ []) (take l.latch-index l.latches)
