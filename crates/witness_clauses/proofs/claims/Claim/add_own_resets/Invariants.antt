use Rattle.std.proofs.Common.{◌≡◌, ◌++◌, [], ◌∷◌, take}
use Rattle.truth_witness.specs.Clauses.{opposite}
use Rattle.truth_witness.specs.Variables.{latch_literal}
use Rattle.truth_witness.specs.Frames.{numbered}
use Rattle.witness_clauses.proofs.claims.Claim.add_own_resets.Given as goal

abbrev pub invariant-loop-place : goal.invariant-loop-place
invariant-loop-place l =
    l.clauses.items ≡ l.fn.clauses.items ++ numbered (λ k _. (opposite (latch_literal l.self k) ∷ []) ∷ []) 0 (take l.place l.latches)
