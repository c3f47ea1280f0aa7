use Rattle.std.proofs.Common.{◌≡◌, ◌++◌, take}
use Rattle.truth_witness.specs.Clauses.{equal}
use Rattle.truth_witness.specs.Variables.{latch_literal, shifted}
use Rattle.truth_witness.specs.Frames.{numbered}
use Rattle.witness_clauses.proofs.claims.Claim.add_own_moves.Given as goal

abbrev pub invariant-loop-place : goal.invariant-loop-place
invariant-loop-place l =
    l.clauses.items ≡ l.fn.clauses.items ++ numbered (λ k next. equal (shifted l.self (latch_literal l.self k)) next) 0 (take l.place l.latches)
