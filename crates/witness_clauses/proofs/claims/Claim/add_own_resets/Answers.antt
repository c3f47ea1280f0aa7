use Rattle.std.proofs.Common.{rules, ◌∷◌, []}
use Rattle.truth_witness.specs.Clauses.{opposite}
use Rattle.truth_witness.specs.Variables.{latch_literal}
use Rattle.witness_clauses.proofs.Numbering.{numbered_on}
use Rattle.witness_clauses.proofs.claims.Claim.add_own_resets.Goals as goal

pub loop-place-preserved : goal.loop-place-preserved
loop-place-preserved c =
    numbered_on (λ k _. (opposite (latch_literal c.args.self.now k) ∷ []) ∷ []) c.args.clauses.now.items c.loop-place.clauses.items c.add.new.clauses.items c.args.latches.now
    c.loop-place.place 0 c.loop-place-test.true c.loop-place.invariant (search rules)
