use Rattle.std.proofs.Common.{rules}
use Rattle.truth_witness.specs.Clauses.{equal}
use Rattle.truth_witness.specs.Variables.{latch_literal, shifted}
use Rattle.witness_clauses.proofs.Numbering.{numbered_all, numbered_on}
use Rattle.witness_clauses.proofs.claims.Claim.add_own_moves.Goals as goal

pub loop-place-preserved : goal.loop-place-preserved
loop-place-preserved c =
    numbered_on (λ k next. equal (shifted c.args.self.now (latch_literal c.args.self.now k)) next) c.args.clauses.now.items c.loop-place.clauses.items
    c.add_equal.new.clauses.items c.args.latches.now c.loop-place.place 0 c.loop-place-test.true c.loop-place.invariant (search rules)

pub returns : goal.returns
returns c =
    numbered_all (λ k next. equal (shifted c.args.self.now (latch_literal c.args.self.now k)) next) c.args.clauses.now.items c.loop-place.clauses.items c.args.latches.now
    c.loop-place.place c.loop-place-test.false c.loop-place.invariant
