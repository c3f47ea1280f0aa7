use Rattle.std.proofs.Common.{rules}
use Rattle.truth_witness.specs.Clauses.{conjoined}
use Rattle.truth_witness.specs.Variables.{gate_literal}
use Rattle.witness_clauses.proofs.Numbering.{numbered_all, numbered_on}
use Rattle.witness_clauses.proofs.claims.Claim.add_own_gates.Goals as goal

pub loop-place-preserved : goal.loop-place-preserved
loop-place-preserved c =
    numbered_on (λ k operands. conjoined (gate_literal c.args.self.now k) operands.left operands.right) c.args.clauses.now.items c.loop-place.clauses.items
    c.add_conjoined.new.clauses.items c.args.gates.now c.loop-place.place (record { left = 0; right = 0 }) c.loop-place-test.true c.loop-place.invariant (search rules)

pub returns : goal.returns
returns c =
    numbered_all (λ k operands. conjoined (gate_literal c.args.self.now k) operands.left operands.right) c.args.clauses.now.items c.loop-place.clauses.items c.args.gates.now
    c.loop-place.place c.loop-place-test.false c.loop-place.invariant
