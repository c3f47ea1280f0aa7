use Rattle.std.proofs.Common.{◌≡◌, ◌++◌, [], ◌∷◌, subst}
use Rattle.truth_witness.specs.Clauses.{opposite}
use Rattle.truth_witness.specs.Variables.{rise_literal}
use Rattle.truth_witness.specs.Falls.{not_awaited}
use Rattle.witness_clauses.proofs.Numbering.{numbered_on}
use Rattle.witness_clauses.proofs.claims.Claim.add_not_awaited.Goals as goal

pub loop-number-preserved : goal.loop-number-preserved
loop-number-preserved c =
    numbered_on (λ j u. (opposite (rise_literal c.args.self.now 0) ∷ not_awaited c.args.self.now c.args.part.now j u) ∷ []) c.args.clauses.now.items c.loop-number.clauses.items
    c.add_one_not_awaited.new.clauses.items c.args.untils.now c.loop-number.number c.index-untils-number.result c.loop-number-test.true c.loop-number.invariant
    (subst (λ u. c.add_one_not_awaited.new.clauses.items ≡ c.loop-number.clauses.items ++ (opposite (rise_literal c.args.self.now 0) ∷ not_awaited c.args.self.now c.args.part.now c.loop-number.number u) ∷ [])
    c.index-untils-number.is c.in_ok-add_one_not_awaited.ensures)
