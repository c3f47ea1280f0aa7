use Rattle.std.proofs.Common.{◌∙◌}
use Rattle.truth_witness.specs.Obligations.{own, variables_of}
use Rattle.witness_clauses.proofs.Bounds.{fit}
use Rattle.witness_clauses.proofs.Fitting.{own_within}
use Rattle.witness_clauses.proofs.claims.Claim.add_own.Goals as goal

pub add_base-requires-clause-within : goal.add_base-requires-clause-within
add_base-requires-clause-within c =
    fit c.deref.result.now (own c.args.self.now c.args.obligation) (variables_of c.args.self.now c.args.obligation) c.variables.result (c.deref.ensures.value ∙ c.in_ok-own.ensures)
    c.variables.ensures.value (own_within c.args.self.now c.variables.ensures.countable.circuit c.variables.ensures.countable.list c.requires.fits c.args.obligation c.requires.owed)
