use Rattle.std.proofs.Common.{refl, sym, ◌∙◌}
use Rattle.obligation_sets.proofs.Cubes.{added_bit, apart_not_at, forbidding_is}
use Rattle.obligation_sets.proofs.branches.forbidding.Goals as goal

pub invariant_of-result : goal.invariant_of-result
invariant_of-result c = record { apart = apart_not_at c.args.cube c.args.signal (sym c.has.ensures ∙ c.if-has.false) _ (added_bit c.args.cube.not c.args.signal c.requires) }

pub returns-else-has : goal.returns-else-has
returns-else-has c = forbidding_is c.args.cube c.args.signal (sym c.has.ensures ∙ c.if-has.false) _ refl (added_bit c.args.cube.not c.args.signal c.requires)
