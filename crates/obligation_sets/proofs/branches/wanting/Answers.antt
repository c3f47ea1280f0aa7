use Rattle.std.proofs.Common.{refl, sym, ◌∙◌}
use Rattle.obligation_sets.proofs.Cubes.{added_bit, apart_must_at, wanting_is}
use Rattle.obligation_sets.proofs.branches.wanting.Goals as goal

pub invariant_of-result : goal.invariant_of-result
invariant_of-result c = record { apart = apart_must_at c.args.cube c.args.signal (sym c.has.ensures ∙ c.if-has.false) _ (added_bit c.args.cube.must c.args.signal c.requires) }

pub returns-else-has : goal.returns-else-has
returns-else-has c = wanting_is c.args.cube c.args.signal (sym c.has.ensures ∙ c.if-has.false) _ (added_bit c.args.cube.must c.args.signal c.requires) refl
