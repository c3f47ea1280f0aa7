use Rattle.std.proofs.Common.{refl}
use Rattle.obligation_sets.proofs.Along.{advances_step, step_leaf}
use Rattle.obligation_sets.proofs.cover_search.Search.take_step.Goals as goal

pub carry_out-requires : goal.carry_out-requires
carry_out-requires c = step_leaf c.args.formulas.now c.requires.list c.args.branch c.requires.places c.in_ok-step.step c.in_ok-step.ensures

pub returns : goal.returns
returns c = advances_step c.args.covering c.args.formulas.now c.args.self.now _ c.requires.list _ c.args.branch c.in_ok-self.field-0 c.in_ok-step.step c.requires.places c.in_ok-step.ensures c.in_ok-self.ensures refl refl
