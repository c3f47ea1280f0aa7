use Rattle.std.proofs.Common.{ap, sym}
use Rattle.std.proofs.lemmas.Option.{get_or_from_slice_get}
use Rattle.obligation_sets.specs.Branch.{Branch}
use Rattle.obligation_sets.proofs.Steps.{expanding_signal_is}
use Rattle.obligation_sets.proofs.branches.Branch.expand.Goals as goal

pub returns-in-Signal : goal.returns-in-Signal
returns-in-Signal c = expanding_signal_is _ _ _ _ _ _ _ _ (sym (get_or_from_slice_get c.args.formulas.now c.args.id.0 _ _ c.in-Signal.ensures.value)) (ap (λ (b : Branch). b.cube) c.self.view_is) c.wanting-cube.ensures c.join.ensures
