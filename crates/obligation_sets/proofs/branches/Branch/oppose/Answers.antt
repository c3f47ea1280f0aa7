use Rattle.std.proofs.Common.{ap}
use Rattle.obligation_sets.specs.Branch.{Branch}
use Rattle.obligation_sets.proofs.Steps.{opposing_is}
use Rattle.obligation_sets.proofs.branches.Branch.oppose.Goals as goal

pub returns-in-Signal : goal.returns-in-Signal
returns-in-Signal c = opposing_is _ _ _ _ _ _ c.in-Signal.is (ap (λ (b : Branch). b.cube) c.self.view_is) c.forbidding-cube.ensures c.join.ensures
