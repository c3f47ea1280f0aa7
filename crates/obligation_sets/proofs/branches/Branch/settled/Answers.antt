use Rattle.std.proofs.Common.{ap}
use Rattle.obligation_sets.specs.Branch.{Branch}
use Rattle.obligation_sets.proofs.Steps.{work_within}
use Rattle.obligation_sets.proofs.branches.Branch.settled.Goals as goal

pub pop_open-requires : goal.pop_open-requires
pop_open-requires c =
    rw (c.deref.ensures.value) (work_within _ _ _ _ c.requires (ap (λ (b : Branch). b.work) c.self.view_is) (ap (λ (b : Branch). b.done) c.self.view_is))
