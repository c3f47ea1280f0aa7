use Rattle.aiger_text.specs.Groups.{IsTour, Goes, left_to_do}
use Rattle.aiger_text.proofs.groups.Tour.run.Given as goal

abbrev pub invariant-loop-top : goal.invariant-loop-top
invariant-loop-top l = (IsTour l.gates l.self.stages.items l.self.opened.items l.self.path.items l.self.starts.items) × (Goes l.fn.self.stages.items l.self.stages.items)

abbrev pub decreases-loop-top : goal.decreases-loop-top
decreases-loop-top l = left_to_do l.self.stages.items l.self.path.items l.self.starts.items
