use Rattle.aiger_text.proofs.TourDone.{last_top, nothing_open, goes_both}
use Rattle.aiger_text.proofs.groups.Tour.run.Goals as goal

pub step-requires-clause-inside : goal.step-requires-clause-inside
step-requires-clause-inside c =
    c.loop-top.invariant.0.path_within c.in-Some.top (last_top c.loop-top.self.path.items c.in-Some.top c.loop-top.invariant.0.path_rises (rw c.deref.ensures.value at c.in-Some.ensures.last)).there

pub loop-top-preserved : goal.loop-top-preserved
loop-top-preserved c = (c.in_ok-step.ensures.tour, goes_both _ _ _ c.loop-top.invariant.1 c.in_ok-step.ensures.goes)

pub returns-clause-empty : goal.returns-clause-empty
returns-clause-empty c = nothing_open c.args.gates.now c.loop-top.self.stages.items c.loop-top.self.opened.items c.loop-top.self.path.items c.loop-top.self.starts.items c.loop-top.invariant.0 (rw c.deref.ensures.value at c.in_default.ensures.none)
