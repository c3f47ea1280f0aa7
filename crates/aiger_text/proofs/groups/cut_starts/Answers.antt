use Rattle.std.proofs.Common.{◌<◌, arith}
use Rattle.aiger_text.proofs.GroupLemmas.{cut_none, cut_one, split_last}
use Rattle.aiger_text.proofs.groups.cut_starts.Goals as goal

pub loop-start-init : goal.loop-start-init
loop-start-init c = cut_none _ _ c.requires

pub loop-start-preserved : goal.loop-start-preserved
loop-start-preserved c =
    let last = split_last c.loop-start.starts.items c.pop.new.self.items c.in-Some.start c.in-Some-pop.field-0 c.in-Some-pop.ensures.items (rw c.deref.ensures.value at c.in-Some.ensures.last.1) in
    let above : c.args.most < c.in-Some-pop.field-0 = omega (arith, last, c.if-start-most.false) in
    cut_one c.args.starts.now.items c.loop-start.starts.items c.pop.new.self.items c.args.most c.in-Some-pop.field-0 c.in-Some-pop.ensures.items above c.loop-start.invariant
