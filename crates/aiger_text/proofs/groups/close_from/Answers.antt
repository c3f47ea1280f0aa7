use Rattle.std.proofs.Common.{◌<◌, length, get_or, arith}
use Rattle.aiger_text.proofs.GroupLemmas.{closes_none, closes_more, closes_end}
use Rattle.aiger_text.proofs.groups.close_from.Goals as goal

pub loop-place-init : goal.loop-place-init
loop-place-init c = closes_none _ _ _ _

pub loop-place-preserved : goal.loop-place-preserved
loop-place-preserved c =
    closes_more c.args.stages.now c.loop-place.stages c.args.opened.now c.args.from c.loop-place.place c.args.on_cycle (omega arith)
    (let inside : get_or c.args.opened.now c.loop-place.place 0 < length c.args.stages.now = c.requires.within c.loop-place.place c.loop-place-test.true in rw c.loop-place.invariant.places inside) c.loop-place.invariant

pub returns : goal.returns
returns c = closes_end c.args.stages.now c.loop-place.stages c.args.opened.now c.args.from c.loop-place.place (length c.args.opened.now) c.args.on_cycle (omega arith) c.loop-place.invariant (omega arith)
