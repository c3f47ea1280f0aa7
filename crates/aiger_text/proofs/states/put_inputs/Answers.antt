use Rattle.std.proofs.Common.{◌/◌, get_or, false, refl, ◌∙◌, arith}
use Rattle.std.proofs.lemmas.List.{length-set}
use Rattle.aiger_text.proofs.Putting.{put_none, put_more, put_done}
use Rattle.aiger_text.proofs.states.put_inputs.Goals as goal

pub loop-i-init : goal.loop-i-init
loop-i-init c = (put_none c.args.literals.now c.args.bits.now c.args.values.now, refl)

pub loop-i-preserved : goal.loop-i-preserved
loop-i-preserved c = (
  put_more c.args.literals.now c.args.bits.now c.args.values.now c.loop-i.values c.loop-i.i c.requires.variables c.loop-i.invariant.1 c.loop-i-test.true c.loop-i.invariant.0,
  length-set c.loop-i.values (get_or c.args.literals.now c.loop-i.i 0 / 2) (get_or c.args.bits.now c.loop-i.i false) ∙ c.loop-i.invariant.1,
)

pub returns : goal.returns
returns c = put_done c.args.literals.now c.args.bits.now c.args.values.now c.loop-i.values c.loop-i.i (omega arith) c.loop-i.invariant.0
