use Rattle.std.proofs.Common.{rules, get_or, refl, sym}
use Rattle.core_answer.proofs.OtherParts.{next_other, past_others}
use Rattle.core_answer.proofs.lines.push_others.Goals as goal

pub loop-place-preserved : goal.loop-place-preserved
loop-place-preserved c =
    next_other c.args.numbers.now c.args.others.now c.loop-place.place c.args.bytes.now.items c.loop-place.bytes.items c.push_other.new.bytes.items (get_or c.args.numbers.now c.loop-place.place 0)
    c.other_at.result.now c.loop-place-test.true (search rules) refl (sym c.other_at.ensures) c.loop-place.invariant c.in_ok-push_other.ensures

pub returns-then-place-others : goal.returns-then-place-others
returns-then-place-others c =
    past_others c.args.numbers.now c.args.others.now c.loop-place.place c.args.bytes.now.items c.loop-place.bytes.items c.if-place-others.true c.loop-place.invariant
