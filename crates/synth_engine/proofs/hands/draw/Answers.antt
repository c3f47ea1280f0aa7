use Rattle.synth_engine.proofs.HandLemmas.{drawn_more}
use Rattle.synth_engine.proofs.hands.draw.Goals as goal

pub loop-list-preserved : goal.loop-list-preserved
loop-list-preserved c =
    drawn_more c.loop-list.yielded c.loop-list.left.items c.push-in-loop-list.new.self.items c.loop-list.drawn.items c.push.new.self.items c.in-Some.list c.pop.new.self c.in-Some-pop.seat c.loop-list.invariant
    c.in-Some-pop.ensures.items c.in_ok-push-2.ensures.items c.in_ok-push.ensures.items
