use Rattle.synth_engine.specs.Hands.{AreDrawn}
use Rattle.synth_engine.proofs.hands.draw.Given as goal

abbrev pub invariant-loop-list : goal.invariant-loop-list
invariant-loop-list l = AreDrawn l.yielded l.left.items l.drawn.items
