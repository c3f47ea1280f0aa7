use Rattle.tlsf_expand.specs.FlatText.{spec_seen}
use Rattle.unrealizable_core.proofs.Questions.{weight}
use Rattle.core_answer.proofs.Steps.{IsSoFar}
use Rattle.core_answer.proofs.shrinking.shrunk.Given as goal

abbrev pub invariant-loop-number : goal.invariant-loop-number
invariant-loop-number g l = IsSoFar (spec_seen l.spec) l.settings l.count l.fn.whole.items l.core.shrink l.core.document.items l.core.others.items

abbrev pub decreases-loop-number : goal.decreases-loop-number
decreases-loop-number g l = weight l.core.shrink
