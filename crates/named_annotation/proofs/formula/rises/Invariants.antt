use Rattle.std.proofs.Common.{◌≡◌, length}
use Rattle.named_annotation.specs.NamedText.{rises}
use Rattle.named_annotation.proofs.formula.rises.Given as goal

abbrev pub invariant-loop-rest : goal.invariant-loop-rest
invariant-loop-rest l = rises l.rest ≡ rises l.ids

abbrev pub decreases-loop-rest : goal.decreases-loop-rest
decreases-loop-rest l = length l.rest
