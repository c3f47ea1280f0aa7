use Rattle.std.proofs.Common.{◌≡◌, ◌++◌, drop}
use Rattle.unrealizable_core.specs.Laws.{kept_in}
use Rattle.core_answer.proofs.shrinking.kept.Given as goal

abbrev pub invariant-loop-place : goal.invariant-loop-place
invariant-loop-place l = l.keep.items ++ drop l.place (kept_in l.shrink) ≡ kept_in l.shrink
