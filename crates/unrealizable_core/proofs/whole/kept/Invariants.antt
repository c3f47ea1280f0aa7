use Rattle.std.proofs.Common.{◌≡◌, ◌++◌, drop}
use Rattle.unrealizable_core.specs.Reduced.{kept}
use Rattle.unrealizable_core.proofs.whole.kept.Given as goal

abbrev pub invariant-loop-place : goal.invariant-loop-place
invariant-loop-place l = kept l.keep l.ids ≡ l.list.items ++ kept (drop l.place l.keep) (drop l.place l.ids)
