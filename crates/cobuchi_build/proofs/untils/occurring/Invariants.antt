use Rattle.std.proofs.Common.{◌≡◌, length}
use Rattle.cobuchi_build.specs.Occurring.{marked_down, occurring}
use Rattle.cobuchi_build.proofs.untils.occurring.Given as goal

abbrev pub invariant-loop-place : goal.invariant-loop-place
invariant-loop-place l = record {
  value : marked_down l.formulas l.place l.occurs.items ≡ occurring l.formulas l.fn.f;
  places : length l.occurs.items ≡ length l.formulas;
}
