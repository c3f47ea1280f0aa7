use Rattle.std.proofs.Common.{◌≡◌, length}
use Rattle.obligation_sets.specs.Marks.{next_of}
use Rattle.obligation_sets.specs.Reduced.{implied_by, implied_down}
use Rattle.obligation_sets.proofs.branches.implied_by.Given as goal

abbrev pub invariant-loop-place : goal.invariant-loop-place
invariant-loop-place l = record {
  value : implied_down l.formulas (next_of l.marks) l.place l.implied.items ≡ implied_by l.formulas (next_of l.marks);
  places : length l.implied.items ≡ length l.formulas;
}
