use Rattle.std.proofs.Common.{◌≡◌, ◌<◌, All, length, reverse}
use Rattle.obligation_sets.specs.Marks.{done_of}
use Rattle.obligation_sets.specs.OpenWork.{open_work}
use Rattle.obligation_sets.proofs.branches.pop_open.Given as goal

abbrev pub invariant-loop-id : goal.invariant-loop-id
invariant-loop-id l = record {
  within : All (λ f. f.0 < length l.marks) l.work.items;
  same : open_work (done_of l.marks) (reverse l.fn.work.items) ≡ open_work (done_of l.marks) (reverse l.work.items);
}

abbrev pub decreases-loop-id : goal.decreases-loop-id
decreases-loop-id l = goal.left-loop-id l
