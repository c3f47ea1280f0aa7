use Rattle.std.proofs.Common.{◌≡◌, take}
use Rattle.obligation_sets.specs.Ids.{ids_of}
use Rattle.obligation_sets.specs.Marks.{next_of, postponed_of}
use Rattle.obligation_sets.specs.Reduced.{without}
use Rattle.obligation_sets.proofs.branches.cover_of.Given as goal

abbrev pub invariant-loop-id : goal.invariant-loop-id
invariant-loop-id l = record {
  next : l.next.items ≡ ids_of (take l.id (without (next_of l.marks) l.dropped));
  postponed : l.postponed.items ≡ ids_of (take l.id (postponed_of l.marks));
}
