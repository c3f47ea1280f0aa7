use Rattle.std.proofs.Common.{◌≡◌, ℕ, ◌<◌, []}
use Rattle.aiger_text.specs.declared.walks.Mark.TheVariants.{Done}
use Rattle.aiger_text.specs.Walks.{IsWalk, mark_at}
use Rattle.aiger_text.proofs.walks.sorted_places.Given as goal

abbrev pub invariant-loop-place : goal.invariant-loop-place
invariant-loop-place l =
    (IsWalk l.gates l.walk.marks.items l.walk.stack.items l.walk.order.items) × (l.walk.stack.items ≡ [])
    × ((k : ℕ) → k < l.place → mark_at l.walk.marks.items k ≡ Done)
