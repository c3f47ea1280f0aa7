use Rattle.std.proofs.Common.{◌≡◌, ℕ}
use Rattle.std.specs.List.{sum_by}
use Rattle.aiger_text.specs.declared.walks.Mark.TheVariants.{New, Done}
use Rattle.aiger_text.specs.Walks.{IsWalk, mark_at, weight}
use Rattle.aiger_text.proofs.walks.Walk.run.Given as goal

abbrev pub invariant-loop-top : goal.invariant-loop-top
invariant-loop-top l =
    (IsWalk l.gates l.self.marks.items l.self.stack.items l.self.order.items)
    × ((k : ℕ) → mark_at l.initial.self.marks.items k ≡ Done → mark_at l.self.marks.items k ≡ Done)
    × ((k : ℕ) → mark_at l.self.marks.items k ≡ New → mark_at l.initial.self.marks.items k ≡ New)

abbrev pub decreases-loop-top : goal.decreases-loop-top
decreases-loop-top l = sum_by weight l.self.marks.items
