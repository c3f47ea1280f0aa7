use Rattle.std.proofs.Common.{◌≡◌, ◌++◌, List, filter, nat_le, length}
use Rattle.unit_propagate.specs.declared.marks.Mark.{Mark}
use Rattle.unit_propagate.proofs.marks.Marks.back_to.Given as goal

abbrev pub invariant-loop-self : goal.invariant-loop-self
invariant-loop-self l = (l.self.vars ≡ l.initial.self.vars) × (filter (λ m. nat_le m.level l.level) l.self.marks ≡ filter (λ m. nat_le m.level l.level) l.initial.self.marks)
    × ((rest : List Mark) × (l.initial.self.marks ≡ l.self.marks ++ rest))

abbrev pub decreases-loop-self : goal.decreases-loop-self
decreases-loop-self l = length l.self.marks
