use Rattle.std.proofs.Common.{◌≡◌, ◌∷◌, ◌++◌, filter, take}
use Rattle.unit_propagate.specs.Watches.{differs}
use Rattle.unit_propagate.proofs.arena.append.Given as goal

abbrev pub invariant-loop-lit : goal.invariant-loop-lit
invariant-loop-lit l = l.out.items ≡ l.fn.out.items ++ (l.first ∷ l.second ∷ filter (differs l.first l.second) (take l.lit-index l.lits))
