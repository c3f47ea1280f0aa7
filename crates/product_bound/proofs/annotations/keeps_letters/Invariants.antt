use Rattle.std.proofs.Common.{ℕ, ◌<◌}
use Rattle.product_bound.specs.Kept.{KeepsEdges}
use Rattle.product_bound.proofs.annotations.keeps_letters.Given as goal

abbrev pub invariant-loop-read : goal.invariant-loop-read
invariant-loop-read l = (read : ℕ) → read < l.read → KeepsEdges l.problem l.machine l.numbers l.t read
