use Rattle.std.proofs.Common.{◌≡◌}
use Rattle.gate_build.specs.Table.{literals_from}
use Rattle.gate_build.proofs.circuits.literals.Given as goal

abbrev pub invariant-loop-place : goal.invariant-loop-place
invariant-loop-place l = l.literals.items ≡ literals_from l.from l.place
