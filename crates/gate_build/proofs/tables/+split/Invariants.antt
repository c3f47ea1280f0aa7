use Rattle.std.proofs.Common.{◌-◌, length}
use Rattle.gate_build.proofs.tables.+split.Given as goal

abbrev pub decreases-split : goal.decreases-split
decreases-split l = length l.literals.now - l.depth
