use Rattle.std.proofs.Common.{length}
use Rattle.circuit_names.proofs.lines.+foreign_from.Given as goal

abbrev pub decreases-foreign_from : goal.decreases-foreign_from
decreases-foreign_from l = length l.names.now
