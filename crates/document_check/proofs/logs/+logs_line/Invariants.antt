use Rattle.std.proofs.Common.{length}
use Rattle.document_check.proofs.logs.+logs_line.Given as goal

abbrev pub decreases-logs_line : goal.decreases-logs_line
decreases-logs_line g l = length l.sizes.now
