use Rattle.flat_lines.proofs.Standing.{expanded_can_be_written as law}
use Rattle.flat_lines.proofs.laws.expanded_can_be_written.Goals as goal

pub returns : goal.returns
returns c = law
