use Rattle.cobuchi_build.proofs.LimitsKept.{automata_keep_limits as law}
use Rattle.cobuchi_build.proofs.laws.automata_keep_limits.Goals as goal

pub returns : goal.returns
returns c = law
