use Rattle.refutation_log.proofs.TeachLemmas.{teaches-fewer, teaches-first, teaches-own}
use Rattle.refutation_log.proofs.laws.teaching_narrows.Goals as goal

pub returns : goal.returns
returns c = record { fewer = teaches-fewer; first = teaches-first; own = teaches-own }
