use Rattle.unit_propagate.proofs.LawsLemmas.{empty_trails_begin}
use Rattle.unit_propagate.proofs.laws.empty_trails_begin.Goals as goal

pub returns : goal.returns
returns c = empty_trails_begin
