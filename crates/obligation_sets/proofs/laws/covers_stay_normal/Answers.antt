use Rattle.obligation_sets.proofs.Kept.{next_normal}
use Rattle.obligation_sets.proofs.laws.covers_stay_normal.Goals as goal

pub returns : goal.returns
returns c = λ covering ns set cover list normal there. next_normal ns list covering set normal cover there
