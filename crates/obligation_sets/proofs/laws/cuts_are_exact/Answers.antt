use Rattle.obligation_sets.proofs.Implied.{cuts_are_exact as law}
use Rattle.obligation_sets.proofs.laws.cuts_are_exact.Goals as goal

pub returns : goal.returns
returns c = law
