use Rattle.obligation_sets.proofs.NamedSignals.{covers_name_signals as law}
use Rattle.obligation_sets.proofs.laws.covers_name_signals.Goals as goal

pub returns : goal.returns
returns c = law
