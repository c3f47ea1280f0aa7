use Rattle.machine_model.proofs.Examples.{example_accepts}
use Rattle.machine_model.proofs.laws.small_automaton_accepts.Goals as goal

pub returns : goal.returns
returns c = example_accepts
