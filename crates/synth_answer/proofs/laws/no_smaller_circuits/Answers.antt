use Rattle.synth_answer.proofs.NoSmaller.{no_smaller_circuits}
use Rattle.synth_answer.proofs.laws.no_smaller_circuits.Goals as goal

pub returns : goal.returns
returns c = no_smaller_circuits c.trees_are_determined.ensures c.documents_are_determined.ensures c.no_small_circuit_satisfies.ensures c.no_small_circuit_defeats.ensures
