use Rattle.tlsf_reader.proofs.OneTree.{determined}
use Rattle.tlsf_reader.proofs.laws.trees_are_determined.Goals as goal

pub returns : goal.returns
returns c = determined
