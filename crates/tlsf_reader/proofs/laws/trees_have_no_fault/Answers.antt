use Rattle.tlsf_reader.proofs.NoFault.{no_fault}
use Rattle.tlsf_reader.proofs.laws.trees_have_no_fault.Goals as goal

pub returns : goal.returns
returns c = no_fault
