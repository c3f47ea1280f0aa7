use Rattle.tlsf_reader.proofs.OneTree.{determined}
use Rattle.tlsf_reader.proofs.NoFault.{no_fault}
use Rattle.flat_text.proofs.Determined.{no_flat_fault}
use Rattle.flat_text.proofs.laws.flat_texts_have_no_fault.Goals as goal

pub returns : goal.returns
returns c = no_flat_fault determined no_fault
