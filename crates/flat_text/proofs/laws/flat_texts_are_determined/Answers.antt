use Rattle.tlsf_reader.proofs.OneTree.{determined}
use Rattle.flat_text.proofs.Determined.{one_flat}
use Rattle.flat_text.proofs.laws.flat_texts_are_determined.Goals as goal

pub returns : goal.returns
returns c = one_flat determined
