use Rattle.flat_text.proofs.OfKinds.{kinds}
use Rattle.flat_text.proofs.laws.kinds_of_texts.Goals as goal

pub returns : goal.returns
returns c = kinds
