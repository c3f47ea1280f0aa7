use Rattle.document_check.proofs.Alike.{checks_alike}
use Rattle.document_check.proofs.laws.alike_texts_check_alike.Goals as goal

pub returns : goal.returns
returns c = checks_alike
