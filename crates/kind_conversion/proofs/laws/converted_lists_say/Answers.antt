use Rattle.kind_conversion.proofs.ListsMade.{converted_lists_say as law}
use Rattle.kind_conversion.proofs.laws.converted_lists_say.Goals as goal

pub returns : goal.returns
returns c = law
