use Rattle.kind_conversion.proofs.ShiftedTruth.{shifted_forms_say as law}
use Rattle.kind_conversion.proofs.laws.shifted_forms_say.Goals as goal

pub returns : goal.returns
returns c = law
