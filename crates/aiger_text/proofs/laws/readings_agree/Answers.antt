use Rattle.std.proofs.Common.{rules}
use Rattle.aiger_text.proofs.ReadingsStated.{readings_agree}
use Rattle.aiger_text.proofs.laws.readings_agree.Goals as goal

pub returns : goal.returns
returns c = readings_agree _ (search rules)
