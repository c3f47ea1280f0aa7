use Rattle.std.proofs.Common.{rules}
use Rattle.aiger_text.proofs.ReadingsStated.{readings_are_stated}
use Rattle.aiger_text.proofs.laws.readings_are_stated.Goals as goal

pub returns : goal.returns
returns c = readings_are_stated _ (search rules)
