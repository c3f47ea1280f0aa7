use Rattle.std.proofs.Common.{[]}
use Rattle.propositional_logic.proofs.Totals.{agrees, one_each}
use Rattle.propositional_logic.proofs.laws.assignments_are_total.Goals as goal

pub returns : goal.returns
returns c = record { agrees = agrees []; one_each = one_each }
