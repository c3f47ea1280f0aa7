use Rattle.propositional_logic.proofs.Tests.{satisfied_is_true, falsified_is_false, unit_is_true}
use Rattle.propositional_logic.proofs.laws.tests_are_sound.Goals as goal

pub returns : goal.returns
returns c = record { satisfied = satisfied_is_true; falsified = falsified_is_false; unit = unit_is_true }
