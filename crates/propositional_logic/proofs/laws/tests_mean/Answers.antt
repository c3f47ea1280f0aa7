use Rattle.propositional_logic.proofs.Tests.{Decides-is_satisfied, Decides-is_falsified, unit_is, unit_found}
use Rattle.propositional_logic.proofs.laws.tests_mean.Goals as goal

pub returns : goal.returns
returns c = record {
  satisfied = Decides-is_satisfied;
  falsified = Decides-is_falsified;
  unit = λ trues clause l r. (unit_is trues clause l, unit_found trues clause l r);
}
