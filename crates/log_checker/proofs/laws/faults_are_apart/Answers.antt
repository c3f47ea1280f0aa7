use Rattle.std.proofs.Common.{◌∙◌, sym, true≢false}
use Rattle.log_checker.proofs.FaultLemmas.{legal_of_none, none_of_legal, one_fault, legal_has_none}
use Rattle.log_checker.proofs.laws.faults_are_apart.Goals as goal

pub returns : goal.returns
returns c = record {
  legal = legal_of_none;
  faultless = none_of_legal;
  one_fault = one_fault;
  legal_has_none = legal_has_none;
  closed_not_open = λ vars base limit log h k. true≢false (sym h.refutes ∙ k.open_end);
}
