use Rattle.std.proofs.Common.{decimal}
use Rattle.names_and_numbers.proofs.NumeralLemmas.{digit_run-append, decimal_is_numeral}
use Rattle.names_and_numbers.proofs.laws.numeral_is_read_back.Goals as goal

pub returns : goal.returns
returns c = record {
  run = λ n rest small none. digit_run-append (decimal n) rest (decimal_is_numeral n small).digits none;
  value = λ n small. (decimal_is_numeral n small).value;
}
