use Rattle.names_and_numbers.proofs.NumeralLemmas.{decimal_is_numeral, numeral_is_decimal}
use Rattle.names_and_numbers.proofs.laws.decimal_is_the_one_numeral.Goals as goal

pub returns : goal.returns
returns c = record { is_numeral = decimal_is_numeral; only = numeral_is_decimal }
