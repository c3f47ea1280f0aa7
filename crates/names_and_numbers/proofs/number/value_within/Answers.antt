use Rattle.std.proofs.Common.{◌+◌, arith}
use Rattle.names_and_numbers.proofs.NumeralLemmas.{digit_at_place, decimal_value_more, decimal_value-take-le}
use Rattle.names_and_numbers.proofs.number.value_within.Goals as goal

pub overflow_sub-byte : goal.overflow_sub-byte
overflow_sub-byte c = omega (arith, digit_at_place c.args.digits.now c.requires c.loop-byte.byte-index c.loop-byte-test.true)

-- the digits so far and the next pass the bound, so all digits do
pub returns-then-next-from : goal.returns-then-next-from
returns-then-next-from c =
    let digits = c.args.digits.now in
    let more = decimal_value_more digits c.requires c.loop-byte.byte-index c.loop-byte-test.true in
    let le = decimal_value-take-le digits c.requires (c.loop-byte.byte-index + 1) (omega arith) in
    λ within. omega (arith, more, le)

pub loop-byte-preserved : goal.loop-byte-preserved
loop-byte-preserved c =
    let more = decimal_value_more c.args.digits.now c.requires c.loop-byte.byte-index c.loop-byte-test.true in
    record { so_far = omega (arith, more); within = omega arith }
