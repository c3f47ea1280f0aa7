use Rattle.std.proofs.Common.{◌≡◌, ◌==◌, ◌||◌, ◌≤◌, true, false, length, get_or, sym, ◌∙◌, rules, arith}
use Rattle.tlsf_reader.proofs.EnumerationDescending.{digit_stays, digit_ends, digits_end}
use Rattle.tlsf_reader.proofs.enumeration.are_bits.Goals as goal

pub returns-then-not-is_bit : goal.returns-then-not-is_bit
returns-then-not-is_bit c =
    let other : (get_or c.args.digits.now c.loop-digit.digit-index 0 == 48 || get_or c.args.digits.now c.loop-digit.digit-index 0 == 49) ≡ false = search rules in
    sym (c.loop-digit.invariant ∙ digit_ends c.args.digits.now c.loop-digit.digit-index (omega arith) other)

pub loop-digit-preserved : goal.loop-digit-preserved
loop-digit-preserved c =
    let bit : (get_or c.args.digits.now c.loop-digit.digit-index 0 == 48 || get_or c.args.digits.now c.loop-digit.digit-index 0 == 49) ≡ true = search rules in
    c.loop-digit.invariant ∙ digit_stays c.args.digits.now c.loop-digit.digit-index (omega arith) bit

pub returns : goal.returns
returns c = let past : length c.args.digits.now ≤ c.loop-digit.digit-index = omega arith in sym (c.loop-digit.invariant ∙ digits_end c.args.digits.now c.loop-digit.digit-index past)
