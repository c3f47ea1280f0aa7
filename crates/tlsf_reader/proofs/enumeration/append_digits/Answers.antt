use Rattle.std.proofs.Common.{◌≡◌, ◌==◌, ◌≤◌, ◌++◌, ◌∷◌, [], Some, length, get_or, rules, arith}
use Rattle.tlsf_reader.proofs.EnumerationDescending.{digits_begin, digits_push, digits_appended}
use Rattle.tlsf_reader.proofs.enumeration.append_digits.Goals as goal

pub loop-digit-init : goal.loop-digit-init
loop-digit-init c = digits_begin c.args.digits.now c.args.bits.now.items c.requires

pub loop-digit-preserved : goal.loop-digit-preserved
loop-digit-preserved c =
    let pushed : c.push.new.self.items ≡ c.loop-digit.bits.items ++ Some (get_or c.args.digits.now c.loop-digit.digit-index 0 == 49) ∷ [] = search rules in
    digits_push c.args.digits.now c.loop-digit.digit-index _ c.loop-digit.bits.items c.push.new.self.items (omega arith) pushed c.loop-digit.invariant

pub returns : goal.returns
returns c =
    let past : length c.args.digits.now ≤ c.loop-digit.digit-index = omega arith in digits_appended c.args.digits.now c.loop-digit.digit-index _ c.loop-digit.bits.items past c.loop-digit.invariant
