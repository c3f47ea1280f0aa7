use Rattle.std.proofs.Common.{◌-◌, [], ◌∷◌, length, take, drop}
use Rattle.std.proofs.lemmas.Slice.Eq.{strip_prefix_is}
use Rattle.std.proofs.lemmas.Bool.Decides.{Decides-eqb}
use Rattle.refutation_log.proofs.Numbers.{at_run, unread, zero_leads, no_space, number_read}
use Rattle.refutation_log.proofs.read.take_number.Goals as goal

pub returns-in_default : goal.returns-in_default
returns-in_default c =
    unread c.args.bytes.now c.args.most c.ranges.most.fits c.new-cursor.result c.read_number.result c.in_default.field-0 c.new-cursor.ensures.start c.in_default.is
    c.read_number.ensures.no_digits c.read_number.ensures.range

pub returns-then-has_leading_zero : goal.returns-then-has_leading_zero
returns-then-has_leading_zero c =
    let after = c.in-Ok.ensures.after in
    let at = at_run c.args.bytes.now c.new-cursor.result c.read_number.new.cursor c.at-digits.result c.new-cursor.ensures.start after c.at-digits.ensures.at in
    zero_leads c.args.bytes.now c.args.most c.ranges.most.fits c.at-digits.result at c.if-has_leading_zero.ensures

pub returns-in_err-rest : goal.returns-in_err-rest
returns-in_err-rest c =
    let after = c.in-Ok.ensures.after in
    let at = at_run c.args.bytes.now c.new-cursor.result c.read_number.new.cursor c.at-digits.result c.new-cursor.ensures.start after c.at-digits.ensures.at in
    rw c.from_residual.ensures
    (no_space c.args.bytes.now c.args.most c.ranges.most.fits c.at-digits.result at (rw c.in_err-rest.was at (strip_prefix_is Decides-eqb (take (length c.args.bytes.now - c.at-digits.result) (drop c.at-digits.result c.args.bytes.now)) (32 ∷ []) c.strip_prefix.result c.strip_prefix.ensures.cases)))

pub returns : goal.returns
returns c =
    let after = c.in-Ok.ensures.after in
    let at = at_run c.args.bytes.now c.new-cursor.result c.read_number.new.cursor c.at-digits.result c.new-cursor.ensures.start after c.at-digits.ensures.at in
    number_read c.args.bytes.now c.args.most c.ranges.most.fits c.new-cursor.result c.read_number.result c.in-Ok.number c.at-digits.result c.in_ok-rest.rest.now
    c.new-cursor.ensures.start c.in-Ok.is c.in-Ok.ensures.value c.in-Ok.ensures.within c.read_number.ensures.no_digits at c.if-has_leading_zero.ensures
    (rw c.in_ok-rest.was at (strip_prefix_is Decides-eqb (take (length c.args.bytes.now - c.at-digits.result) (drop c.at-digits.result c.args.bytes.now)) (32 ∷ []) c.strip_prefix.result c.strip_prefix.ensures.cases))
