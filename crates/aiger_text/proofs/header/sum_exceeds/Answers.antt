use Rattle.std.proofs.Common.{◌≡◌, ◌≤◌, ◌||◌, length, true, false, ltb, sym, ap, ◌∙◌, arith}
use Rattle.std.proofs.lemmas.Bool.{lt-ltb, le-ltb}
use Rattle.aiger_text.proofs.Columns.{adds_more, adds_up}
use Rattle.aiger_text.proofs.header.sum_exceeds.Goals as goal

pub loop-place-preserved : goal.loop-place-preserved
loop-place-preserved c =
    rw c.stays_above-above.ensures
    (adds_more c.args.first.now c.args.second.now c.args.third.now c.args.most.now c.loop-place.place c.loop-place.carry c.loop-place.above
    c.digit_at.result c.digit_at-in-loop-place.result c.digit_at-in-loop-place-2.result c.digit_at-in-loop-place-3.result
    c.digit_at.ensures.below c.digit_at-in-loop-place.ensures.below c.digit_at-in-loop-place-2.ensures.below c.digit_at-in-loop-place-3.ensures.below
    c.digit_at.ensures.digit c.digit_at-in-loop-place.ensures.digit c.digit_at-in-loop-place-2.ensures.digit c.digit_at-in-loop-place-3.ensures.digit
    c.loop-place.invariant)

pub returns-then-carry-gt0 : goal.returns-then-carry-gt0
returns-then-carry-gt0 c =
    let some : ltb 0 c.loop-place.carry ≡ true = lt-ltb 0 c.loop-place.carry c.if-carry-gt0.true in
    let first : length c.args.first.now ≤ c.longest_of-places.result = c.longest_of-places.ensures.first in
    let second : length c.args.second.now ≤ c.longest_of-places.result = c.longest_of-places.ensures.second in
    let third : length c.args.third.now ≤ c.longest_of-places.result = c.longest_of-places.ensures.third in
    let fourth : length c.args.most.now ≤ c.longest_of-places.result = c.longest_of-places.ensures.fourth in
    some ∙ sym (ap (λ t. t || c.loop-place.above) some)
    ∙ adds_up c.args.first.now c.args.second.now c.args.third.now c.args.most.now c.loop-place.place c.loop-place.carry c.loop-place.above
    (omega arith) (omega arith) (omega arith) (omega arith) c.loop-place.invariant

pub returns-else-carry-gt0 : goal.returns-else-carry-gt0
returns-else-carry-gt0 c =
    let none : ltb 0 c.loop-place.carry ≡ false = le-ltb 0 c.loop-place.carry c.if-carry-gt0.false in
    let first : length c.args.first.now ≤ c.longest_of-places.result = c.longest_of-places.ensures.first in
    let second : length c.args.second.now ≤ c.longest_of-places.result = c.longest_of-places.ensures.second in
    let third : length c.args.third.now ≤ c.longest_of-places.result = c.longest_of-places.ensures.third in
    let fourth : length c.args.most.now ≤ c.longest_of-places.result = c.longest_of-places.ensures.fourth in
    sym (ap (λ t. t || c.loop-place.above) none)
    ∙ adds_up c.args.first.now c.args.second.now c.args.third.now c.args.most.now c.loop-place.place c.loop-place.carry c.loop-place.above
    (omega arith) (omega arith) (omega arith) (omega arith) c.loop-place.invariant
