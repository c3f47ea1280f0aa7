use Rattle.std.proofs.Common.{ℕ, Bool, ◌+◌, ◌^◌, ◌<◌, sym, ap, ◌∙◌, arith, cond}
use Rattle.std.proofs.lemmas.Nat.{pow_below}
use Rattle.machine_decode.specs.Written.{letter_from}
use Rattle.machine_decode.proofs.Parts.{letter_more, letter_small}
use Rattle.machine_decode.proofs.decoding.letter_from.Goals as goal

pub overflow_add-letter : goal.overflow_add-letter
overflow_add-letter c =
    let small : letter_from c.args.values.now c.args.first c.loop-signal.signal < 2 ^ c.loop-signal.signal = letter_small c.args.values.now c.args.first c.loop-signal.signal in
    let pow : 2 ^ c.loop-signal.signal < 2 ^ 8 = pow_below c.loop-signal.signal 8 (omega arith) in
    omega (arith, small, pow, c.loop-signal.invariant, c.signal_set-letter.ensures.small)

pub loop-signal-preserved : goal.loop-signal-preserved
loop-signal-preserved c =
    let weight : Bool → ℕ = λ b. cond b (2 ^ c.loop-signal.signal) 0 in
    (λ j. c.loop-signal.invariant j + (c.signal_set-letter.ensures.value ∙ ap weight c.value_of.ensures) j) ∙ sym (letter_more c.args.values.now c.args.first c.loop-signal.signal)
