use Rattle.std.proofs.Common.{◌<◌, ◌≤◌, length, get_or, ◌∙◌, arith}
use Rattle.std.proofs.lemmas.List.{length-set}
use Rattle.aiger_text.specs.Circuit.{literal_value}
use Rattle.aiger_text.specs.Values.{valuation}
use Rattle.aiger_text.proofs.Putting.{take_one_more, taken_all}
use Rattle.aiger_text.proofs.states.take_outputs.Goals as goal

pub value_of-requires-clause-room : goal.value_of-requires-clause-room
value_of-requires-clause-room c = c.requires.room c.loop-i.i c.loop-i-test.true

pub loop-i-preserved : goal.loop-i-preserved
loop-i-preserved c =
    let within : c.loop-i.i < length c.loop-i.bits = omega (arith, c.loop-i.invariant.1, c.requires.places, c.loop-i-test.true) in (
      take_one_more (λ k. literal_value (valuation c.args.values.now) (get_or c.args.literals.now k 0)) c.loop-i.bits c.loop-i.i c.value_of.result within c.value_of.ensures c.loop-i.invariant.0,
      length-set c.loop-i.bits c.loop-i.i c.value_of.result ∙ c.loop-i.invariant.1,
    )

pub returns : goal.returns
returns c =
    taken_all (literal_value (valuation c.args.values.now)) c.args.literals.now c.loop-i.bits 0 (c.loop-i.invariant.1 ∙ c.requires.places)
    (λ k h. c.loop-i.invariant.0 k (let all : length c.args.literals.now ≤ c.loop-i.i = c.loop-i-test.false in omega arith))
