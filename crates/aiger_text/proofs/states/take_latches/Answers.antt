use Rattle.std.proofs.Common.{◌≡◌, ◌<◌, ◌≤◌, ◌/◌, ℕ, List, length, get_or, subst, ◌∙◌, arith}
use Rattle.std.specs.Prelude.{map}
use Rattle.std.proofs.lemmas.List.{length-set, length-map, get_or-map}
use Rattle.aiger_text.specs.declared.circuits.Latch.{Latch}
use Rattle.aiger_text.specs.Circuit.{literal_value}
use Rattle.aiger_text.specs.Values.{valuation}
use Rattle.aiger_text.proofs.Putting.{no_latch, take_one_more, taken_all}
use Rattle.aiger_text.proofs.states.take_latches.Goals as goal

pub value_of-requires-clause-room : goal.value_of-requires-clause-room
value_of-requires-clause-room c =
    let ls : List ℕ = map (λ (latch : Latch). latch.next) c.args.latches.now in
    let n : length ls ≡ length c.args.latches.now = length-map c.args.latches.now (λ latch. latch.next) in
    let h : c.loop-i.i < length ls = rw n c.loop-i-test.true in
    let e : get_or ls c.loop-i.i 0 ≡ (get_or c.args.latches.now c.loop-i.i no_latch).next = get_or-map (λ latch. latch.next) c.args.latches.now c.loop-i.i no_latch 0 c.loop-i-test.true in
    subst (λ (l : ℕ). l / 2 < length c.args.values.now) e (c.requires.room c.loop-i.i h)

pub loop-i-preserved : goal.loop-i-preserved
loop-i-preserved c =
    let within : c.loop-i.i < length c.loop-i.bits = omega (arith, c.loop-i.invariant.1, c.requires.places, c.loop-i-test.true) in (
      take_one_more (λ k. literal_value (valuation c.args.values.now) (get_or c.args.latches.now k no_latch).next) c.loop-i.bits c.loop-i.i c.value_of.result within c.value_of.ensures c.loop-i.invariant.0,
      length-set c.loop-i.bits c.loop-i.i c.value_of.result ∙ c.loop-i.invariant.1,
    )

pub returns : goal.returns
returns c =
    taken_all (λ latch. literal_value (valuation c.args.values.now) latch.next) c.args.latches.now c.loop-i.bits no_latch (c.loop-i.invariant.1 ∙ c.requires.places)
    (λ k h. c.loop-i.invariant.0 k (let all : length c.args.latches.now ≤ c.loop-i.i = c.loop-i-test.false in omega arith))
