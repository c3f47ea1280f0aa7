use Rattle.std.proofs.Common.{ℕ, ◌+◌, ◌-◌, ◌*◌, ◌^◌, ◌≤◌, List, length, sym, ap, ◌∙◌, arith}
use Rattle.std.proofs.Math.Pow.{pow_mono}
use Rattle.gate_build.specs.Bits.{bit_in, bit_of}
use Rattle.gate_build.specs.Table.{AllBuilt}
use Rattle.gate_build.proofs.Alls.{all-zero, all-step}
use Rattle.gate_build.proofs.circuits.all.Goals as goal

pub loop-place-init : goal.loop-place-init
loop-place-init c = (
  all-zero c.args.machine.now (λ j. bit_of c.args.machine.now (bit_in c.args.part j)) c.args.gates.now.keys
      ∙ ap (λ (xs : List ℕ). let b : AllBuilt = record { gates = c.args.gates.now.keys; literals = xs } in b) (sym c.new-literals.ensures.items),
  omega arith,
)

pub split-requires-clause-room : goal.split-requires-clause-room
split-requires-clause-room c =
    let few : 2 ^ (length c.args.split_on.now - 0) ≤ 2 ^ 11 = pow_mono {j = 11} (let h : length c.args.split_on.now ≤ 11 = c.requires.split.few in omega (arith, h)) in
    let grown : length c.loop-place.gates.keys ≤ length c.args.gates.now.keys + c.loop-place.place * 2 ^ 13 = c.loop-place.invariant.1 in
    omega (arith, few, grown, c.requires.room, c.requires.low, c.loop-place-test.true)

pub loop-place-preserved : goal.loop-place-preserved
loop-place-preserved c = (
  all-step c.args.machine.now (λ j. bit_of c.args.machine.now (bit_in c.args.part j)) c.loop-place.place c.args.gates.now.keys c.loop-place.gates.keys c.split.new.gates.keys
      c.loop-place.literals.items c.push.new.self.items c.args.first _ (bit_of c.args.machine.now c.bit.result) c.args.split_on.now c.requires.first c.requires.split.value
      (ap (bit_of c.args.machine.now) c.bit.ensures) c.loop-place.invariant.0 c.in_ok-split.ensures.value c.in_ok-push.ensures.items,
  let few : 2 ^ (length c.args.split_on.now - 0) ≤ 2 ^ 11 = pow_mono {j = 11} (let h : length c.args.split_on.now ≤ 11 = c.requires.split.few in omega (arith, h)) in
      let grown : length c.loop-place.gates.keys ≤ length c.args.gates.now.keys + c.loop-place.place * 2 ^ 13 = c.loop-place.invariant.1 in
      let more : length c.split.new.gates.keys + 3 ≤ length c.loop-place.gates.keys + 3 * 2 ^ (length c.args.split_on.now - 0) = c.in_ok-split.ensures.grown in
      omega (arith, few, grown, more),
)

pub split-requires-clause-literals : goal.split-requires-clause-literals
split-requires-clause-literals c = c.requires.split.early

pub split-requires-clause-whole : goal.split-requires-clause-whole
split-requires-clause-whole c = c.requires.split.whole
