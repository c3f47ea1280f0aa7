use Rattle.std.proofs.Common.{◌≡◌, ◌+◌, ◌-◌, ◌*◌, ◌^◌, ◌<◌, ◌≤◌, Bool, cond, length, get_or, refl, ap, ◌∙◌, arith}
use Rattle.gate_build.specs.Bits.{bit_of}
use Rattle.gate_build.proofs.Splits.{split-end, split-step, halved, doubled}
use Rattle.gate_build.proofs.tables.+split.Goals as goal

pub returns-then-depth-literals-clause-value : goal.returns-then-depth-literals-clause-value
returns-then-depth-literals-clause-value t c =
    split-end c.args.first (bit_of c.args.machine.now c.args.bit) c.args.literals.now c.args.depth c.args.value c.constant.result c.args.gates.now.keys c.if-depth-literals.true
    (c.constant.ensures.value ∙ ap (λ (b : Bool). cond b 1 0) c.bit_at.ensures)

pub split-requires : goal.split-requires
split-requires t c =
    let within : c.args.depth < length c.args.literals.now = omega (arith, c.if-depth-literals.false, c.requires.depth) in
    let half : 2 ^ (length c.args.literals.now - c.args.depth) ≡ 2 ^ (length c.args.literals.now - (c.args.depth + 1)) * 2 = halved (length c.args.literals.now) c.args.depth within in
    let weight : c.weight_of-weight.result ≡ 2 ^ c.args.depth = c.weight_of-weight.ensures.value in (
      omega (arith, within),
      (c.requires.few, (omega (arith, c.requires.room, half), (c.requires.literals, (c.requires.whole, (c.requires.small, (omega (arith, within), omega (arith, c.requires.value, weight, doubled c.args.depth))))))),
    )

pub split-requires-2 : goal.split-requires-2
split-requires-2 t c =
    let within : c.args.depth < length c.args.literals.now = omega (arith, c.if-depth-literals.false, c.requires.depth) in
    let half : 2 ^ (length c.args.literals.now - c.args.depth) ≡ 2 ^ (length c.args.literals.now - (c.args.depth + 1)) * 2 = halved (length c.args.literals.now) c.args.depth within in
    let weight : c.weight_of-weight.result ≡ 2 ^ c.args.depth = c.weight_of-weight.ensures.value in
    let one : length c.split.new.gates.keys + 3 ≤ length c.args.gates.now.keys + 3 * 2 ^ (length c.args.literals.now - (c.args.depth + 1)) = c.in_ok-one.ensures.grown in (
      omega (arith, within),
      (c.requires.few, (omega (arith, c.requires.room, half, one), (c.requires.literals, (c.requires.whole, (c.requires.small, (omega (arith, within), omega (arith, c.requires.value, weight, doubled c.args.depth))))))),
    )

pub ite-requires-clause-room : goal.ite-requires-clause-room
ite-requires-clause-room t c =
    let within : c.args.depth < length c.args.literals.now = omega (arith, c.if-depth-literals.false, c.requires.depth) in
    let half : 2 ^ (length c.args.literals.now - c.args.depth) ≡ 2 ^ (length c.args.literals.now - (c.args.depth + 1)) * 2 = halved (length c.args.literals.now) c.args.depth within in
    let one : length c.split.new.gates.keys + 3 ≤ length c.args.gates.now.keys + 3 * 2 ^ (length c.args.literals.now - (c.args.depth + 1)) = c.in_ok-one.ensures.grown in
    let other : length c.split-2.new.gates.keys + 3 ≤ length c.split.new.gates.keys + 3 * 2 ^ (length c.args.literals.now - (c.args.depth + 1)) = c.in_ok-other.ensures.grown in
    omega (arith, c.requires.room, half, one, other)

pub returns-clause-value : goal.returns-clause-value
returns-clause-value t c =
    let within : c.args.depth < length c.args.literals.now = omega (arith, c.if-depth-literals.false, c.requires.depth) in
    split-step c.args.first (bit_of c.args.machine.now c.args.bit) c.args.literals.now c.args.depth c.args.value c.weight_of-weight.result (get_or c.args.literals.now c.args.depth 0) c.args.gates.now.keys
    (record { gates = c.split.new.gates.keys; literal = c.in_ok-one.one }) (record { gates = c.split-2.new.gates.keys; literal = c.in_ok-other.other }) (record { gates = c.ite.new.gates.keys; literal = c.in_ok-chosen.chosen })
    within c.weight_of-weight.ensures.value refl c.in_ok-one.ensures.value c.in_ok-other.ensures.value c.in_ok-chosen.ensures.value

pub returns-clause-grown : goal.returns-clause-grown
returns-clause-grown t c =
    let within : c.args.depth < length c.args.literals.now = omega (arith, c.if-depth-literals.false, c.requires.depth) in
    let half : 2 ^ (length c.args.literals.now - c.args.depth) ≡ 2 ^ (length c.args.literals.now - (c.args.depth + 1)) * 2 = halved (length c.args.literals.now) c.args.depth within in
    let one : length c.split.new.gates.keys + 3 ≤ length c.args.gates.now.keys + 3 * 2 ^ (length c.args.literals.now - (c.args.depth + 1)) = c.in_ok-one.ensures.grown in
    let other : length c.split-2.new.gates.keys + 3 ≤ length c.split.new.gates.keys + 3 * 2 ^ (length c.args.literals.now - (c.args.depth + 1)) = c.in_ok-other.ensures.grown in
    let last : length c.ite.new.gates.keys ≤ length c.split-2.new.gates.keys + 3 = c.in_ok-chosen.ensures.grown in
    omega (arith, half, one, other, last)
