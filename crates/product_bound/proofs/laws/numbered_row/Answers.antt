use Rattle.std.proofs.Common.{◌≡◌, ◌≤◌, ◌/◌, length, rules, arith}
use Rattle.machine_model.specs.Machine.{size_of}
use Rattle.product_bound.specs.Numbered.{named_before, place_in}
use Rattle.product_bound.proofs.Numbering.{named_few, state_read}
use Rattle.product_bound.proofs.Places.{place_in-le}
use Rattle.product_bound.proofs.laws.numbered_row.Goals as goal

pub next-to-requires-clause-state : goal.next-to-requires-clause-state
next-to-requires-clause-state c =
    state_read c.args.machine.now c.size-size.ensures.kept.machine c.args.place c.args.named.now.items (c.args.place / c.letter_count-letters.result) c.index-old.result.now
    c.requires.place c.requires.named (search rules) c.index-old.ensures

pub overflow_cast-result : goal.overflow_cast-result
overflow_cast-result c =
    let few : length (named_before c.args.machine.now c.args.place) ≤ size_of c.args.machine.now = named_few c.args.machine.now c.size-size.ensures.kept.machine c.args.place (omega arith) in
    let at : place_in c.deref.result.now c.next-to.result ≤ length c.deref.result.now = place_in-le c.deref.result.now c.next-to.result in
    let same : length c.deref.result.now ≡ length (named_before c.args.machine.now c.args.place) = rw (c.deref.ensures.value, c.requires.named) in
    omega (arith, few, at, same, c.place_in-next.ensures, c.size-size.ensures.value)

pub writes_at-requires-clause-state : goal.writes_at-requires-clause-state
writes_at-requires-clause-state c =
    state_read c.args.machine.now c.size-size.ensures.kept.machine c.args.place c.args.named.now.items (c.args.place / c.letter_count-letters.result) c.index-old.result.now
    c.requires.place c.requires.named (search rules) c.index-old.ensures
