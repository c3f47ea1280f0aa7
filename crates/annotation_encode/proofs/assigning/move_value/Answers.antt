use Rattle.std.proofs.Common.{◌/◌}
use Rattle.annotation_encode.proofs.AssignedLemmas.{letter_in, move_state}
use Rattle.annotation_encode.proofs.assigning.move_value.Goals as goal

pub next-requires-clause-state : goal.next-requires-clause-state
next-requires-clause-state c = rw (c.letter_count-letters.ensures.value, c.requires.machine.size) (move_state c.args.problem.now c.args.place c.requires.problem.some c.requires.within)

pub next-requires-clause-letter : goal.next-requires-clause-letter
next-requires-clause-letter c = rw (c.letter_count-letters.ensures.value, c.requires.machine.reads) (letter_in c.args.problem.now (c.args.place / c.args.problem.now.size))
