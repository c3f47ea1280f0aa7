use Rattle.annotation_encode.proofs.AssignedLemmas.{write_in}
use Rattle.annotation_encode.proofs.assigning.write_value.Goals as goal

pub written_at-written-requires-clause-within : goal.written_at-written-requires-clause-within
written_at-written-requires-clause-within c = rw c.writes.ensures (write_in c.args.problem.now c.args.place c.requires.within)
