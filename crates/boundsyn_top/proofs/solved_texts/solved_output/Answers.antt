use Rattle.boundsyn_top.proofs.solved_texts.solved_output.Goals as goal

pub returns-in-Taken : goal.returns-in-Taken
returns-in-Taken c = record {
  answers = (rw c.in-Taken.is at c.in_ok-taken.ensures.answers) c.args.nodes;
  writable = rw c.in-Taken.is at c.in_ok-taken.ensures.answerable;
}

pub returns-in-Refused : goal.returns-in-Refused
returns-in-Refused c = record { answers = (rw c.in-Refused.is at c.in_ok-taken.ensures.refused) c.args.nodes; writable = tt }
