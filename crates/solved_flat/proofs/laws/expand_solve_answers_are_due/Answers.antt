use Rattle.solved_flat.proofs.ExpandOnce.{are_due}
use Rattle.solved_flat.proofs.laws.expand_solve_answers_are_due.Goals as goal

pub returns : goal.returns
returns c = are_due c.solve_texts_are_determined.ensures c.flat_texts_are_determined.ensures c.trees_are_determined.ensures
