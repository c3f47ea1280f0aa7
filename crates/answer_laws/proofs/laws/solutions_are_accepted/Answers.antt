use Rattle.answer_laws.proofs.Solved as solved
use Rattle.answer_laws.proofs.laws.solutions_are_accepted.Goals as goal

pub returns : goal.returns
returns c =
    solved.solutions_are_accepted (record {
      documents = c.solved_are_determined.ensures;
      checks = c.checks_are_determined.ensures;
      texts = c.solve_texts_are_determined.ensures;
      kinds = c.own_kinds_are_given.ensures;
    })
