use Rattle.check_answer.proofs.Determined.{determined}
use Rattle.check_answer.proofs.laws.checks_are_determined.Goals as goal

pub returns : goal.returns
returns c =
    determined (record {
      texts = c.problems_of_texts_are_determined.ensures;
      bad_lines = c.bad_lines_are_determined.ensures;
      documents = c.documents_are_determined.ensures;
      alike = c.alike_texts_check_alike.ensures;
      solving = c.solve_texts_are_determined.ensures;
      solved = c.solved_are_determined.ensures;
      checks = c.solved_checks_are_determined.ensures;
    })
