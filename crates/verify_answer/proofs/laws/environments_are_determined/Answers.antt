use Rattle.verify_answer.proofs.Determined.{environments}
use Rattle.verify_answer.proofs.laws.environments_are_determined.Goals as goal

pub returns : goal.returns
returns c = environments c.first_bad_lines_are_determined.ensures c.solve_texts_are_determined.ensures
