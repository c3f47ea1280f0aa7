use Rattle.verify_answer.proofs.Determined.{determined}
use Rattle.verify_answer.proofs.laws.verifications_are_determined.Goals as goal

pub returns : goal.returns
returns c =
    determined c.problems_of_texts_are_determined.ensures c.files_state_one_thing.ensures c.files_have_one_fault.ensures c.faults_state_nothing.ensures
    c.readings_are_apart.ensures c.first_bad_lines_are_determined.ensures c.solve_texts_are_determined.ensures
