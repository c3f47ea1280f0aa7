use Rattle.verify_answer.proofs.Tested.{testable}
use Rattle.verify_answer.proofs.texts.text_for_verify.Goals as goal

pub returns-in-Ok : goal.returns-in-Ok
returns-in-Ok c = testable c.args.text.now c.args.given c.in-Ok.known c.in-Ok.ensures.text c.solve_texts_are_determined.ensures
