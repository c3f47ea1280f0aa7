use Rattle.solve_answer.specs.Parts.{limits_of}
use Rattle.solve_answer.proofs.Answered.{unknown_answers}
use Rattle.solve_answer.proofs.answering.unknown.Goals as goal

pub returns : goal.returns
returns c = λ text given is. rw c.in_ok-unknown_text.ensures (unknown_answers text given (limits_of c.args._refuting) c.args.text.now is)
