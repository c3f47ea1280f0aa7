use Rattle.synth_answer.proofs.answering.answer.Goals as goal

pub returns : goal.returns
returns g c = c.in_ok-answer.ensures.answers
