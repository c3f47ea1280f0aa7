use Rattle.check_answer.proofs.Answered.{for_certificates}
use Rattle.check_answer.proofs.answering.problems_for_check.Goals as goal

pub returns : goal.returns
returns c = for_certificates c.args.text.now c.problems_or_refusal.result c.problems_or_refusal.ensures.text c.problems_or_refusal.ensures.meet
