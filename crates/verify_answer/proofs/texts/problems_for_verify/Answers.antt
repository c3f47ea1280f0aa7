use Rattle.verify_answer.proofs.Answered.{for_verify}
use Rattle.verify_answer.proofs.texts.problems_for_verify.Goals as goal

pub returns : goal.returns
returns c = for_verify c.args.text.now c.args.given c.problems_or_refusal.result c.problems_or_refusal.ensures.text c.problems_or_refusal.ensures.meet
