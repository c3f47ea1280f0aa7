use Rattle.unrealizable_core.proofs.Questions.{questions_are_few}
use Rattle.unrealizable_core.proofs.laws.questions_are_few.Goals as goal

pub returns : goal.returns
returns c = questions_are_few
