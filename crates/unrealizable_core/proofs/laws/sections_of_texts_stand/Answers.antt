use Rattle.unrealizable_core.proofs.Texts.{sections_of_texts_stand}
use Rattle.unrealizable_core.proofs.laws.sections_of_texts_stand.Goals as goal

pub returns : goal.returns
returns c = sections_of_texts_stand
