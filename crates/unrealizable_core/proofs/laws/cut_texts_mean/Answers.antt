use Rattle.unrealizable_core.proofs.CutMeaning.{cut_texts_mean}
use Rattle.unrealizable_core.proofs.laws.cut_texts_mean.Goals as goal

pub returns : goal.returns
returns c = cut_texts_mean
