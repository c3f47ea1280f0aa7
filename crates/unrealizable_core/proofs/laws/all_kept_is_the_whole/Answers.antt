use Rattle.unrealizable_core.proofs.Texts.{all_kept_is_the_whole}
use Rattle.unrealizable_core.proofs.laws.all_kept_is_the_whole.Goals as goal

pub returns : goal.returns
returns c = all_kept_is_the_whole
