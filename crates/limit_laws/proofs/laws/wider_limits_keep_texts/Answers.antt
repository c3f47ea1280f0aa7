use Rattle.limit_laws.proofs.Expanded.{same_text}
use Rattle.limit_laws.proofs.laws.wider_limits_keep_texts.Goals as goal

pub returns : goal.returns
returns c = same_text
