use Rattle.annot_check.proofs.Walks.{valid_lists_show}
use Rattle.annot_check.proofs.laws.valid_lists_show.Goals as goal

pub returns : goal.returns
returns c = valid_lists_show _
