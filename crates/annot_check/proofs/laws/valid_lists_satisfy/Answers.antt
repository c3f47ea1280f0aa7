use Rattle.annot_check.proofs.Satisfying.{valid_lists_satisfy}
use Rattle.annot_check.proofs.laws.valid_lists_satisfy.Goals as goal

pub returns : goal.returns
returns c = valid_lists_satisfy _ c.valid_lists_show_kind.ensures
