use Rattle.unit_propagate.proofs.LawsLemmas.{longer_lists_keep}
use Rattle.unit_propagate.proofs.laws.longer_lists_keep.Goals as goal

pub returns : goal.returns
returns c = longer_lists_keep
