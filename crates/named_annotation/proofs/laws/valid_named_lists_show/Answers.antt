use Rattle.named_annotation.proofs.Showing.{valid_named_lists_show as law}
use Rattle.named_annotation.proofs.laws.valid_named_lists_show.Goals as goal

pub returns : goal.returns
returns c = law c.true_formulas_have_paths.ensures
