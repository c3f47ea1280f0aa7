use Rattle.product_bound.proofs.Numbering.{numbered_form}
use Rattle.product_bound.proofs.laws.numbered_suffices.Goals as goal

pub returns : goal.returns
returns c = numbered_form
