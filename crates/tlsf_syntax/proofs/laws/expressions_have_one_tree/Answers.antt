use Rattle.tlsf_syntax.proofs.Reading.{one_tree}
use Rattle.tlsf_syntax.proofs.laws.expressions_have_one_tree.Goals as goal

pub returns : goal.returns
returns c = one_tree
