use Rattle.tlsf_syntax.proofs.Texts.{one_text}
use Rattle.tlsf_syntax.proofs.laws.texts_have_one_tree.Goals as goal

pub returns : goal.returns
returns c = one_text
