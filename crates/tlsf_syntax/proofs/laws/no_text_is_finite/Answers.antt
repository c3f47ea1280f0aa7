use Rattle.tlsf_syntax.proofs.SemanticsWords.{never_finite}
use Rattle.tlsf_syntax.proofs.laws.no_text_is_finite.Goals as goal

pub returns : goal.returns
returns c = never_finite
