use Rattle.tlsf_expand.proofs.Expanded.{expansion_keeps_meaning}
use Rattle.tlsf_expand.proofs.laws.expansion_keeps_meaning.Goals as goal

pub returns : goal.returns
returns c = expansion_keeps_meaning
