use Rattle.tlsf_expand.proofs.Expanded.{expansion_has_few_signals as law}
use Rattle.tlsf_expand.proofs.laws.expansion_has_few_signals.Goals as goal

pub returns : goal.returns
returns c = law
