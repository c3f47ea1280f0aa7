use Rattle.tlsf_syntax.proofs.Spans.{whole}
use Rattle.tlsf_syntax.proofs.laws.spans_are_whole.Goals as goal

pub returns : goal.returns
returns c = whole
