use Rattle.tlsf_syntax.proofs.Unexpected.{determined}
use Rattle.tlsf_syntax.proofs.laws.unexpected_is_determined.Goals as goal

pub returns : goal.returns
returns c = determined
