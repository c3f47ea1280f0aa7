use Rattle.tlsf_syntax.proofs.Sound.{exactly}
use Rattle.tlsf_syntax.proofs.laws.expressions_are_read_exactly.Goals as goal

pub returns : goal.returns
returns c = exactly
