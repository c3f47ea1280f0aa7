use Rattle.tlsf_syntax.proofs.Exact.{exactly}
use Rattle.tlsf_syntax.proofs.laws.texts_are_read_exactly.Goals as goal

pub returns : goal.returns
returns c = exactly
