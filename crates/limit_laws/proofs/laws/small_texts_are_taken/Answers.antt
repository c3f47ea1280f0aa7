use Rattle.tlsf_expand.proofs.Expanded.{expansion_keeps_meaning}
use Rattle.limit_laws.proofs.Taken.{no_solve_fault}
use Rattle.limit_laws.proofs.laws.small_texts_are_taken.Goals as goal

pub returns : goal.returns
returns c = no_solve_fault expansion_keeps_meaning
