use Rattle.std.proofs.Common.{[], ◌∷◌}
use Rattle.std.proofs.lemmas.Slice.Eq.{strip_prefix_is}
use Rattle.std.proofs.lemmas.Bool.Decides.{Decides-eqb}
use Rattle.refutation_log.proofs.LineLemmas.{no_literals}
use Rattle.refutation_log.proofs.read.take_literals.Goals as goal

pub returns : goal.returns
returns c =
    no_literals c.args.bytes.now c.loop-lit.lits.items c.loop-lit.rest.now c.loop-lit.invariant c.in_default.ensures
    (rw c.in-None.is at (strip_prefix_is Decides-eqb c.loop-lit.rest.now (48 ∷ 32 ∷ []) c.strip_prefix.result c.strip_prefix.ensures.cases))
