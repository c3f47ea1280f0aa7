use Rattle.std.proofs.Common.{[], ◌∷◌}
use Rattle.std.proofs.lemmas.Slice.Eq.{strip_prefix_is}
use Rattle.std.proofs.lemmas.Bool.Decides.{Decides-eqb}
use Rattle.refutation_log.proofs.LineLemmas.{no_hints}
use Rattle.refutation_log.proofs.read.take_hints.Goals as goal

pub returns : goal.returns
returns c =
    no_hints c.args.bytes.now c.loop-hint.hints.items c.loop-hint.rest.now c.loop-hint.invariant c.in_default.ensures
    (rw c.in-None.is at (strip_prefix_is Decides-eqb c.loop-hint.rest.now (48 ∷ 10 ∷ []) c.strip_prefix.result c.strip_prefix.ensures.cases))
