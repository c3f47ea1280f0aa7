use Rattle.std.proofs.Common.{length}
use Rattle.refutation_log.specs.Text.{hint_word}
use Rattle.refutation_log.specs.Read.{IsHint}
use Rattle.refutation_log.proofs.LineLemmas.{Reads}
use Rattle.refutation_log.proofs.read.take_hints.Given as goal

abbrev pub invariant-loop-hint : goal.invariant-loop-hint
invariant-loop-hint l = Reads hint_word IsHint l.bytes l.hints.items l.rest

abbrev pub decreases-loop-hint : goal.decreases-loop-hint
decreases-loop-hint l = length l.rest
