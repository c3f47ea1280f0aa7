use Rattle.std.proofs.Common.{length}
use Rattle.refutation_log.specs.Text.{literal_word}
use Rattle.refutation_log.specs.Read.{IsLiteral}
use Rattle.refutation_log.proofs.LineLemmas.{Reads}
use Rattle.refutation_log.proofs.read.take_literals.Given as goal

abbrev pub invariant-loop-lit : goal.invariant-loop-lit
invariant-loop-lit l = Reads literal_word IsLiteral l.bytes l.lits.items l.rest

abbrev pub decreases-loop-lit : goal.decreases-loop-lit
decreases-loop-lit l = length l.rest
