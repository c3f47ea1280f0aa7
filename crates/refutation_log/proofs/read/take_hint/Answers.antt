use Rattle.refutation_log.proofs.LineLemmas.{no_hint_zero}
use Rattle.refutation_log.proofs.read.take_hint.Goals as goal

pub returns-then-hint-eq0 : goal.returns-then-hint-eq0
returns-then-hint-eq0 c = no_hint_zero c.args.bytes.now c.in_ok-hint.rest.now (rw c.if-hint-eq0.true at c.in_ok-hint.ensures)
