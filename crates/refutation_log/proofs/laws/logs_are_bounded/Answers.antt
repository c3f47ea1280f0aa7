use Rattle.refutation_log.proofs.CodeLemmas.{few-clauses, fewer-clauses, never_full, not_both}
use Rattle.refutation_log.proofs.laws.logs_are_bounded.Goals as goal

pub returns : goal.returns
returns c = record { all = few-clauses; unended = fewer-clauses; full = never_full; apart = not_both }
