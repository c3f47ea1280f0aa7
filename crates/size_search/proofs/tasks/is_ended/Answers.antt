use Rattle.std.proofs.Common.{sym, ap, ◌∙◌}
use Rattle.refutation_log.specs.Log.{is_empty_clause}
use Rattle.refutation_log.proofs.StateLemmas.{is_ended-last, is_empty_clause-length}
use Rattle.size_search.proofs.tasks.is_ended.Goals as goal

pub returns-in-Some : goal.returns-in-Some
returns-in-Some c = let here = c.in-Some.ensures in c.is_empty.ensures ∙ sym (is_empty_clause-length c.lits.result.now) ∙ ap is_empty_clause c.lits.ensures.value ∙ sym (is_ended-last c.args.entries.now c.in-Some.entry.now (sym here.value))
