use Rattle.std.proofs.Common.{◌∙◌, ◌==◌, ap, sym, length}
use Rattle.refutation_log.proofs.StateLemmas.{is_ended-last, is_empty_clause-length}
use Rattle.size_refutations.proofs.logs.is_ended.Goals as goal

pub returns-in-Some : goal.returns-in-Some
returns-in-Some c =
    c.is_empty.ensures ∙ ap (λ xs. length xs == 0) c.lits.ensures.value ∙ sym (is_empty_clause-length c.in-Some.entry.now.clause)
    ∙ sym (is_ended-last c.args.entries.now c.in-Some.entry.now (sym c.in-Some.ensures.value))
