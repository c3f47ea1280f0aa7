use Rattle.std.proofs.Common.{◌∙◌, ◌==◌, ap, sym, length}
use Rattle.refutation_log.proofs.StateLemmas.{is_ended-last_key, is_empty_clause-length}
use Rattle.refutation_log.proofs.state.LogState.is_closed.Goals as goal

pub returns-in-Some : goal.returns-in-Some
returns-in-Some c =
    rw (← c.self.view_is) (c.is_empty.ensures ∙ ap (λ xs. length xs == 0) c.lits.ensures.value ∙ sym (is_empty_clause-length c.in-Some.clause.now)
    ∙ sym (is_ended-last_key c.self.inside.entries.entries c.in-Some.clause.now c.in-Some.field-0-1.now c.in-Some.ensures.entry))
