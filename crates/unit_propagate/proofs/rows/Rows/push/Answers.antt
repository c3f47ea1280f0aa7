use Rattle.std_lemmas.proofs.Results.{on_err}
use Rattle.unit_propagate.proofs.RowsLemmas.{same_write, AddsTo-write}
use Rattle.unit_propagate.proofs.rows.Rows.push.Goals as goal

pub returns-in_err-push-clause-err : goal.returns-in_err-push-clause-err
returns-in_err-push-clause-err c =
    on_err c.from_residual.result (rw (← c.self.view_is)
    (same_write (λ row. row.items) c.self.inside.rows.items c.args.row c.index_mut.result.now c.push.new.self (rw (← c.self.view_is) at c.requires) c.index_mut.ensures.value c.in_err-push.ensures.items))

pub returns-clause-ok : goal.returns-clause-ok
returns-clause-ok c =
    rw (← c.self.view_is)
    (AddsTo-write (λ row. row.items) c.self.inside.rows.items c.args.row c.index_mut.result.now c.push.new.self (rw (← c.self.view_is) at c.requires) c.index_mut.ensures.value c.args.watcher c.in_ok-push.ensures.items)
