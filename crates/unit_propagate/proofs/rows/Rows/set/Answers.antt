use Rattle.std.proofs.Common.{refl}
use Rattle.std.specs.Vec.{with_item}
use Rattle.unit_propagate.proofs.RowsLemmas.{SetsAt-write}
use Rattle.unit_propagate.proofs.rows.Rows.set.Goals as goal

pub returns : goal.returns
returns c =
    rw (← c.self.view_is)
    (SetsAt-write (λ row. row.items) c.self.inside.rows.items c.args.row c.index_mut.result.now (with_item c.index_mut.result.now c.args.i c.args.watcher) (rw (← c.self.view_is) at c.requires.in_table) c.index_mut.ensures.value
    c.args.i c.args.watcher refl)
