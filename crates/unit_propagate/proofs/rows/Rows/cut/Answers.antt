use Rattle.std.proofs.Common.{◌-◌, ap, ◌∙◌}
use Rattle.std.specs.Prelude.{vec_len}
use Rattle.unit_propagate.proofs.RowsLemmas.{CutsOut-write, in_row, cut_out}
use Rattle.unit_propagate.proofs.rows.Rows.cut.Goals as goal

pub returns : goal.returns
returns c =
    let fits = rw (← c.self.view_is) at c.requires.in_table in
    let list = c.index_mut-list.result.now in
    rw (← c.self.view_is)
    (CutsOut-write (λ row. row.items) c.self.inside.rows.items c.args.row list c.truncate.new.self fits c.index_mut-list.ensures.value c.args.from c.args.to
    (cut_out list.items c.copy_within.new.self.items c.truncate.new.self.items c.args.from c.args.to (vec_len list) (c.len.result - c.args.to) c.requires.order
    (in_row (λ row. row.items) c.self.inside.rows.items c.args.row list c.truncate.new.self fits c.index_mut-list.ensures.value c.args.to (rw (← c.self.view_is) at c.requires.in_row))
    list.ok.0 (ap (λ n. n - c.args.to) (c.len.ensures ∙ list.ok.0)) c.copy_within.ensures.items c.truncate.ensures.items))
