use Rattle.std.proofs.Common.{◌≡◌, ◌<◌, map, length, sym, subst, ap, ◌∙◌}
use Rattle.unit_propagate.specs.Rows.{row_at}
use Rattle.unit_propagate.proofs.RowsLemmas.{row_of, taken_back}
use Rattle.unit_propagate.proofs.rows.Rows.push_both.Goals as goal

pub returns-in-Err-clause-err : goal.returns-in-Err-clause-err
returns-in-Err-clause-err c =
    let list = c.index.result.now in
    let fits : c.args.first < length (map (λ row. row.items) c.self.inside.rows.items) = rw (← c.self.view_is) at c.requires.first_fits in
    let end : c.len-end.result ≡ length (row_at (map (λ row. row.items) c.self.inside.rows.items) c.args.first) =
    c.len-end.ensures ∙ list.ok.0 ∙ ap length (sym (row_of (λ row. row.items) c.self.inside.rows.items c.args.first list list fits c.index.ensures)) in
    taken_back c.args.self.now c.push.new.self c.push-2.new.self c.cut.new.self c.args.first c.len-end.result c.args.x c.in_ok-push.ensures.ok c.in-Err.ensures.err c.cut.ensures
    (subst (λ rows. c.len-end.result ≡ length (row_at rows c.args.first)) c.self.view_is end)
