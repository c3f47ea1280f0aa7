use Rattle.std.proofs.Common.{◌≡◌, [], map, replicate}
use Rattle.unit_propagate.proofs.rows.Rows.new.Given as goal

abbrev pub invariant-loop-i : goal.invariant-loop-i
invariant-loop-i l = map (λ row. row.items) l.rows.items ≡ replicate l._i []
