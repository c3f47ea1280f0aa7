use Rattle.std.proofs.Common.{◌+◌}
use Rattle.clause_solver.proofs.ModelLemmas.{not_free, total_more}
use Rattle.clause_solver.proofs.decisions.first_free.Goals as goal

pub loop-place-preserved : goal.loop-place-preserved
loop-place-preserved c =
    total_more c.args.trail.now.marks c.loop-place.place c.loop-place.invariant
    (not_free c.args.trail.now.marks (c.loop-place.place + 1) c.value.result c.value.ensures.some c.if-is_none.ensures)
