use Rattle.std.proofs.Common.{Some, All, ap, subst, sym, ◌∙◌, arith}
use Rattle.std.proofs.lemmas.Option.{slice_get-get_or}
use Rattle.std.proofs.lemmas.List.{take_all}
use Rattle.refutation_log.specs.declared.entries.Entry.{Entry}
use Rattle.clause_solver.specs.Levels.{IsIdleBelow}
use Rattle.clause_solver.proofs.IdleLemmas.{idle_more}
use Rattle.clause_solver.proofs.levels.settled_level.Goals as goal

pub loop-entry-preserved : goal.loop-entry-preserved
loop-entry-preserved c =
    idle_more c.args.trail.now.marks c.args.entries.now c.loop-entry.entry-index c.entry-item.result c.loop-entry.least c.idle_level.result c.min-least.result (slice_get-get_or c.args.entries.now c.loop-entry.entry-index c.entry-item.result (omega arith) ∙ ap Some (sym c.entry-item.is)) c.min-least.ensures
    c.loop-entry.invariant (rw c.as_clause.ensures.value at c.idle_level.ensures)

pub returns : goal.returns
returns c =
    subst (All (λ (e : Entry). IsIdleBelow c.loop-entry.least c.args.trail.now.marks e.clause)) (take_all c.loop-entry.entry-index c.args.entries.now (omega arith)) c.loop-entry.invariant
