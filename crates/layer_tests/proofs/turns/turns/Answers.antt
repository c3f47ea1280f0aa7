use Rattle.std.proofs.Common.{sym, subst, ap, ◌∙◌}
use Rattle.clause_solver.specs.Worker.{WorkerModel, IsWorkingOn}
use Rattle.layer_tests.proofs.turns.turns.Goals as goal

pub loop-turn-preserved : goal.loop-turn-preserved
loop-turn-preserved c =
    let clauses = c.args.base.now.clauses.items in
    let log = c.take_turn.new.log.items in
    let more = c.in_ok-end.ensures.grown in
    let other = subst (λ es. IsWorkingOn clauses es c.loop-turn.other) (sym more.1) (c.work_goes_on.ensures.longer clauses c.loop-turn.log.items more.0 c.loop-turn.other c.loop-turn.invariant.4) in (
      ap (λ (w : WorkerModel). w.trail.vars) c.swap.ensures.x_after ∙ c.loop-turn.invariant.1,
      ap (λ (w : WorkerModel). w.trail.vars) c.swap.ensures.y_after ∙ (c.take_turn.ensures.vars ∙ c.loop-turn.invariant.0),
      c.in_ok-end.ensures.within,
      subst (IsWorkingOn clauses log) (sym c.swap.ensures.x_after) other,
      subst (IsWorkingOn clauses log) (sym c.swap.ensures.y_after) c.in_ok-end.ensures.working,
    )
