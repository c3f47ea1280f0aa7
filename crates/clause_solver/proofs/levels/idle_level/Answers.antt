use Rattle.std.proofs.Common.{Some, ap, subst, sym, ◌∙◌, arith}
use Rattle.std.proofs.lemmas.List.{take_all}
use Rattle.std.proofs.lemmas.Option.{slice_get-get_or}
use Rattle.clause_solver.proofs.IdleLemmas.{AreOpen, IsTrueFrom, none_open, open_at, true_more, idle_of_open, idle_of_true}
use Rattle.clause_solver.proofs.levels.idle_level.Goals as goal

pub loop-lit-init : goal.loop-lit-init
loop-lit-init c = (none_open c.args.trail.now.marks, λ level le high. absurd (omega arith))

pub loop-lit-preserved : goal.loop-lit-preserved
loop-lit-preserved c =
    let found = slice_get-get_or c.lits-lit-items.result.now c.loop-lit.lit-index c.lit-item.result (omega arith) ∙ ap Some (sym c.lit-item.is) in (
      open_at c.args.trail.now.marks c.lits-lit-items.result.now c.loop-lit.lit-index c.lit-item.result c.loop-lit.highest c.loop-lit.second c.levels_of-levels.result.falsity c.min.result c.max-highest.result c.max-second.result
          found c.min.ensures c.max-highest.ensures c.max-second.ensures c.loop-lit.invariant.0 c.levels_of-levels.ensures.falsity,
      true_more c.args.trail.now.marks c.lits-lit-items.result.now c.loop-lit.lit-index c.lit-item.result c.loop-lit.truth c.levels_of-levels.result.truth c.min-truth.result
          found c.min-truth.ensures c.loop-lit.invariant.1 c.levels_of-levels.ensures.truth,
    )

pub returns-then-truth-second : goal.returns-then-truth-second
returns-then-truth-second c =
    let clause = take_all c.loop-lit.lit-index c.lits-lit-items.result.now (omega arith) ∙ c.lits-lit-items.ensures.value in
    idle_of_true c.args.trail.now.marks c.args.clause.now c.loop-lit.highest c.loop-lit.second c.loop-lit.truth
    (subst (λ xs. AreOpen c.args.trail.now.marks xs c.loop-lit.highest c.loop-lit.second) clause c.loop-lit.invariant.0)
    (subst (λ xs. IsTrueFrom c.args.trail.now.marks xs c.loop-lit.truth) clause c.loop-lit.invariant.1) c.if-truth-second.true

pub returns-else-truth-second : goal.returns-else-truth-second
returns-else-truth-second c =
    idle_of_open c.args.trail.now.marks c.args.clause.now c.loop-lit.highest c.loop-lit.second
    (subst (λ xs. AreOpen c.args.trail.now.marks xs c.loop-lit.highest c.loop-lit.second) (take_all c.loop-lit.lit-index c.lits-lit-items.result.now (omega arith) ∙ c.lits-lit-items.ensures.value) c.loop-lit.invariant.0)
