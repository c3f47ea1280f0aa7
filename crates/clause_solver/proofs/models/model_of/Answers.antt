use Rattle.std.proofs.Common.{◌∙◌, ap, sym}
use Rattle.propositional_logic.specs.Truth.{meets}
use Rattle.clause_solver.proofs.ModelLemmas.{next_true, all_met}
use Rattle.clause_solver.proofs.models.model_of.Goals as goal

pub loop-clause-preserved : goal.loop-clause-preserved
loop-clause-preserved c =
    next_true c.args.base.now.vars c.args.trail.now.marks c.in_ok-values.values.items c.args.base.now.clauses.items c.deref-clause-items.result.now c.loop-clause.clause-index c.clause-item.result c.deref-clause-items.ensures.value
    c.loop-clause-test.true c.clause-item.is (record { count = c.in_ok-values.ensures.length; agree = c.in_ok-values.ensures.value }) c.requires.formula.1 c.requires.quiet c.lits-lits.ensures.sorted c.loop-clause.invariant

pub returns : goal.returns
returns c = record {
  total = c.in_ok-values.ensures.length;
  meets = ap (meets c.in_ok-values.values.items) (sym c.deref-clause-items.ensures.value) ∙ all_met c.in_ok-values.values.items c.deref-clause-items.result.now c.loop-clause.clause-index c.loop-clause-test.false c.loop-clause.invariant;
}
