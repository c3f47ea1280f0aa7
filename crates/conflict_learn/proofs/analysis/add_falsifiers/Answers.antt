use Rattle.std.proofs.Common.{Contains, sym, subst, arith}
use Rattle.std.proofs.lemmas.List.{take_all}
use Rattle.conflict_learn.proofs.StepLemmas.{more_all, more_only}
use Rattle.conflict_learn.proofs.analysis.add_falsifiers.Goals as goal

pub loop-lit-preserved : goal.loop-lit-preserved
loop-lit-preserved c = (
  λ q h. c.in_ok-add_falsifier.ensures.ok.keeps q (c.loop-lit.invariant.0 q h),
  more_all c.args.trail.now.marks c.args.lits.now c.loop-lit.lit-index c.lit-item.result c.loop-lit.places c.add_falsifier.new.places (omega arith) c.lit-item.is c.in_ok-add_falsifier.ensures.ok c.loop-lit.invariant.1,
  more_only c.args.trail.now.marks c.args.lits.now c.loop-lit.lit-index c.lit-item.result c.args.places.now c.loop-lit.places c.add_falsifier.new.places (omega arith) c.lit-item.is c.in_ok-add_falsifier.ensures.ok c.loop-lit.invariant.2,
)

pub returns-clause-all : goal.returns-clause-all
returns-clause-all c = λ l h. c.loop-lit.invariant.1 l (subst (λ xs. Contains xs l) (sym (take_all c.loop-lit.lit-index c.args.lits.now (omega arith))) h)

pub returns-in_err-add_falsifier-clause-keeps : goal.returns-in_err-add_falsifier-clause-keeps
returns-in_err-add_falsifier-clause-keeps c = λ q h. subst (λ xs. Contains xs q) (sym c.in_err-add_falsifier.ensures.err) (c.loop-lit.invariant.0 q h)

pub returns-in_err-add_falsifier-clause-only : goal.returns-in_err-add_falsifier-clause-only
returns-in_err-add_falsifier-clause-only c = λ q h. c.loop-lit.invariant.2 q (subst (λ xs. Contains xs q) c.in_err-add_falsifier.ensures.err h)
