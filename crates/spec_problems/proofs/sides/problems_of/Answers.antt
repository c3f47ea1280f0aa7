use Rattle.std.proofs.Common.{Err, sym, ap, ◌∙◌}
use Rattle.ltl_formula.specs.Nodes.{tree_at}
use Rattle.spec_problems.proofs.Refusals.{form_fault, same_fault}
use Rattle.spec_problems.proofs.Within.{problems_within}
use Rattle.spec_problems.proofs.sides.problems_of.Goals as goal

pub returns-in-Err-clause-fault : goal.returns-in-Err-clause-fault
returns-in-Err-clause-fault c = λ code place e.
    form_fault (tree_at c.args.formulas.now c.args.whole) c.args.formulas.now c.problems.new.formulas c.in-Err.fault (λ is. c.in-Err.ensures.too_large (ap Err is)) (λ is. c.in-Err.ensures.too_many (ap Err is)) code place
    (sym c.refusal_of.ensures ∙ same_fault _ _ e)

pub returns-in-Ok-sides-clause-meet : goal.returns-in-Ok-sides-clause-meet
returns-in-Ok-sides-clause-meet c =
    problems_within c.args.interface c.args.formulas.now c.in-Ok.automata c.in-Ok-sides.sides c.requires.few c.in-Ok.ensures.limits c.in-Ok-sides.ensures
