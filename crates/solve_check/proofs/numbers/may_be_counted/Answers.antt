use Rattle.solve_check.proofs.CountedLemmas.{none_counted, too_many_counted, too_many_inputs}
use Rattle.solve_check.proofs.numbers.may_be_counted.Goals as goal
use Rattle.solve_check.proofs.numbers.may_be_counted.Goals.{then-states-eq0-via-then-states-eq0, then-states-eq0-via-else-states-eq0+then-states-gt-MOST_STATES, then-states-eq0-via-else-states-eq0+else-states-gt-MOST_STATES+then-inputs-gt26}

pub returns-then-states-eq0 : goal.returns-then-states-eq0
returns-then-states-eq0 c = elim c.then-states-eq0.branch [
  | then-states-eq0-via-then-states-eq0 w ↦ none_counted c.args.states c.args.inputs w.if-states-eq0.true
  | then-states-eq0-via-else-states-eq0+then-states-gt-MOST_STATES w ↦ too_many_counted c.args.states c.args.inputs w.if-states-gt-MOST_STATES.true
  | then-states-eq0-via-else-states-eq0+else-states-gt-MOST_STATES+then-inputs-gt26 w ↦ too_many_inputs c.args.states c.args.inputs w.if-states-eq0.false w.if-inputs-gt26.true
]
