use Rattle.std.proofs.Common.{◌+◌, ◌≤◌, length, arith}
use Rattle.cobuchi_build.proofs.Meeting.{sum_within}
use Rattle.cobuchi_build.proofs.exploring.counter_after.Goals as goal
use Rattle.cobuchi_build.proofs.exploring.counter_after.Goals.{After-met_in_turn, then-counter-untils, else-counter-untils}

begins : (c : After-met_in_turn) → c.if-counter-untils.begin ≤ length c.args.untils.now
begins c =
    elim c.if-counter-untils.branch [
      | then-counter-untils w ↦ rw (w.begin-is) (omega arith)
      | else-counter-untils w ↦ rw (w.begin-is) c.requires.counter
    ]

within : (c : After-met_in_turn) → c.if-counter-untils.begin + c.met_in_turn.result ≤ length c.args.untils.now
within c = sum_within c.args.untils.now c.if-counter-untils.begin c.met_in_turn.result (begins c) c.met_in_turn.ensures.within

pub overflow_add-result : goal.overflow_add-result
overflow_add-result c = let h = within (goal.at.overflow_add-result c).After-met_in_turn in omega (arith, h, c.requires.few)

pub overflow_cast-result : goal.overflow_cast-result
overflow_cast-result c = let h = within (goal.at.overflow_cast-result c).After-met_in_turn in omega (arith, h, c.requires.few)

pub returns-clause-within : goal.returns-clause-within
returns-clause-within c = within (goal.at.returns-clause-within c).After-met_in_turn
