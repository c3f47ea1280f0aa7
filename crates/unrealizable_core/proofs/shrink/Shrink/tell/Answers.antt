use Rattle.std.proofs.Common.{◌≤◌, length, ap, arith, ◌∙◌}
use Rattle.unrealizable_core.proofs.Standings.{answered_in_turn, answered_long}
use Rattle.unrealizable_core.proofs.shrink.Shrink.tell.Goals as goal

pub invariant_of-self : goal.invariant_of-self
invariant_of-self c =
    let s = c.self.inside.standings.items in
    let first = rw (← c.self.view_is) at (c.ask.ensures.least c.in-Some.number c.in-Some.is) in
    let long = answered_long c.args.defeat c.in-Some.number s in
    let short : length s ≤ 64 = c.self.invariant.0 in
    rw c.answer.ensures (omega arith, answered_in_turn s c.in-Some.number first c.args.defeat)

pub returns-clause-numbers : goal.returns-clause-numbers
returns-clause-numbers c = ap length c.answer.ensures ∙ answered_long c.args.defeat c.in-Some.number c.self.inside.standings.items ∙ ap length c.self.view_is
