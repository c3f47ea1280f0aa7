use Rattle.std.proofs.Common.{List, ◌++◌, ap, ◌∙◌}
use Rattle.clause_exchange.specs.SharedLog.{PassView}
use Rattle.size_search.proofs.SeatLemmas.{numbered}
use Rattle.size_search.proofs.tasks.seats_of.Goals as goal

pub new-requires : goal.new-requires
new-requires c =
    numbered c.args.passes.items c.loop-pass.seats.items c.next.new.self.rest.items c.in-Some.pass c.loop-pass.number c.requires.numbers
    (c.loop-pass.invariant.0 ∙ ap (λ (l : List PassView). c.loop-pass.seats.items ++ l) c.in-Some.ensures.steps.0) c.loop-pass.invariant.1
