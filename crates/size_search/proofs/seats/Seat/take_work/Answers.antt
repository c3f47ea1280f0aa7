use Rattle.std.proofs.Common.{◌≡◌, ap, ◌∙◌}
use Rattle.clause_exchange.specs.SharedLog.{PassView}
use Rattle.size_search.proofs.SeatLemmas.{work_begins}
use Rattle.size_search.proofs.seats.Seat.take_work.Goals as goal

pub returns-clause-work : goal.returns-clause-work
returns-clause-work c =
    work_begins c.args.self.now c.self.inside.number c.args.vars c.in_ok-new.field-0 c.new-2.result.items c.in_ok-new.ensures c.new-2.ensures.items
    (c.self.invariant.0 ∙ ap (λ (p : PassView). p.number) c.self.view_is) c.requires
