use Rattle.std.proofs.Common.{◌≡◌, ◌-◌, ◌<◌, length, sym, ◌∙◌, arith}
use Rattle.size_search.specs.Task.{SizeTaskModel}
use Rattle.synth_engine.proofs.HandLemmas.{collected, crews_some, front_of, last_of}
use Rattle.synth_engine.proofs.settling.Unsettled.settle_next.Goals as goal

pub draw-requires : goal.draw-requires
draw-requires g c = crews_some (length c.args.self.crews.items - 1) c.args.self.tasks.items c.args.self.crews.items c.requires.some c.requires.seats.crews

pub settle_task-requires-clause-all : goal.settle_task-requires-clause-all
settle_task-requires-clause-all g c =
    last_of (λ (t : SizeTaskModel). t.exchange.terms.seats ≡ length c.args.self.crews.items) c.args.self.tasks.items c.pop.new.self.items c.in-Some.task c.in-Some.ensures.items c.requires.seats.all
    ∙ sym c.in_ok-seats.ensures.as_many

pub settle_task-requires-clause-seats : goal.settle_task-requires-clause-seats
settle_task-requires-clause-seats g c =
    rw c.in_ok-seats.ensures.as_many
    ((collected (length c.args.self.crews.items - 1) c.pop.new.self.items c.in-Some.task c.args.self.crews.items c.in_ok-seats.crews.items c.in_ok-seats.seats.items c.in_ok-seats.ensures
    (rw (sym c.in-Some.ensures.items) c.requires.seats.crews)).1)

pub returns-clause-seats : goal.returns-clause-seats
returns-clause-seats g c =
    let many : length c.in_ok-seats.crews.items ≡ length c.args.self.crews.items = c.in_ok-seats.ensures.as_many_left in
    let some : 0 < length c.args.self.crews.items = c.requires.seats.some in
    record {
      some = omega arith;
      crews = rw many ((collected (length c.args.self.crews.items - 1) c.pop.new.self.items c.in-Some.task c.args.self.crews.items c.in_ok-seats.crews.items c.in_ok-seats.seats.items c.in_ok-seats.ensures
          (rw (sym c.in-Some.ensures.items) c.requires.seats.crews)).0);
      all = rw many (front_of (λ (t : SizeTaskModel). t.exchange.terms.seats ≡ length c.args.self.crews.items) c.pop.new.self.items c.in-Some.task (rw (sym c.in-Some.ensures.items) c.requires.seats.all));
    }
