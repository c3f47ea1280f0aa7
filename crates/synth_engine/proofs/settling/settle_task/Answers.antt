use Rattle.std.proofs.Common.{◌≡◌, ◌+◌, ◌-◌, [], ◌∷◌, length, sym, ◌∙◌, ap, arith, length-append, inl, inr}
use Rattle.clause_exchange.specs.SharedLog.{PassView}
use Rattle.size_search.specs.SizeLog.{HoldsEnded}
use Rattle.synth_engine.proofs.HandLemmas.{at_all, at_goes_on, at_numbers, at_pop, last_of}
use Rattle.synth_engine.proofs.settling.settle_task.Goals as goal

pub finish-requires : goal.finish-requires
finish-requires g c = record { exchange = (at_pop (length c.args.seats.items - 1) c.args.task.exchange c.pop.new.self.items c.in-Some.own (rw (sym c.in-Some.ensures.items) c.requires.seats)).1 }

pub close-requires-clause-exchange : goal.close-requires-clause-exchange
close-requires-clause-exchange g c =
    at_all (length c.args.seats.items - 1) c.args.task.exchange c.push.new.self.items
    (at_goes_on (length c.args.seats.items - 1) c.args.task.exchange c.args.seats.items c.pop.new.self.items c.push.new.self.items c.in-Some.own c.finish.new.seat c.requires.seats c.in-Some.ensures.items c.in_ok-decided.ensures.goes_on c.in_ok-push.ensures.items)

pub close-requires-clause-each : goal.close-requires-clause-each
close-requires-clause-each g c =
    let at = at_goes_on (length c.args.seats.items - 1) c.args.task.exchange c.args.seats.items c.pop.new.self.items c.push.new.self.items c.in-Some.own c.finish.new.seat c.requires.seats c.in-Some.ensures.items c.in_ok-decided.ensures.goes_on c.in_ok-push.ensures.items in
    let was : length c.args.seats.items ≡ length c.pop.new.self.items + 1 = ap length c.in-Some.ensures.items ∙ length-append c.pop.new.self.items (c.in-Some.own ∷ []) in
    let is : length c.push.new.self.items ≡ length c.pop.new.self.items + 1 = ap length c.in_ok-push.ensures.items ∙ length-append c.pop.new.self.items (c.finish.new.seat ∷ []) in
    let all : c.args.task.exchange.terms.seats ≡ length c.args.seats.items = c.requires.all in
    λ number below. at_numbers (length c.args.seats.items - 1) c.args.task.exchange c.push.new.self.items number at (omega arith) (omega arith)

pub close-requires-in-Full-clause-exchange : goal.close-requires-in-Full-clause-exchange
close-requires-in-Full-clause-exchange g c =
    at_all (length c.args.seats.items - 1) c.args.task.exchange c.push.new.self.items
    (at_goes_on (length c.args.seats.items - 1) c.args.task.exchange c.args.seats.items c.pop.new.self.items c.push.new.self.items c.in-Some.own c.finish.new.seat c.requires.seats c.in-Some.ensures.items c.in_ok-decided.ensures.goes_on c.in_ok-push.ensures.items)

pub close-requires-in-Full-clause-each : goal.close-requires-in-Full-clause-each
close-requires-in-Full-clause-each g c =
    let at = at_goes_on (length c.args.seats.items - 1) c.args.task.exchange c.args.seats.items c.pop.new.self.items c.push.new.self.items c.in-Some.own c.finish.new.seat c.requires.seats c.in-Some.ensures.items c.in_ok-decided.ensures.goes_on c.in_ok-push.ensures.items in
    let was : length c.args.seats.items ≡ length c.pop.new.self.items + 1 = ap length c.in-Some.ensures.items ∙ length-append c.pop.new.self.items (c.in-Some.own ∷ []) in
    let is : length c.push.new.self.items ≡ length c.pop.new.self.items + 1 = ap length c.in_ok-push.ensures.items ∙ length-append c.pop.new.self.items (c.finish.new.seat ∷ []) in
    let all : c.args.task.exchange.terms.seats ≡ length c.args.seats.items = c.requires.all in
    λ number below. at_numbers (length c.args.seats.items - 1) c.args.task.exchange c.push.new.self.items number at (omega arith) (omega arith)

pub returns-in_ok-close-in-Refuted : goal.returns-in_ok-close-in-Refuted
returns-in_ok-close-in-Refuted g c =
    let ends = last_of (λ (s : PassView). HoldsEnded c.args.task.exchange.terms c.in_ok-close-in-Refuted.field-0.log.entries s.seen) c.push.new.self.items c.pop.new.self.items c.finish.new.seat c.in_ok-push.ensures.items c.in_ok-close-in-Refuted.ensures.ended in
    let decided = rw c.in-Refuted.is at c.in_ok-decided.ensures.decided in
    (c.in_ok-close-in-Refuted.ensures.log, inl (rw (ends.closed decided.0) decided.0), c.in_ok-close-in-Refuted.ensures.refutes)

pub returns-in_ok-close-in-Full : goal.returns-in_ok-close-in-Full
returns-in_ok-close-in-Full g c =
    let ends = last_of (λ (s : PassView). HoldsEnded c.args.task.exchange.terms c.in_ok-close-in-Full.field-0.log.entries s.seen) c.push.new.self.items c.pop.new.self.items c.finish.new.seat c.in_ok-push.ensures.items c.in_ok-close-in-Full.ensures.ended in
    let decided = rw c.in-Full.is at c.in_ok-decided.ensures.decided in
    (c.in_ok-close-in-Full.ensures.log, inr (rw (ends.full decided) decided), c.in_ok-close-in-Full.ensures.refutes)
