use Rattle.std.proofs.Common.{◌≡◌, ◌≢◌, true, [], ◌++◌, ◌∙◌, sym, subst, ap}
use Rattle.std.specs.Arc.{arc_value}
use Rattle.refutation_log.specs.Entry.{clauses_of}
use Rattle.refutation_log.specs.Log.{is_ended}
use Rattle.refutation_log.specs.Teaches.{Teaches, entries_by}
use Rattle.refutation_log.proofs.TeachLemmas.{teaches-own}
use Rattle.names_and_numbers.specs.Prefix.{IsPrefix}
use Rattle.clause_exchange.specs.SharedLog.{IsOffered, PassView}
use Rattle.size_search.specs.Seat.{GoesOn}
use Rattle.size_search.specs.Task.{SizeTaskModel, IsKeptTask}
use Rattle.size_search.proofs.SeatLemmas.{goes_turn, works_stay}
use Rattle.size_search.proofs.OfferLemmas.{closed_ends, emptied, empty_ends, filled, grown}
use Rattle.size_search.proofs.TaskLemmas.{refuted}
use Rattle.size_search.proofs.tasks.SizeTask.offer.Goals as goal

pub append-requires-clause-teaches : goal.append-requires-clause-teaches
append-requires-clause-teaches g c =
    let seat = c.args.seat.now in
    let base = c.args.self.now.exchange.terms.base in
    let own : entries_by seat.number seat.seen ≡ c.seat.inside.pass.own = sym c.requires.own ∙ ap (λ (p : PassView). p.own) (sym c.seat.view_is) in
    let same : base ≡ c.self.inside.exchange.terms.base = ap (λ (t : SizeTaskModel). t.exchange.terms.base) (sym c.self.view_is) in
    subst (λ cs. Teaches (cs ++ clauses_of c.seat.inside.pass.own) c.args.entry.clause) same
    (subst (λ es. Teaches (base ++ clauses_of es) c.args.entry.clause) own (teaches-own base seat.seen seat.number c.args.entry.clause c.requires.lesson.teaches))

pub invariant_of-seat : goal.invariant_of-seat
invariant_of-seat g c = (c.seat.invariant.0 ∙ sym c.append.ensures.turn.number, works_stay c.seat.inside.pass c.append.new.pass c.seat.inside.work c.append.ensures.turn c.seat.invariant.1)

pub invariant_of-seat-2 : goal.invariant_of-seat-2
invariant_of-seat-2 g c = (c.seat.invariant.0 ∙ sym c.append.ensures.turn.number, works_stay c.seat.inside.pass c.append.new.pass c.seat.inside.work c.append.ensures.turn c.seat.invariant.1)

pub returns-in-Closed-clause-decided : goal.returns-in-Closed-clause-decided
returns-in-Closed-clause-decided g c =
    let o : IsOffered c.args.entry c.in-Ok.reply c.seat.inside.pass c.append.new.pass = c.in-Ok.ensures.ok in
    refuted c.args.self.now (arc_value c.self.inside.base) c.seat.inside.pass c.append.new.pass (subst (λ (t : SizeTaskModel). IsKeptTask t (arc_value c.self.inside.base)) c.self.view_is c.self.invariant) c.append.ensures.turn
    (ap (λ (p : PassView). p.exchange) c.seat.view_is ∙ c.requires.exchange)
    (closed_ends c.seat.inside.pass.exchange.terms.limit o.log c.args.entry c.append.new.pass.seen (sym c.in-Closed.is ∙ o.reply_is) o.seen_after)

pub returns-in_default-reply : goal.returns-in_default-reply
returns-in_default-reply g c =
    let o : IsOffered c.args.entry c.in-Ok.reply c.seat.inside.pass c.append.new.pass = c.in-Ok.ensures.ok in
    let terms = c.seat.inside.pass.exchange.terms in
    let empty : c.args.entry.clause ≡ [] = emptied c.is_empty-refutes.result c.lits.result.now c.args.entry.clause c.is_empty-refutes.ensures c.lits.ensures.value c.if-refutes.true in
    let ended : is_ended c.append.new.pass.seen ≡ true =
    empty_ends terms.vars terms.base terms.limit o.log c.args.entry c.append.new.pass.seen c.in-Ok.reply o.reply_is o.seen_after c.append.ensures.turn.log.legal empty c.in_default-reply.not-Full in
    record {
      goes_on = subst (λ (p : PassView). GoesOn p c.append.new.pass) c.seat.view_is (goes_turn c.seat.inside.pass c.append.new.pass c.append.ensures.turn);
      decided = refuted c.args.self.now (arc_value c.self.inside.base) c.seat.inside.pass c.append.new.pass (subst (λ (t : SizeTaskModel). IsKeptTask t (arc_value c.self.inside.base)) c.self.view_is c.self.invariant)
          c.append.ensures.turn (ap (λ (p : PassView). p.exchange) c.seat.view_is ∙ c.requires.exchange) ended;
      «open» = λ e. absurd (cc);
    }

pub returns-in_default-2 : goal.returns-in_default-2
returns-in_default-2 g c =
    let o : IsOffered c.args.entry c.in-Ok.reply c.seat.inside.pass c.append.new.pass = c.in-Ok.ensures.ok in
    let terms = c.seat.inside.pass.exchange.terms in
    let some : c.args.entry.clause ≢ [] = filled c.is_empty-refutes.result c.lits.result.now c.args.entry.clause c.is_empty-refutes.ensures c.lits.ensures.value c.if-refutes.false in
    let begins : IsPrefix c.args.seat.now.seen o.log = subst (λ (p : PassView). IsPrefix p.seen o.log) c.seat.view_is o.begins in
    record {
      goes_on = subst (λ (p : PassView). GoesOn p c.append.new.pass) c.seat.view_is (goes_turn c.seat.inside.pass c.append.new.pass c.append.ensures.turn);
      decided = tt;
      «open» = λ e. grown c.args.self.now.exchange.terms.base terms.limit c.args.seat.now.seen o.log c.args.entry c.append.new.pass.seen c.in-Ok.reply o.reply_is o.seen_after begins
          c.lits.ensures.sorted some c.requires.lesson.teaches c.in_default-reply.not-Closed c.in_default-reply.not-Full;
    }
