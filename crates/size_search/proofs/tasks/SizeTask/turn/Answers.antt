use Rattle.std.proofs.Common.{◌≡◌, true, refl, sym, subst, ap, ◌∙◌}
use Rattle.std.specs.Arc.{arc_value}
use Rattle.propositional_logic.specs.declared.formula.Cnf.{Cnf}
use Rattle.machine_model.specs.Machine.{MachineModel}
use Rattle.machine_model.specs.declared.problems.Problem.{Problem}
use Rattle.refutation_log.specs.Log.{is_ended}
use Rattle.clause_exchange.specs.SharedLog.{PassView, SharedLog}
use Rattle.size_search.specs.Decided.{IsAcceptedOf, IsClosedOn}
use Rattle.size_search.specs.Seat.{IsWorkOf}
use Rattle.size_search.specs.Task.{SizeTaskModel, IsKeptTask}
use Rattle.size_search.proofs.SeatLemmas.{works_stay, work_reads, work_shows, work_turns}
use Rattle.size_search.proofs.TaskLemmas.{refuted}
use Rattle.size_search.proofs.tasks.SizeTask.turn.Goals as goal

pub invariant_of-seat : goal.invariant_of-seat
invariant_of-seat g c = (c.seat.invariant.0 ∙ sym c.read.ensures.turn.number, works_stay c.seat.inside.pass c.read.new.pass c.seat.inside.work c.read.ensures.turn c.seat.invariant.1)

pub invariant_of-seat-2 : goal.invariant_of-seat-2
invariant_of-seat-2 g c = (c.seat.invariant.0 ∙ sym c.read.ensures.turn.number, works_stay c.seat.inside.pass c.read.new.pass c.seat.inside.work c.read.ensures.turn c.seat.invariant.1)

pub put_work-requires : goal.put_work-requires
put_work-requires g c =
    let same : c.seat.inside.pass ≡ c.args.seat.now = c.seat.view_is ∙ c.take_work.ensures.same in
    work_reads c.seat.inside.pass c.read.new.pass c.in_ok-work.work.worker c.in_ok-work.work.entries.items c.read.new.into.items c.read.ensures.turn c.in_ok-read.ensures.ok
    (subst (λ (p : PassView). IsWorkOf p c.in_ok-work.work.worker c.in_ok-work.work.entries.items) (sym same) c.in_ok-work.ensures.work)

pub returns-then-is_ended-clause-decided : goal.returns-then-is_ended-clause-decided
returns-then-is_ended-clause-decided g c =
    let same : c.seat.inside.pass ≡ c.args.seat.now = c.seat.view_is ∙ c.take_work.ensures.same in
    let ended : is_ended c.read.new.pass.seen ≡ true = ap is_ended (sym c.in_ok-read.ensures.ok) ∙ ap is_ended (sym c.deref-2.ensures.value) ∙ sym c.is_ended.ensures ∙ c.if-is_ended.true in
    subst (λ (q : PassView). IsClosedOn c.args.self.now.exchange.terms q.seen × ((m : MachineModel) → IsAcceptedOf c.args.self.now.problem m → ⊥)) (sym c.put_work.ensures)
    (refuted c.args.self.now (arc_value c.self.inside.base) c.seat.inside.pass c.read.new.pass (subst (λ (t : SizeTaskModel). IsKeptTask t (arc_value c.self.inside.base)) c.self.view_is c.self.invariant) c.read.ensures.turn
    (ap (λ (p : PassView). p.exchange) same ∙ c.requires.exchange) ended)

pub turn-requires-clause-working : goal.turn-requires-clause-working
turn-requires-clause-working g c =
    let same : c.seat.inside.pass ≡ c.args.seat.now = c.seat.view_is ∙ c.take_work.ensures.same in
    let before = work_reads c.seat.inside.pass c.read.new.pass c.in_ok-work.work.worker c.in_ok-work.work.entries.items c.read.new.into.items c.read.ensures.turn c.in_ok-read.ensures.ok
    (subst (λ (p : PassView). IsWorkOf p c.in_ok-work.work.worker c.in_ok-work.work.entries.items) (sym same) c.in_ok-work.ensures.work) in
    let exchange : c.read.new.pass.exchange ≡ c.args.self.now.exchange = c.read.ensures.turn.exchange ∙ ap (λ (p : PassView). p.exchange) same ∙ c.requires.exchange in
    work_shows c.read.new.pass c.in_ok-work.work.worker c.read.new.into.items c.deref-4.result.now c.deref-3.result.now.clauses.items before
    (ap (λ (f : Cnf). f.clauses.items) c.deref-3.ensures ∙ c.self.invariant.clauses ∙ ap (λ (t : SizeTaskModel). t.exchange.terms.base) c.self.view_is ∙ ap (λ (x : SharedLog). x.terms.base) (sym exchange))
    c.deref-4.ensures.value

pub put_work-requires-2 : goal.put_work-requires-2
put_work-requires-2 g c =
    let same : c.seat.inside.pass ≡ c.args.seat.now = c.seat.view_is ∙ c.take_work.ensures.same in
    let before = work_reads c.seat.inside.pass c.read.new.pass c.in_ok-work.work.worker c.in_ok-work.work.entries.items c.read.new.into.items c.read.ensures.turn c.in_ok-read.ensures.ok
    (subst (λ (p : PassView). IsWorkOf p c.in_ok-work.work.worker c.in_ok-work.work.entries.items) (sym same) c.in_ok-work.ensures.work) in
    let exchange : c.read.new.pass.exchange ≡ c.args.self.now.exchange = c.read.ensures.turn.exchange ∙ ap (λ (p : PassView). p.exchange) same ∙ c.requires.exchange in
    work_turns c.read.new.pass c.in_ok-work.work.worker c.turn.new.self c.read.new.into.items c.deref-4.result.now c.deref-3.result.now.clauses.items before
    (ap (λ (f : Cnf). f.clauses.items) c.deref-3.ensures ∙ c.self.invariant.clauses ∙ ap (λ (t : SizeTaskModel). t.exchange.terms.base) c.self.view_is ∙ ap (λ (x : SharedLog). x.terms.base) (sym exchange)) c.deref-4.ensures.value
    c.turn.ensures.working c.turn.ensures.number c.turn.ensures.vars

pub returns-in_ok-decoded-in-Model-clause-decided : goal.returns-in_ok-decoded-in-Model-clause-decided
returns-in_ok-decoded-in-Model-clause-decided g c =
    let e = c.in_ok-decoded-in-Model.ensures in
    subst (λ (p : Problem). IsAcceptedOf p c.in_ok-decoded-in-Model.decoded.machine) (ap (λ (t : SizeTaskModel). t.problem) c.self.view_is)
    record { machine = e.made; looked_for = e.machine; accepted = e.accepted }
