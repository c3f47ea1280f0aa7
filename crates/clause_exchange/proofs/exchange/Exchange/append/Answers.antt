use Rattle.std.proofs.Common.{◌≡◌, ℕ, Option, None, IfErr, sym, refl, ap, ◌∙◌, subst}
use Rattle.clause_exchange.specs.SharedLog.{SharedLog, PassView}
use Rattle.clause_exchange.specs.Rule.{HasRoom}
use Rattle.clause_exchange.specs.Steps.{idle, moved}
use Rattle.clause_exchange.specs.Opening.{part_seen}
use Rattle.clause_exchange.specs.Passes.{part_of}
use Rattle.clause_exchange.proofs.Offering.{IsOfferedIn, IsSound, seat_of, offered_in, turn_after, offered_ok, offered_err}
use Rattle.clause_exchange.proofs.exchange.Exchange.append.Given.{Over}
use Rattle.clause_exchange.proofs.exchange.Exchange.append.Goals as goal
use Rattle.clause_exchange.proofs.exchange.Exchange.append.Goals.{After-offer-reply, After-end}

-- the exchange's own limit is that of its passes
limit_is : (limit : Option ℕ) (exchange self inside : SharedLog) → exchange ≡ self → inside ≡ self → inside.terms.limit ≡ limit → limit ≡ exchange.terms.limit
limit_is limit exchange self inside same view is = sym is ∙ ap (λ (l : SharedLog). l.terms.limit) (view ∙ sym same)

-- the entry was offered in the pass's turn
offers : (g : Over) (c : After-offer-reply g) → IsOfferedIn c.args.pass.now c.args.entry c.offer-reply.result c.offer-reply.new.place.me
offers g c = offered_in c.args.pass.now c.args.entry c.offer-reply.result c.begin.new.place.me c.offer-reply.new.place.me c.self.inside.setup.limit
    (limit_is _ _ _ _ c.requires.exchange c.self.view_is refl)
    (subst (λ (l : SharedLog). IsSound (record { terms = l.terms; number = c.args.pass.now.number; seen = c.args.pass.now.seen; own = c.args.pass.now.own }) c.args.entry) (sym c.requires.exchange)
    record { by_is = c.requires.by; within = c.requires.within; follows = c.requires.follows; teaches = c.requires.teaches })
    (c.begin.ensures.begun (part_seen c.args.pass.now) (seat_of _ _ _ c.pass.invariant c.pass.view_is))
    c.offer-reply.ensures.offered

-- the pass after its turn
rests : (g : Over) (c : After-end g) (o : IsOfferedIn c.args.pass.now c.args.entry c.offer-reply.result c.offer-reply.new.place.me)
    → c.end.new.place.me ≡ idle (moved (part_seen c.args.pass.now) o.left.entries)
rests g c o = c.end.ensures.idle o.value.entries o.left (part_seen c.args.pass.now) o.has

same_table : (g : Over) (c : After-end g) → c.end.new.place.table_id ≡ c.args.pass.now.exchange.id
same_table g c = c.end.ensures.same.0 ∙ c.offer-reply.ensures.same.0 ∙ c.begin.ensures.same.0 ∙ ap (λ (p : PassView). p.exchange.id) c.pass.view_is

pub offer-reply-requires-clause-begun : goal.offer-reply-requires-clause-begun
offer-reply-requires-clause-begun g c =
    let b = c.begin.ensures.begun (part_seen c.args.pass.now) (seat_of _ _ _ c.pass.invariant c.pass.view_is) in
    (b.0.entries, b.0, part_seen c.args.pass.now, b.1, subst (λ (l : SharedLog). HasRoom l.terms.limit b.0) (c.requires.exchange ∙ sym c.self.view_is) b.2.room)

pub end-requires-clause-moved : goal.end-requires-clause-moved
end-requires-clause-moved g c = let o = offers g (goal.at.end-requires-clause-moved g c).After-offer-reply in
    (o.value.entries, o.left, part_seen c.args.pass.now, o.has, o.moves)

pub invariant_of-pass : goal.invariant_of-pass
invariant_of-pass g c = let o = offers g (goal.at.invariant_of-pass g c).After-offer-reply in
    (moved (part_seen c.args.pass.now) o.left.entries, rests g (goal.at.invariant_of-pass g c).After-end o, refl)

pub returns-clause-turn : goal.returns-clause-turn
returns-clause-turn g c = let o = offers g (goal.at.returns-clause-turn g c).After-offer-reply in let e = (goal.at.returns-clause-turn g c).After-end in
    turn_after c.args.pass.now c.end.new.place.table_id c.end.new.place.me o.value o.left (rests g e o) (same_table g e) o.opens o.moves

pub returns-clause-ok : goal.returns-clause-ok
returns-clause-ok g c = let o = offers g (goal.at.returns-clause-ok g c).After-offer-reply in
    offered_ok c.args.pass.now c.end.new.place.table_id c.end.new.place.me o.value o.left c.args.entry c.offer-reply.result (rests g c o) o.opens
    c.requires.by o.offered

pub returns-clause-err : goal.returns-clause-err
returns-clause-err g c = let o = offers g (goal.at.returns-clause-err g c).After-offer-reply in
    subst (λ (l : SharedLog). IfErr c.offer-reply.result (λ refused. (refused.entry ≡ c.args.entry) × ((part_of c.end.new.place.me.0).own ≡ c.args.pass.now.own) × (l.terms.limit ≡ None)))
    c.requires.exchange
    (offered_err c.args.pass.now c.end.new.place.table_id c.end.new.place.me o.value o.left c.args.entry c.offer-reply.result (rests g c o) o.opens o.offered)
