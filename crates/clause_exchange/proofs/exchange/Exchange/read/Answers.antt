use Rattle.std.proofs.Common.{◌≡◌, List, OnOk, OnErr, sym, refl, ap, ◌∙◌, subst}
use Rattle.refutation_log.specs.declared.entries.Entry.{Entry}
use Rattle.names_and_numbers.specs.Prefix.{IsPrefix}
use Rattle.names_and_numbers.proofs.PrefixLemmas.{IsPrefix-trans}
use Rattle.clause_exchange.specs.SharedLog.{PassView}
use Rattle.clause_exchange.specs.Steps.{Begins, idle, moved}
use Rattle.clause_exchange.specs.Opening.{part_seen}
use Rattle.clause_exchange.proofs.Offering.{seat_of, moved_same, turn_after, own_kept, seen_after, copied_ok, copied_part}
use Rattle.clause_exchange.proofs.exchange.Exchange.read.Given.{Over}
use Rattle.clause_exchange.proofs.exchange.Exchange.read.Goals as goal
use Rattle.clause_exchange.proofs.exchange.Exchange.read.Goals.{After-begin, After-end}

-- the turn has begun
begins : (g : Over) (c : After-begin g) → Begins (part_seen c.args.pass.now) c.begin.new.place.me
begins g c = c.begin.ensures.begun (part_seen c.args.pass.now) (seat_of _ _ _ c.pass.invariant c.pass.view_is)

-- the pass after its turn
rests : (g : Over) (c : After-end g) (b : Begins (part_seen c.args.pass.now) c.begin.new.place.me) → c.end.new.place.me ≡ idle (moved (part_seen c.args.pass.now) b.0.entries)
rests g c b = c.end.ensures.idle b.0.entries b.0 (part_seen c.args.pass.now) (c.copy-copied.ensures.kept ∙ b.1)

same_table : (g : Over) (c : After-end g) → c.end.new.place.table_id ≡ c.args.pass.now.exchange.id
same_table g c = c.end.ensures.same.0 ∙ c.copy-copied.ensures.same.0 ∙ c.begin.ensures.same.0 ∙ ap (λ (p : PassView). p.exchange.id) c.pass.view_is

pub copy-copied-requires-clause-begun : goal.copy-copied-requires-clause-begun
copy-copied-requires-clause-begun g c = let b = begins g (goal.at.copy-copied-requires-clause-begun g c).After-begin in
    (b.0.entries, b.0, part_seen c.args.pass.now, b.1, IsPrefix-trans c.args.into.now.items c.args.pass.now.seen b.0.entries c.requires.begins b.2.part_of.seen)

pub end-requires-clause-moved : goal.end-requires-clause-moved
end-requires-clause-moved g c = let b = begins g (goal.at.end-requires-clause-moved g c).After-begin in
    (b.0.entries, b.0, part_seen c.args.pass.now, c.copy-copied.ensures.kept ∙ b.1, moved_same (part_seen c.args.pass.now) b.0 b.0 b.2 refl b.2.room)

pub invariant_of-pass : goal.invariant_of-pass
invariant_of-pass g c = let b = begins g (goal.at.invariant_of-pass g c).After-begin in
    (moved (part_seen c.args.pass.now) b.0.entries, rests g (goal.at.invariant_of-pass g c).After-end b, refl)

pub returns-clause-turn : goal.returns-clause-turn
returns-clause-turn g c = let b = begins g (goal.at.returns-clause-turn g c).After-begin in let e = (goal.at.returns-clause-turn g c).After-end in
    turn_after c.args.pass.now c.end.new.place.table_id c.end.new.place.me b.0 b.0 (rests g e b) (same_table g e) b.2 (moved_same (part_seen c.args.pass.now) b.0 b.0 b.2 refl b.2.room)

pub returns-clause-own : goal.returns-clause-own
returns-clause-own g c = let b = begins g (goal.at.returns-clause-own g c).After-begin in
    own_kept c.args.pass.now c.end.new.place.table_id c.end.new.place.me b.0 b.0 (rests g (goal.at.returns-clause-own g c).After-end b) b.2 refl

pub returns-clause-ok : goal.returns-clause-ok
returns-clause-ok g c = let b = begins g (goal.at.returns-clause-ok g c).After-begin in
    subst (λ (seen : List Entry). OnOk c.copy-copied.result (c.copy-copied.new.into.items ≡ seen))
    (sym (seen_after c.args.pass.now c.end.new.place.table_id c.end.new.place.me b.0.entries (rests g c b)))
    (copied_ok b.0.entries c.copy-copied.new.into.items c.copy-copied.result (c.copy-copied.ensures.copied b.0.entries b.0 (part_seen c.args.pass.now) b.1))

pub returns-clause-err : goal.returns-clause-err
returns-clause-err g c = let b = begins g (goal.at.returns-clause-err g c).After-begin in
    subst (λ (seen : List Entry). OnErr c.copy-copied.result (IsPrefix c.copy-copied.new.into.items seen))
    (sym (seen_after c.args.pass.now c.end.new.place.table_id c.end.new.place.me b.0.entries (rests g c b)))
    (copied_part b.0.entries c.copy-copied.new.into.items c.copy-copied.result (c.copy-copied.ensures.copied b.0.entries b.0 (part_seen c.args.pass.now) b.1))
