use Rattle.std.proofs.Common.{refl, sym, ◌∙◌, subst, arith, length}
use Rattle.std.proofs.lemmas.Result.{on_ok_weaker}
use Rattle.obligation_sets.specs.Steps.{HasPlaces}
use Rattle.obligation_sets.proofs.Along.{advances_known, advances_less, advances_marked, advances_settled}
use Rattle.obligation_sets.proofs.Walks.{settled_places}
use Rattle.obligation_sets.proofs.cover_search.Search.follow.Goals as goal

pub fork-requires : goal.fork-requires
fork-requires c = subst (HasPlaces (length c.args.formulas.now)) (sym c.in_ok-settled.ensures) (settled_places (length c.args.formulas.now) c.args.branch c.requires.places)

pub take_step-requires-in_default-clause-places : goal.take_step-requires-in_default-clause-places
take_step-requires-in_default-clause-places c = subst (HasPlaces (length c.args.formulas.now)) (sym c.in_ok-settled.ensures) (settled_places (length c.args.formulas.now) c.args.branch c.requires.places)

pub take_step-requires-2-clause-places : goal.take_step-requires-2-clause-places
take_step-requires-2-clause-places c = subst (HasPlaces (length c.args.formulas.now)) (sym c.in_ok-settled.ensures) (settled_places (length c.args.formulas.now) c.args.branch c.requires.places)

pub returns-in_default : goal.returns-in_default
returns-in_default c =
    on_ok_weaker _
    (λ advances.
    advances_less c.args.covering c.args.formulas.now c.args.self.now c.take_step-in_default.new.self _
    (advances_settled c.args.covering c.args.formulas.now c.args.self.now c.take_step-in_default.new.self _ c.args.branch c.in_ok-settled.settled 2 c.in_ok-settled.ensures advances))
    c.take_step-in_default.ensures

pub returns-in-Some-leaves_of : goal.returns-in-Some-leaves_of
returns-in-Some-leaves_of c =
    advances_settled c.args.covering c.args.formulas.now c.args.self.now _ _ c.args.branch c.in_ok-settled.settled 1 c.in_ok-settled.ensures
    (advances_known c.args.covering c.args.formulas.now c.args.self.now c.in_ok-settled.settled c.in-Some.fork c.in-Some-leaves_of.leaves c.saturating_add-self.result _ (rw (c.in-Some.is) at c.in_ok-fork.ensures) (sym c.leaves_of.ensures ∙ c.in-Some-leaves_of.is) c.requires.few (omega arith) c.saturating_add-self.ensures)

pub returns : goal.returns
returns c =
    on_ok_weaker _
    (λ advances.
    advances_settled c.args.covering c.args.formulas.now c.args.self.now c.take_step-2.new.self _ c.args.branch c.in_ok-settled.settled 1 c.in_ok-settled.ensures
    (advances_marked c.args.covering c.args.formulas.now c.args.self.now c.take_step-2.new.self _ c.in_ok-settled.settled c.in-Some.fork (rw (c.in-Some.is) at c.in_ok-fork.ensures) c.in_ok-push.ensures.items refl refl refl advances))
    c.take_step-2.ensures

pub returns-then-self-lt-FEW_LEAVES : goal.returns-then-self-lt-FEW_LEAVES
returns-then-self-lt-FEW_LEAVES c = on_ok_weaker _ (advances_less c.args.covering c.args.formulas.now c.args.self.now c.take_step.new.self _) c.take_step.ensures
