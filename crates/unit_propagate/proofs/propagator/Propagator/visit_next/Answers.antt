use Rattle.std.proofs.Common.{◌≡◌, ◌<◌, ◌≤◌, ◌+◌, ◌∙◌, Some, Ok, slice_get, length, sym, ap, subst, Contains, arith}
use Rattle.std.proofs.lemmas.Option.{slice_get_within}
use Rattle.propositional_logic.specs.Literal.{Literal}
use Rattle.unit_propagate.specs.declared.marks.Mark.{Mark}
use Rattle.unit_propagate.specs.Propagator.{IsVisited}
use Rattle.unit_propagate.proofs.Places.{All-slice_get}
use Rattle.unit_propagate.proofs.PropagatorLemmas.{Goes-trans, Goes-advance}
use Rattle.propositional_logic.specs.Literal.{negated}
use Rattle.unit_propagate.specs.Trail.{literals_of}
use Rattle.unit_propagate.specs.Propagator.{clauses_in}
use Rattle.unit_propagate.proofs.TrailLemmas.{at_place}
use Rattle.unit_propagate.proofs.PropagatorLemmas.{unvisited, negated-negated}
use Rattle.unit_propagate.proofs.StepLemmas.{list_fits}
use Rattle.unit_propagate.proofs.SoundLemmas.{units_stay, Goes-at}
use Rattle.unit_propagate.proofs.propagator.Propagator.visit_next.Goals as goal

pub visit-requires-clause-visiting : goal.visit-requires-clause-visiting
visit-requires-clause-visiting c =
    unvisited (clauses_in c.args.base.now c.args.seen.now) c.args.self.now c.negated.result c.requires.kept c.requires.watching
    (subst (λ l. Contains (literals_of c.args.self.now.marks.marks) (negated l)) (sym c.negated.ensures)
    (at_place c.args.self.now.marks.marks c.args.self.now.place c.at-mark.result (negated (negated c.at-mark.result.lit)) c.at-mark.ensures.value (sym (negated-negated c.at-mark.result.lit))))

pub visit-requires-clause-fits : goal.visit-requires-clause-fits
visit-requires-clause-fits c = λ h.
    let in_vars = All-slice_get (λ (m : Mark). (0 < m.lit.var) × (m.lit.var ≤ c.args.self.now.marks.vars)) c.args.self.now.marks.marks c.args.self.now.place c.at-mark.result c.at-mark.ensures.trail.within c.at-mark.ensures.value in
    list_fits c.args.self.now c.negated.result c.requires.kept (subst (λ (l : Literal). l.var ≤ c.args.self.now.marks.vars) (sym c.negated.ensures) in_vars.1) h

pub returns-in_err-number-clause-units : goal.returns-in_err-number-clause-units
returns-in_err-number-clause-units c = units_stay (clauses_in c.args.base.now c.args.seen.now) c.args.self.now c.visit.new.self c.visit.ensures.goes c.visit.ensures.stays

pub returns-in-Some-clause-units : goal.returns-in-Some-clause-units
returns-in-Some-clause-units c = units_stay (clauses_in c.args.base.now c.args.seen.now) c.args.self.now c.visit.new.self c.visit.ensures.goes c.visit.ensures.stays

pub returns-clause-units : goal.returns-clause-units
returns-clause-units c = units_stay (clauses_in c.args.base.now c.args.seen.now) c.args.self.now c.visit.new.self c.visit.ensures.goes c.visit.ensures.stays

pub next_kept-self-requires : goal.next_kept-self-requires
next_kept-self-requires c =
    let at = Goes-at (clauses_in c.args.base.now c.args.seen.now) c.args.self.now c.visit.new.self c.args.self.now.place c.at-mark.result c.visit.ensures.goes c.at-mark.ensures.value in
    let lt : c.args.self.now.place < length c.visit.new.self.marks.marks = slice_get_within c.visit.new.self.marks.marks c.args.self.now.place c.at-mark.result at in
    let e : c.visit.new.self.place ≡ c.args.self.now.place = c.visit.ensures.stays.place in
    omega arith

pub returns-clause-goes : goal.returns-clause-goes
returns-clause-goes c =
    let cl = clauses_in c.args.base.now c.args.seen.now in
    let at = Goes-at cl c.args.self.now c.visit.new.self c.args.self.now.place c.at-mark.result c.visit.ensures.goes c.at-mark.ensures.value in
    let here : slice_get c.visit.new.self.marks.marks c.visit.new.self.place ≡ Some c.at-mark.result = subst (λ k. slice_get c.visit.new.self.marks.marks k ≡ Some c.at-mark.result) (sym c.visit.ensures.stays.place) at in
    let all : IsVisited c.visit.new.self (negated c.at-mark.result.lit) = subst (IsVisited c.visit.new.self) c.negated.ensures (c.visit.ensures.all (c.in_ok-number.was ∙ ap Ok c.in_default.is)) in
    Goes-trans cl c.args.self.now c.visit.new.self (record c.visit.new.self { place = c.visit.new.self.place + 1; kept = c.next_kept-self.result }) c.visit.ensures.goes
    (Goes-advance cl c.visit.new.self c.at-mark.result c.next_kept-self.result c.visit.ensures.goes.kept c.visit.ensures.goes.watching here all c.next_kept-self.ensures.value)
