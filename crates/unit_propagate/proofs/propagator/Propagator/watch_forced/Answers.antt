use Rattle.std.proofs.Common.{◌≡◌, ◌≢◌, ◌<◌, ◌≤◌, ◌+◌, ◌∙◌, Some, Contains, slice_get, length, sym, ap, subst}
use Rattle.std.proofs.lemmas.List.Elements.{All-contains}
use Rattle.std.proofs.lemmas.Option.{slice_get_within}
use Rattle.std_lemmas.proofs.Lists.{slice_get-append}
use Rattle.propositional_logic.specs.Literal.{Literal, negated}
use Rattle.unit_propagate.specs.declared.marks.Mark.{Mark}
use Rattle.unit_propagate.specs.declared.propagator.Propagator.{Propagator}
use Rattle.unit_propagate.specs.Trail.{literals_of}
use Rattle.unit_propagate.specs.Sound.{IsReason}
use Rattle.unit_propagate.specs.Marks.{MarkList}
use Rattle.propositional_logic.specs.Codes.{code_of}
use Rattle.unit_propagate.specs.Watches.{WatchList}
use Rattle.unit_propagate.proofs.PropagatorLemmas.{reason_at}
use Rattle.unit_propagate.proofs.StepLemmas.{list_fits}
use Rattle.unit_propagate.proofs.ForceLemmas.{one_literal}
use Rattle.unit_propagate.proofs.RewatchLemmas.{Goes-added, forced_added, one_watch}
use Rattle.unit_propagate.proofs.propagator.Propagator.watch_forced.Goals as goal
use Rattle.unit_propagate.proofs.propagator.Propagator.watch_forced.Goals.{After-negated-second}

pub returns-in_default-clause-goes : goal.returns-in_default-clause-goes
returns-in_default-clause-goes c = λ clauses w named.
    let lone = one_literal c.args.clause.now c.args.first c.requires.sorted c.requires.member (rw c.lits.ensures.value at c.in_default.ensures.none) in
    Goes-added clauses c.args.self.now c.add_alone.new.self c.args.first c.args.clause.now c.add_alone.result c.add_alone.ensures.ok c.add_alone.ensures.err
    c.requires.kept w named (one_watch c.args.clause.now c.args.first lone)

pub lower-requires : goal.lower-requires
lower-requires c =
    let f = c.in-Some.ensures.some in
    let g = c.make_true.ensures.grown in
    slice_get_within c.make_true.new.self.marks.marks c.in-Some.place f.0 (ap (λ ms. slice_get ms c.in-Some.place) g.1 ∙ slice_get-append c.args.self.now.marks.marks g.0 c.in-Some.place f.0 f.1)

pub at-requires : goal.at-requires
at-requires c =
    let f = c.in-Some.ensures.some in
    let g = c.make_true.ensures.grown in
    let e : c.lower.new.self.marks ≡ c.make_true.new.self.marks = ap (λ (x : Propagator). x.marks) c.lower.ensures.others in
    subst (λ (x : MarkList). c.in-Some.place < length x.marks) (sym e)
    (slice_get_within c.make_true.new.self.marks.marks c.in-Some.place f.0 (ap (λ ms. slice_get ms c.in-Some.place) g.1 ∙ slice_get-append c.args.self.now.marks.marks g.0 c.in-Some.place f.0 f.1))

-- the literal at the place is the one that was found
module _ (c : After-negated-second) where
  found : c.in-Some.ensures.some.0 ≡ c.at.result
  found =
      let f = c.in-Some.ensures.some in
      let g = c.make_true.ensures.grown in
      let e : c.lower.new.self.marks ≡ c.make_true.new.self.marks = ap (λ (x : Propagator). x.marks) c.lower.ensures.others in
      let a : slice_get c.lower.new.self.marks.marks c.in-Some.place ≡ Some f.0 =
      ap (λ (x : MarkList). slice_get x.marks c.in-Some.place) e ∙ ap (λ ms. slice_get ms c.in-Some.place) g.1 ∙ slice_get-append c.args.self.now.marks.marks g.0 c.in-Some.place f.0 f.1 in
      let b = c.at.ensures.value in
      cc

  second_is : negated c.in-Some.ensures.some.0.lit ≡ c.negated-second.result
  second_is = ap (λ (x : Mark). negated x.lit) found ∙ sym c.negated-second.ensures

  second_in : Contains c.args.clause.now c.negated-second.result
  second_in = subst (Contains c.args.clause.now) second_is (rw c.lits.ensures.value at c.in-Some.ensures.some.2)

  second_other : c.args.first ≢ c.negated-second.result
  second_other e = c.in-Some.ensures.some.3 (second_is ∙ sym e)

pub add-requires-clause-second_fits : goal.add-requires-clause-second_fits
add-requires-clause-second_fits c = λ h.
    let p = (goal.at.add-requires-clause-second_fits c).After-negated-second in
    let e : c.lower.new.self.watches ≡ c.args.self.now.watches = ap (λ (x : Propagator). x.watches) c.lower.ensures.others ∙ ap (λ (x : Propagator). x.watches) c.make_true.ensures.others in
    subst (λ (x : WatchList). code_of c.negated-second.result < length x.rows) (sym e)
    (list_fits c.args.self.now c.negated-second.result c.requires.kept (All-contains (λ (x : Literal). x.var ≤ c.args.self.now.marks.vars) c.args.clause.now c.negated-second.result c.requires.within (second_in p)) h)

pub returns-clause-goes : goal.returns-clause-goes
returns-clause-goes c = λ clauses w named.
    let p = (goal.at.returns-clause-goes c).After-negated-second in
    let g = c.make_true.ensures.grown in
    let reason : IsReason clauses (c.len.result + 1) (literals_of c.args.self.now.marks.marks) c.args.first =
    subst (λ n. IsReason clauses (n + 1) (literals_of c.args.self.now.marks.marks) c.args.first) (sym c.len.ensures.value)
    (reason_at clauses (literals_of c.args.self.now.marks.marks) (length c.args.self.now.watches.watched) c.args.clause.now c.args.first named c.requires.member c.requires.others) in
    forced_added clauses c.args.self.now c.make_true.new.self c.lower.new.self c.in-Some.place c.at.result c.args.first c.negated-second.result g.0 c.add.new.self c.args.clause.now c.add.result
    c.make_true.ensures.others c.lower.ensures.others (c.make_true.ensures.goes clauses c.requires.kept w reason) g.1 c.lower.ensures.trail c.requires.alive c.make_true.ensures.now_true c.at.ensures.value
    c.lower.ensures.less c.lower.ensures.low c.requires.kept c.negated-second.ensures (second_other p) (rw c.lits-2.ensures.value at c.add.ensures.ok) c.add.ensures.err named c.requires.sorted c.requires.member (second_in p)
