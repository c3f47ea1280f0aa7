use Rattle.std.proofs.Common.{◌≡◌, ◌≢◌, ◌-◌, ◌↔◌, Some, slice_get, length, Contains, sym, subst, ◌∙◌}
use Rattle.std.proofs.lemmas.List.{take_all}
use Rattle.propositional_logic.specs.Literal.{Literal}
use Rattle.propositional_logic.proofs.Members.{Contains-taken}
use Rattle.propositional_logic.proofs.Repeats.{same_kept, same_pushed, rising_pushed, tautology_at, differs, agrees}
use Rattle.propositional_logic.proofs.clauses.without_repeats.Goals as goal
use Rattle.propositional_logic.proofs.clauses.without_repeats.Goals.{in-Some+else-ne, in-None+in_ok-push-in-None}

pub returns-then-ne-clause-tautology : goal.returns-then-ne-clause-tautology
returns-then-ne-clause-tautology c _ =
    let last = c.in-Some.last in
    let kept : Contains c.loop-lit.kept.items last = subst (λ l. Contains l last) c.deref.ensures.value c.in-Some.ensures.found.0 in
    let there = Contains-taken c.loop-lit.lit-index c.args.sorted.now last ((c.loop-lit.invariant.same_literals last).0 kept) in
    tautology_at c.args.sorted.now last c.lit-item.result there (c.loop-lit.lit-index, c.loop-lit-test.true, sym c.lit-item.is)
    c.in-Some.ensures.found.1 (differs last c.lit-item.result (sym c.ne.ensures ∙ c.if-ne.true))

pub loop-lit-preserved : goal.loop-lit-preserved
loop-lit-preserved c =
    elim c.match-twin.branch [
      | in-Some+else-ne w ↦
          let last = w.in-Some.last in
          let kept : Contains c.loop-lit.kept.items last = subst (λ l. Contains l last) c.deref.ensures.value w.in-Some.ensures.found.0 in
          let there : Contains c.loop-lit.kept.items c.lit-item.result = subst (Contains c.loop-lit.kept.items) (agrees last c.lit-item.result (sym w.ne.ensures ∙ w.if-ne.false)) kept in
          rw w.kept-is (record {
            sorted = c.loop-lit.invariant.sorted;
            same_literals = same_kept c.args.sorted.now c.loop-lit.lit-index c.lit-item.result c.loop-lit-test.true c.lit-item.is c.loop-lit.kept.items c.loop-lit.invariant.same_literals there;
          })
      | in-None+in_ok-push-in-None w ↦
          let other : (l : Literal) → slice_get c.loop-lit.kept.items (length c.loop-lit.kept.items - 1) ≡ Some l → l.var ≢ c.lit-item.result.var =
          subst (λ xs. (l : Literal) → slice_get xs (length xs - 1) ≡ Some l → l.var ≢ c.lit-item.result.var) c.deref.ensures.value w.in-None.ensures.none in
          rw (w.kept-is, w.in_ok-push-in-None.ensures.items) (record {
            sorted = rising_pushed c.args.sorted.now c.loop-lit.lit-index c.lit-item.result c.loop-lit-test.true c.lit-item.is c.loop-lit.kept.items c.loop-lit.invariant.same_literals c.requires c.twin.ensures.from_one c.loop-lit.invariant.sorted other;
            same_literals = same_pushed c.args.sorted.now c.loop-lit.lit-index c.lit-item.result c.loop-lit-test.true c.lit-item.is c.loop-lit.kept.items c.loop-lit.invariant.same_literals;
          })
    ]

pub returns-clause-ok : goal.returns-clause-ok
returns-clause-ok c = record {
  sorted = c.loop-lit.invariant.sorted;
  same_literals = λ l. subst (λ xs. Contains c.loop-lit.kept.items l ↔ Contains xs l) (take_all c.loop-lit.lit-index c.args.sorted.now c.loop-lit-test.false) (c.loop-lit.invariant.same_literals l);
}
