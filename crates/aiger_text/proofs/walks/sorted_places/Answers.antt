use Rattle.std.proofs.Common.{◌≡◌, ◌<◌, length, true, false, sym, ◌∙◌, arith, below_more}
use Rattle.aiger_text.proofs.WalkLemmas.{is_done, order_of_walk, new-open}
use Rattle.aiger_text.proofs.walks.sorted_places.Goals as goal
use Rattle.aiger_text.proofs.walks.sorted_places.Goals.{then-is_new+in_ok-enter+in_ok-run+else-not-branch, else-is_new}

pub loop-place-preserved : goal.loop-place-preserved
loop-place-preserved c =
    let within : c.loop-place.place < length c.args.gates.now = omega arith in
    elim c.if-is_new.branch [
      | then-is_new+in_ok-enter+in_ok-run+else-not-branch w ↦
          let walk = w.in_ok-run.ensures.walk w.if-not-branch.false in
          let empty = w.in_ok-run.ensures.empty w.if-not-branch.false in
          rw w.walk-is (
            walk,
            empty,
            below_more _ _
                (λ k h. w.in_ok-run.ensures.keeps w.if-not-branch.false k (w.in_ok-enter.ensures.goes.keeps_done k (c.loop-place.invariant.2 k h)))
                (is_done _ _ _ _ c.loop-place.place walk empty within
                (λ new. new-open _ (w.in_ok-run.ensures.no_new w.if-not-branch.false c.loop-place.place new) w.in_ok-enter.ensures.entered)),
          )
      | else-is_new w ↦
          rw w.walk-is (
            c.loop-place.invariant.0,
            c.loop-place.invariant.1,
            below_more _ _ c.loop-place.invariant.2
                (is_done _ _ _ _ c.loop-place.place c.loop-place.invariant.0 c.loop-place.invariant.1 within
                (λ new. let is : true ≡ false = sym (c.is_new.ensures.1 new) ∙ w.if-is_new.false in absurd (cc))),
          )
    ]

pub returns : goal.returns
returns c =
    order_of_walk c.args.gates.now c.loop-place.walk.marks.items c.loop-place.walk.stack.items c.loop-place.walk.order.items c.loop-place.invariant.0
    (λ k h. let before : k < c.loop-place.place = omega arith in c.loop-place.invariant.2 k before)
