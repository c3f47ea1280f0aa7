use Rattle.std.proofs.Common.{rules, ◌≡◌, length, reverse, ◌++◌, ◌∷◌, [], ap, ◌∙◌, drop, arith}
use Rattle.std.proofs.lemmas.List.{length-append, reverse-append}
use Rattle.ltl_formula.proofs.Lists.{Grows-trans}
use Rattle.tlsf_values.proofs.LevelLemmas.{after_step, outer_step, pending_step}
use Rattle.tlsf_values.proofs.levels.Big.go_on.Goals as goal

pub loop-level-smaller : goal.loop-level-smaller
loop-level-smaller c =
    let items : c.loop-level.levels.items ≡ c.pop.new.self.items ++ c.in-Some.level ∷ [] = search rules in
    let same : c.begin.new.levels.items ≡ c.pop.new.self.items = search rules in
    let long = ap length items ∙ length-append c.pop.new.self.items (c.in-Some.level ∷ []) in
    let short = ap length same in
    omega (arith, long, short)

pub loop-level-preserved : goal.loop-level-preserved
loop-level-preserved c =
    let items : c.loop-level.levels.items ≡ c.pop.new.self.items ++ c.in-Some.level ∷ [] = search rules in
    let is = ap reverse items ∙ reverse-append c.pop.new.self.items (c.in-Some.level ∷ []) in
    let popped : c.pop-in-Some.new.self ≡ drop 1 c.loop-level.bound = c.pop-in-Some.ensures in
    let less = rw c.in-Some-2.is at c.in_ok-joined.ensures.less [] in
    let pending_same = pending_step (reverse c.loop-level.levels.items) (reverse c.pop.new.self.items) c.in-Some.level c.in_ok-level.level is c.in_ok-level.ensures.same in (
      λ r. c.loop-level.invariant.0 r
          ∙ after_step r c.args.self.now c.loop-level.bound c.pop-in-Some.new.self (reverse c.loop-level.levels.items) (reverse c.pop.new.self.items) c.in-Some.level c.in_ok-level.level c.loop-level.formula c.loop-level.work c.joined.new.work is popped c.in_ok-level.ensures.value c.in_ok-level.ensures.same
          ∙ rw c.in-Some-2.is at c.in_ok-joined.ensures.value r [] c.joined.new.work,
      c.in_ok-joined.ensures.outer ∙ outer_step c.loop-level.bound c.pop-in-Some.new.self (reverse c.loop-level.levels.items) (reverse c.pop.new.self.items) c.in-Some.level is popped ∙ c.loop-level.invariant.1,
      omega (arith, less, pending_same, c.loop-level.invariant.2),
      Grows-trans _ _ _ c.loop-level.invariant.3 c.in_ok-level.ensures.grows,
    )

pub returns-in-None-clause-value : goal.returns-in-None-clause-value
returns-in-None-clause-value c = λ r ranges.
    let items : c.loop-level.levels.items ≡ c.pop.new.self.items ++ c.in-Some.level ∷ [] = search rules in
    let is = ap reverse items ∙ reverse-append c.pop.new.self.items (c.in-Some.level ∷ []) in
    c.loop-level.invariant.0 r
    ∙ after_step r c.args.self.now c.loop-level.bound c.pop-in-Some.new.self (reverse c.loop-level.levels.items) (reverse c.pop.new.self.items) c.in-Some.level c.in_ok-level.level c.loop-level.formula c.loop-level.work c.joined.new.work is c.pop-in-Some.ensures c.in_ok-level.ensures.value c.in_ok-level.ensures.same
    ∙ rw c.in-None.is at c.in_ok-joined.ensures.value r ranges c.joined.new.work

pub returns-in-None-clause-less : goal.returns-in-None-clause-less
returns-in-None-clause-less c = λ ranges.
    let items : c.loop-level.levels.items ≡ c.pop.new.self.items ++ c.in-Some.level ∷ [] = search rules in
    let is = ap reverse items ∙ reverse-append c.pop.new.self.items (c.in-Some.level ∷ []) in
    let less = rw c.in-None.is at c.in_ok-joined.ensures.less ranges in
    let pending_same = pending_step (reverse c.loop-level.levels.items) (reverse c.pop.new.self.items) c.in-Some.level c.in_ok-level.level is c.in_ok-level.ensures.same in
    omega (arith, less, pending_same, c.loop-level.invariant.2)
