-- Going back to a level.
use Rattle.std.proofs.Common.{◌≡◌, ℕ, ◌<◌, ◌≤◌, min, Bool, true, false, List, ◌++◌, Some, filter, nat_le, slice_get, length, Contains, refl, sym, subst, ap, ◌∙◌, arith}
use borrow.Author.Tests.{leb-true, leb-false}
use Rattle.std_lemmas.proofs.Lists.{Contains-slice_get, slice_get-append}
use Rattle.propositional_logic.specs.Literal.{Literal}
use Rattle.propositional_logic.proofs.Members.{Contains-filter, filter-Contains}
use Rattle.unit_propagate.specs.declared.marks.Mark.{Mark}
use Rattle.unit_propagate.specs.declared.propagator.Propagator.{Propagator}
use Rattle.unit_propagate.specs.Marks.{MarkList}
use Rattle.unit_propagate.specs.Watches.{Guard}
use Rattle.unit_propagate.specs.Propagator.{IsKeptPropagator}

passes : (a b : ℕ) → a ≤ b → nat_le a b ≡ true
passes a b h = by (nat_le a b) refl
  where
    by : (t : Bool) → nat_le a b ≡ t → t ≡ true
    by true e = refl
    by false e = absurd (let l : b < a = leb-false a b e in omega arith)

pub IsKept-back : (s : Propagator) (after : MarkList) (level kept : ℕ) → after.vars ≡ s.marks.vars → after.marks ≡ filter (λ m. nat_le m.level level) s.marks.marks
    → ((rest : List Mark) × (s.marks.marks ≡ after.marks ++ rest)) → kept ≡ min s.kept (length after.marks) → IsKeptPropagator s → IsKeptPropagator (record s { marks = after; place = kept; kept = kept })
IsKept-back s after level kept vars is prefix low k = record {
  listed = rw vars k.listed;
  guarded = λ j c l at is. guard l c (k.guarded j c l at is);
  done = λ j u l lt at there. let m = k.done j u l lt at there in (m.0, stays m.0 m.1 (let z : m.0.level ≡ 0 = m.3 in omega arith), m.2, m.3);
  place = omega arith;
  kept = omega arith;
  forced = k.forced;
}
  where
    stays : (m : Mark) → Contains s.marks.marks m → m.level ≤ level → Contains after.marks m
    stays m c l = subst (λ ms. Contains ms m) (sym is) (filter-Contains (λ (m : Mark). nat_le m.level level) s.marks.marks m c (passes m.level level l))

    guard : (a : Literal) (c : List Literal) → Guard s.marks.marks s.place s.kept a c → Guard after.marks kept kept a c
    guard a c g i m lt at e =
        let before : slice_get s.marks.marks i ≡ Some m = ap (λ ms. slice_get ms i) prefix.1 ∙ slice_get-append after.marks prefix.0 i m at in
        let le : s.kept ≤ s.place = k.kept in
        let small : i < s.kept = omega arith in
        let n = g i m (omega arith) before e in
        let in_after = Contains-filter (λ (m : Mark). nat_le m.level level) s.marks.marks m (subst (λ ms. Contains ms m) is (Contains-slice_get after.marks i m at)) in
        let lm : m.level ≤ level = leb-true m.level level in_after.1 in
        let ln : n.0.level ≤ m.level = n.3 small in
        (n.0, stays n.0 n.1 (omega arith), n.2, λ _. ln)
