use Rattle.std.proofs.Common.{◌≡◌, inl, inr, ℕ, Bool, true, eqb, ◌&&◌, cond, List, [], ◌∷◌, Option, Some, reverse, refl, sym, ◌∙◌}
use Rattle.std.specs.Bool.{beq}
use Rattle.std.specs.Cmp.{booleans_Decides}
use Rattle.std.specs.Cmp.Lexicographic.{pointwise}
use Rattle.std.proofs.lemmas.Bool.{and_parts, cases_Bool, cond-true, cond-false, eqb-true, false≢true}
use Rattle.obligation_sets.specs.declared.branches.Fork.{Fork}
use Rattle.obligation_sets.specs.declared.branches.Mark.{Mark}
use Rattle.obligation_sets.specs.contracts.branches.MarkPartialEq.TheImpl.{ghosts as mark_ghosts}
use Rattle.obligation_sets.specs.ForkLaws.{same_fork}
use Rattle.obligation_sets.specs.Forks.{Learns, branch_of}
use Rattle.obligation_sets.specs.Marks.{done_of, next_of, postponed_of}
use Rattle.obligation_sets.specs.Ids.{same_ids}
use Rattle.obligation_sets.proofs.Cubes.{same_cube}
use Rattle.obligation_sets.proofs.Distinct.{same_ids-decides}

-- whether two marks are the same, as it is derived
abbrev same_mark : Mark → Mark → Bool
same_mark = mark_ghosts.eq

mark_of_parts : (m n : Mark) → m.done ≡ n.done → m.next ≡ n.next → m.postponed ≡ n.postponed → m ≡ n
mark_of_parts m n p q r = λ i. record { done = p i; next = q i; postponed = r i }

same_mark-decides : (m n : Mark) → same_mark m n ≡ true → m ≡ n
same_mark-decides m n h =
    let first : (beq m.done n.done ≡ true) × ((beq m.next n.next && beq m.postponed n.postponed) ≡ true) = and_parts _ _ h in
    let rest : (beq m.next n.next ≡ true) × (beq m.postponed n.postponed ≡ true) = and_parts _ _ first.1 in
    mark_of_parts m n ((booleans_Decides m.done n.done).0 first.0) ((booleans_Decides m.next n.next).0 rest.0) ((booleans_Decides m.postponed n.postponed).0 rest.1)

same_marks : (ms ns : List Mark) → pointwise same_mark ms ns ≡ true → ms ≡ ns
same_marks [] [] h = refl
same_marks [] (n ∷ ns) h = absurd (false≢true h)
same_marks (m ∷ ms) [] h = absurd (false≢true h)
same_marks (m ∷ ms) (n ∷ ns) h =
    let parts : (same_mark m n ≡ true) × (pointwise same_mark ms ns ≡ true) = and_parts _ _ h in
    λ i. same_mark-decides m n parts.0 i ∷ same_marks ms ns parts.1 i

branch_of_parts : (f g : Fork) → f.work.items ≡ g.work.items → f.cube ≡ g.cube → f.marks.items ≡ g.marks.items → branch_of f ≡ branch_of g
branch_of_parts f g p q r = λ i. record { work = reverse (p i); done = done_of (r i); cube = q i; next = next_of (r i); postponed = postponed_of (r i) }

-- forks that are found the same have the same branch
same_fork-branch : (f g : Fork) → same_fork f g ≡ true → branch_of f ≡ branch_of g
same_fork-branch f g h =
    let digests : (eqb f.digest g.digest ≡ true) × ((same_ids f.work.items g.work.items && ((eqb f.cube.must g.cube.must && eqb f.cube.not g.cube.not) && pointwise same_mark f.marks.items g.marks.items)) ≡ true) = and_parts _ _ h in
    let first : (same_ids f.work.items g.work.items ≡ true) × (((eqb f.cube.must g.cube.must && eqb f.cube.not g.cube.not) && pointwise same_mark f.marks.items g.marks.items) ≡ true) = and_parts _ _ digests.1 in
    let rest : ((eqb f.cube.must g.cube.must && eqb f.cube.not g.cube.not) ≡ true) × (pointwise same_mark f.marks.items g.marks.items ≡ true) = and_parts _ _ first.1 in
    let cube : (eqb f.cube.must g.cube.must ≡ true) × (eqb f.cube.not g.cube.not ≡ true) = and_parts _ _ rest.0 in
    branch_of_parts f g (same_ids-decides f.work.items g.work.items first.0) (same_cube f.cube g.cube (eqb-true f.cube.must g.cube.must cube.0) (eqb-true f.cube.not g.cube.not cube.1)) (same_marks f.marks.items g.marks.items rest.1)

-- what is known once one more fork was put in, and others may have gone before
pub learns_one : (old mid new : Fork → Option ℕ) (fork : Fork) (leaves : ℕ) → ((q : Fork) (n : ℕ) → mid q ≡ Some n → old q ≡ Some n) → ((q : Fork) → new q ≡ cond (same_fork fork q) (Some leaves) (mid q)) → Learns old new (branch_of fork) leaves
learns_one old mid new fork leaves before put q n is =
    elim (cases_Bool (same_fork fork q)) [
      | inl same ↦ (let e : Some leaves ≡ Some n = sym (put q ∙ cond-true (same_fork fork q) (Some leaves) (mid q) same) ∙ is in let k : n ≡ leaves = cc in inr (same_fork-branch fork q same, k))
      | inr other ↦ inl (before q n (sym (put q ∙ cond-false (same_fork fork q) (Some leaves) (mid q) other) ∙ is))
    ]
