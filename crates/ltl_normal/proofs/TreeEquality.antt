use Rattle.std.proofs.Common.{◌≡◌, true, refl, ap, ◌∙◌}
use Rattle.std.proofs.lemmas.Bool.{and_parts, and_from, eqb-true, eq-eqb, false≢true}
use Rattle.ltl_formula.specs.Tree.{Tree}
use Rattle.ltl_formula.specs.Tree.Tree.{truth, falsity, signal, negation, next_time, finally, globally, conjunction, disjunction, implication, equivalence, until, release, weak_until}
use Rattle.ltl_normal.specs.NormalTrees.{tree_eq}

both_same : (f : Tree → Tree → Tree) (a b c d : Tree) → a ≡ c → b ≡ d → f a b ≡ f c d
both_same f a b c d x y = ap (λ t. f t b) x ∙ ap (f c) y

-- formulas that the test finds one are one
pub tree_eq-true : (f g : Tree) → tree_eq f g ≡ true → f ≡ g
tree_eq-true truth truth h = refl
tree_eq-true falsity falsity h = refl
tree_eq-true (signal s) (signal t) h = ap signal (eqb-true s t h)
tree_eq-true (negation a) (negation b) h = ap negation (tree_eq-true a b h)
tree_eq-true (next_time a) (next_time b) h = ap next_time (tree_eq-true a b h)
tree_eq-true (finally a) (finally b) h = ap finally (tree_eq-true a b h)
tree_eq-true (globally a) (globally b) h = ap globally (tree_eq-true a b h)
tree_eq-true (conjunction a b) (conjunction c d) h = let p = and_parts (tree_eq a c) (tree_eq b d) h in both_same conjunction a b c d (tree_eq-true a c p.0) (tree_eq-true b d p.1)
tree_eq-true (disjunction a b) (disjunction c d) h = let p = and_parts (tree_eq a c) (tree_eq b d) h in both_same disjunction a b c d (tree_eq-true a c p.0) (tree_eq-true b d p.1)
tree_eq-true (implication a b) (implication c d) h = let p = and_parts (tree_eq a c) (tree_eq b d) h in both_same implication a b c d (tree_eq-true a c p.0) (tree_eq-true b d p.1)
tree_eq-true (equivalence a b) (equivalence c d) h = let p = and_parts (tree_eq a c) (tree_eq b d) h in both_same equivalence a b c d (tree_eq-true a c p.0) (tree_eq-true b d p.1)
tree_eq-true (until a b) (until c d) h = let p = and_parts (tree_eq a c) (tree_eq b d) h in both_same until a b c d (tree_eq-true a c p.0) (tree_eq-true b d p.1)
tree_eq-true (release a b) (release c d) h = let p = and_parts (tree_eq a c) (tree_eq b d) h in both_same release a b c d (tree_eq-true a c p.0) (tree_eq-true b d p.1)
tree_eq-true (weak_until a b) (weak_until c d) h = let p = and_parts (tree_eq a c) (tree_eq b d) h in both_same weak_until a b c d (tree_eq-true a c p.0) (tree_eq-true b d p.1)
tree_eq-true f g h = absurd (false≢true h)

-- and it finds a formula one with itself
pub tree_eq-self : (f : Tree) → tree_eq f f ≡ true
tree_eq-self truth = refl
tree_eq-self falsity = refl
tree_eq-self (signal s) = eq-eqb s s refl
tree_eq-self (negation a) = tree_eq-self a
tree_eq-self (next_time a) = tree_eq-self a
tree_eq-self (finally a) = tree_eq-self a
tree_eq-self (globally a) = tree_eq-self a
tree_eq-self (conjunction a b) = and_from (tree_eq a a) (tree_eq b b) (tree_eq-self a) (tree_eq-self b)
tree_eq-self (disjunction a b) = and_from (tree_eq a a) (tree_eq b b) (tree_eq-self a) (tree_eq-self b)
tree_eq-self (implication a b) = and_from (tree_eq a a) (tree_eq b b) (tree_eq-self a) (tree_eq-self b)
tree_eq-self (equivalence a b) = and_from (tree_eq a a) (tree_eq b b) (tree_eq-self a) (tree_eq-self b)
tree_eq-self (until a b) = and_from (tree_eq a a) (tree_eq b b) (tree_eq-self a) (tree_eq-self b)
tree_eq-self (release a b) = and_from (tree_eq a a) (tree_eq b b) (tree_eq-self a) (tree_eq-self b)
tree_eq-self (weak_until a b) = and_from (tree_eq a a) (tree_eq b b) (tree_eq-self a) (tree_eq-self b)
