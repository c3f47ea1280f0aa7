-- The clause that is learnt at the end of the analysis.
use Rattle.std.proofs.Common.{◌≡◌, ℕ, ◌<◌, ◌≤◌, nat_eq, List, [], ◌∷◌, ◌⊎◌, inl, inr, Some, map, reverse, filter, slice_get, length, Contains, refl, sym, subst, ap, ◌∙◌, arith}
use Rattle.std.proofs.lemmas.Bool.Decides.{Decides-eqb}
use Rattle.std.proofs.lemmas.List.Elements.{All-contains}
use Rattle.std_lemmas.proofs.Lists.{Contains-head, Contains-later, Contains-none, Contains-cases, Contains-slice_get, All-from_contains}
use Rattle.propositional_logic.specs.Literal.{Literal, negated}
use Rattle.propositional_logic.specs.Clause.{IsClauseOf, IsWithinVariables, IsTautology}
use Rattle.propositional_logic.proofs.Tests.{Decides-is_falsified, fails}
use Rattle.refutation_log.specs.Follows.{Follows}
use Rattle.unit_propagate.specs.declared.marks.Mark.{Mark}
use Rattle.unit_propagate.specs.Trail.{IsTrail, literals_of}
use Rattle.unit_propagate.proofs.TrailLemmas.{literal-of, one_sign}
use Rattle.unit_propagate.proofs.PropagatorLemmas.{negated-negated}
use Rattle.conflict_learn.specs.Learnt.{level_in, clause_level, IsLearnt}
use Rattle.conflict_learn.specs.Analysis.{IsBefore, IsAfter, IsAnalysis}
use Rattle.conflict_learn.proofs.LevelLemmas.{level_at, one_passes}

map-Contains : (f : Literal → Literal) (xs : List Literal) (x : Literal) → Contains xs x → Contains (map f xs) (f x)
map-Contains f [] x h = absurd (Contains-none x h)
map-Contains f (y ∷ ys) x h = elim (Contains-cases y ys x h) [
  | inl e ↦ subst (λ z. Contains (f y ∷ map f ys) (f z)) e (Contains-head (f y) (map f ys))
  | inr r ↦ Contains-later (f y) (map f ys) (f x) (map-Contains f ys x r)
]

Contains-map : (f : Literal → Literal) (xs : List Literal) (y : Literal) → Contains (map f xs) y → (x : Literal) × Contains xs x × (f x ≡ y)
Contains-map f [] y h = absurd (Contains-none y h)
Contains-map f (x ∷ xs) y h = elim (Contains-cases (f x) (map f xs) y h) [
  | inl e ↦ (x, Contains-head x xs, e)
  | inr r ↦ let k = Contains-map f xs y r in (k.0, Contains-later x xs k.0 k.1, k.2)
]

none_in : (c : List Literal) → ((l : Literal) → Contains c l → ⊥) → c ≡ []
none_in [] h = refl
none_in (x ∷ xs) h = absurd (h x (Contains-head x xs))

-- the literals kept are the opposites of some that stand on the trail
module _ (clauses : List (List Literal)) (vars : ℕ) (marks : List Mark) (trail : IsTrail vars marks) (top bound : ℕ) (lits : List Literal) (hints : List ℕ)
    (a : IsAnalysis clauses marks top bound [] lits hints) where
  kept_mark : (l : Literal) → Contains lits l → (m : Mark) × Contains marks m × (m.lit ≡ negated l)
  kept_mark l h = let k = a.kept l h in (k.1, Contains-slice_get marks k.0 k.1 k.3, k.4)

  pub kept_within : IsWithinVariables vars lits
  kept_within = All-from_contains (λ l. l.var ≤ vars) lits (λ l h.
      let k = kept_mark l h in
      let same : k.0.lit.var ≡ l.var = ap (λ (x : Literal). x.var) k.2 in
      let low : k.0.lit.var ≤ vars = (All-contains (λ (m : Mark). (0 < m.lit.var) × (m.lit.var ≤ vars)) marks k.0 trail.within k.1).1 in
      omega arith)

  pub kept_has_one_sign : IsTautology lits → ⊥
  kept_has_one_sign t =
      let k = kept_mark t.1 (t.0, t.2, t.3) in
      let n = kept_mark (negated t.1) t.4 in
      one_sign vars marks t.1 trail
      (subst (Contains (literals_of marks)) (n.2 ∙ negated-negated t.1) (literal-of marks n.0 n.1))
      (subst (Contains (literals_of marks)) k.2 (literal-of marks k.0 k.1))

module _ (clauses : List (List Literal)) (vars : ℕ) (marks : List Mark) (trail : IsTrail vars marks) (top bound : ℕ) (lits clause : List Literal) (hints : List ℕ)
    (a : IsAnalysis clauses marks top bound [] lits hints) (is : IsClauseOf lits clause) where
  of_clause : (l : Literal) → Contains clause l → Contains lits l
  of_clause l h = (is.same_literals l).0 h

  pub learnt_follows : Follows clauses clause (reverse hints)
  learnt_follows = a.leads (map negated clause) (λ q m h. absurd (Contains-none q h)) (λ l h. map-Contains negated clause l ((is.same_literals l).1 h))
      (λ t h. let k = Contains-map negated clause t h in inr (subst (Contains lits) (sym (ap negated (sym k.2) ∙ negated-negated k.0)) (of_clause k.0 k.1)))

  level_of : (l : Literal) (q : ℕ) (m : Mark) → slice_get marks q ≡ Some m → m.lit ≡ negated l → level_in marks l.var ≡ m.level
  level_of l q m at e = level_at vars marks q m l.var trail at (ap (λ (x : Literal). x.var) e)

  learnt_one : 0 < top → ((top ≡ 0) × (lits ≡ [])) ⊎ ((0 < top) × (IsBefore marks top [] lits ⊎ IsAfter marks top [] lits)) → length (filter (λ l. nat_eq (level_in marks l.var) top) clause) ≡ 1
  learnt_one p (inl z) = absurd (let x : top ≡ 0 = z.0 in omega arith)
  learnt_one p (inr (q, inl b)) = absurd (Contains-none b.place b.to_come)
  learnt_one p (inr (q, inr f)) =
      one_passes 0 (λ l. nat_eq (level_in marks l.var) top) clause f.point is.sorted ((is.same_literals f.point).1 f.member)
      ((Decides-eqb (level_in marks f.point.var) top).1 (level_of f.point f.place f.mark f.there f.is ∙ f.on_top))
      (λ l h n. fails _ (Decides-eqb (level_in marks l.var) top) (λ e.
      let k = a.kept l (of_clause l h) in
      let lt : k.1.level < top = f.others l k.0 k.1 (of_clause l h) k.3 k.4 n in
      let s : level_in marks l.var ≡ k.1.level = level_of l k.0 k.1 k.3 k.4 in
      omega arith))

  learnt_empty : top ≡ 0 → ((top ≡ 0) × (lits ≡ [])) ⊎ ((0 < top) × (IsBefore marks top [] lits ⊎ IsAfter marks top [] lits)) → clause ≡ []
  learnt_empty z (inl e) = none_in clause (λ l h. Contains-none l (subst (λ xs. Contains xs l) e.1 (of_clause l h)))
  learnt_empty z (inr (q, o)) = absurd (omega arith)

  pub learnt_is : (conflict : List Literal) → top ≡ clause_level marks conflict → IsLearnt marks conflict clause
  learnt_is conflict e = record {
    falsified = (Decides-is_falsified (literals_of marks) clause).1 (All-from_contains (λ l. Contains (literals_of marks) (negated l)) clause (λ l h.
        let k = a.kept l (of_clause l h) in subst (Contains (literals_of marks)) k.4 (literal-of marks k.1 (Contains-slice_get marks k.0 k.1 k.3))));
    one = λ p. subst (λ n. length (filter (λ l. nat_eq (level_in marks l.var) n) clause) ≡ 1) e (learnt_one (omega arith) a.phase);
    below = All-from_contains (λ l. level_in marks l.var ≤ clause_level marks conflict) clause (λ l h.
        let k = a.kept l (of_clause l h) in let s : level_in marks l.var ≡ k.1.level = level_of l k.0 k.1 k.3 k.4 in let u : k.1.level ≤ top = k.5 in omega arith);
    empty = λ z. learnt_empty (e ∙ z) a.phase;
  }
