-- Clauses of one literal, and clauses of which all literals but one are false.
use Rattle.std.proofs.Common.{◌≡◌, ◌≢◌, ℕ, suc, zero, ◌+◌, ◌<◌, ◌≤◌, true, List, [], ◌∷◌, ◌⊎◌, inl, inr, Some, slice_get, length, Contains, All, refl, sym, subst, ap, ◌∙◌, arith}
use Rattle.std.proofs.lemmas.List.Elements.{All-contains, All-head, All-tail}
use Rattle.std.proofs.lemmas.Option.{slice_get_within}
use Rattle.std_lemmas.proofs.Lists.{Contains-head, Contains-none, Contains-cases, All-from_contains}
use Rattle.propositional_logic.specs.Literal.{Literal, negated}
use Rattle.propositional_logic.specs.Clause.{IsWithinVariables, IsClause}
use Rattle.refutation_log.specs.Follows.{is_falsified_named}
use Rattle.unit_propagate.specs.declared.marks.Mark.{Mark}
use Rattle.unit_propagate.specs.declared.propagator.Propagator.{Propagator}
use Rattle.unit_propagate.specs.Trail.{highest_level, literals_of}
use Rattle.unit_propagate.specs.Sound.{IsReason}
use Rattle.unit_propagate.specs.Watched.{IsWatching, IsWatchOf}
use Rattle.unit_propagate.specs.Watches.{WatchList, IsDone}
use Rattle.unit_propagate.specs.Propagator.{IsKeptPropagator, Goes, AreForced, AreUnitsTrue}
use Rattle.unit_propagate.proofs.Places.{All-slice_get, slice_get-Contains}
use Rattle.unit_propagate.proofs.TrailLemmas.{highest_above, mark-of}
use Rattle.unit_propagate.proofs.PropagatorLemmas.{falsified_at, reason_at}

-- a clause whose literals are all the same has one
pub one_literal : (c : List Literal) (l : Literal) → IsClause c → Contains c l → All (λ x. x ≡ l) c → c ≡ l ∷ []
one_literal [] l r m h = absurd (Contains-none l m)
one_literal (x ∷ []) l r m h = ap (λ y. y ∷ []) (All-head (λ x. x ≡ l) x [] h)
one_literal (x ∷ y ∷ c) l r m h =
    absurd (let a : x.var < y.var = r.1.0 in
    let e : x ≡ l = All-head (λ x. x ≡ l) x (y ∷ c) h in
    let f : y ≡ l = All-head (λ x. x ≡ l) y c (All-tail (λ x. x ≡ l) x (y ∷ c) h) in
    let v : x.var ≡ y.var = ap (λ (z : Literal). z.var) (e ∙ sym f) in
    omega arith)

-- the literals of a clause of one literal
one_only : (c : List Literal) (l x : Literal) → IsWatchOf c (l ∷ []) → Contains c x → x ≡ l
one_only c l x w h = elim (Contains-cases l [] x (w.all x h)) [ inl e ↦ sym e | inr n ↦ absurd (Contains-none x n) ]

one_there : (c : List Literal) (l : Literal) → IsWatchOf c (l ∷ []) → Contains c l
one_there c l w = w.only l (Contains-head l [])

module _ (clauses : List (List Literal)) (s : Propagator) (k : ℕ) (l : Literal) (w : IsWatching clauses s.watches.watched) (at : slice_get s.watches.watched k ≡ Some (l ∷ [])) where
  pub unit_within : (vars : ℕ) → All (IsWithinVariables vars) clauses → l.var ≤ vars
  unit_within vars h =
      let c = w k (l ∷ []) at in
      All-contains (λ (x : Literal). x.var ≤ vars) c.0 l (All-slice_get (IsWithinVariables vars) clauses k c.0 h c.1) (one_there c.0 l c.2)

  pub unit_falsified : Contains (literals_of s.marks.marks) (negated l) → is_falsified_named clauses (literals_of s.marks.marks) (k + 1) ≡ true
  unit_falsified h =
      let c = w k (l ∷ []) at in
      falsified_at clauses (literals_of s.marks.marks) k c.0 c.1
      (All-from_contains (λ x. Contains (literals_of s.marks.marks) (negated x)) c.0 (λ x there. subst (λ y. Contains (literals_of s.marks.marks) (negated y)) (sym (one_only c.0 l x c.2 there)) h))

  pub unit_reason : IsReason clauses (k + 1) (literals_of s.marks.marks) l
  unit_reason =
      let c = w k (l ∷ []) at in
      reason_at clauses (literals_of s.marks.marks) k c.0 l c.1 (one_there c.0 l c.2)
      (All-from_contains (λ x. x ≢ l → Contains (literals_of s.marks.marks) (negated x)) c.0 (λ x there n. absurd (n (one_only c.0 l x c.2 there))))

-- all are true, so each clause of one literal is
pub forced_all : (s : Propagator) (i : ℕ) → IsKeptPropagator s → AreForced s i → length s.watches.units ≤ i → AreUnitsTrue s
forced_all s i k f le j l at =
    let u = slice_get-Contains s.watches.units j (k.listed.alone j l at) in
    f u.0 j l (let lt : u.0 < length s.watches.units = slice_get_within s.watches.units u.0 j u.1 in omega arith) u.1 at

-- where all literals are on level 0, they are so there
pub done_all : (s : Propagator) (i : ℕ) → AreForced s i → highest_level s.marks.marks ≡ 0 → IsDone s.marks.marks s.watches i
done_all s i f low j u l lt at there =
    let m = mark-of s.marks.marks l (f j u l lt at there) in
    let above : m.0.level ≤ highest_level s.marks.marks = All-contains (λ (x : Mark). x.level ≤ highest_level s.marks.marks) s.marks.marks m.0 (highest_above s.marks.marks) m.1 in
    (m.0, m.1, m.2, omega arith)

-- one more is true
pub forced_more : (a b : Propagator) (i k : ℕ) → ((l : Literal) → Contains (literals_of a.marks.marks) l → Contains (literals_of b.marks.marks) l) → b.watches ≡ a.watches → AreForced a i
    → slice_get a.watches.units i ≡ Some k → ((l : Literal) → slice_get a.watches.watched k ≡ Some (l ∷ []) → Contains (literals_of b.marks.marks) l) → AreForced b (i + 1)
forced_more a b i k grows same f at now j u p lt there pair =
    let at' : slice_get a.watches.units j ≡ Some u = ap (λ (w : WatchList). slice_get w.units j) (sym same) ∙ there in
    let pair' : slice_get a.watches.watched u ≡ Some (p ∷ []) = ap (λ (w : WatchList). slice_get w.watched u) (sym same) ∙ pair in
    elim (split j i lt) [
      | inl low ↦ grows p (f j u p low at' pair')
      | inr e ↦ now p (let z : slice_get a.watches.units i ≡ Some u = subst (λ x. slice_get a.watches.units x ≡ Some u) e at' in let y : k ≡ u = cc in subst (λ x. slice_get a.watches.watched x ≡ Some (p ∷ [])) (sym y) pair')
    ]
  where
    split : (j i : ℕ) → j < i + 1 → (j < i) ⊎ (j ≡ i)
    split zero zero l = inr refl
    split zero (suc i) l = inl (omega arith)
    split (suc j) zero l = absurd (omega arith)
    split (suc j) (suc i) l = elim (split j i (omega arith)) [ inl x ↦ inl (omega arith) | inr e ↦ inr (ap suc e) ]

pub Goes-done : (clauses : List (List Literal)) (s : Propagator) (done : ℕ) → IsKeptPropagator s → IsWatching clauses s.watches.watched → IsDone s.marks.marks s.watches done → done ≡ length s.watches.units
    → Goes clauses s (record s { done = done })
Goes-done clauses s done k w d e = record {
  kept = record { listed = k.listed; guarded = k.guarded; done = d; place = k.place; kept = k.kept; forced = omega arith };
  watching = w;
  vars = refl;
  extends = λ first x. x;
  size = omega arith;
}
