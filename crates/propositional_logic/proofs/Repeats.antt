-- A sorted list of literals, written once each.
use Rattle.std.proofs.Common.{◌≡◌, ◌≢◌, ℕ, suc, zero, ◌+◌, ◌-◌, ◌<◌, ◌≤◌, Bool, true, false, not, List, [], ◌∷◌, ◌++◌, inl, inr, ◌↔◌, Option, Some, None, take, get_or, slice_get, length, Contains, refl, sym, subst, ap, ◌∙◌, true≢false, arith}
use Rattle.std.specs.List.Sorted.{IsNonDecreasingBy, IsPermutation}
use Rattle.std.proofs.lemmas.List.Sorted.{Contains-permutation, IsPermutation-sym}
use Rattle.std.proofs.lemmas.List.{take_more, get_or-take, get_or_default, length-take-le}
use Rattle.std.proofs.lemmas.List.Elements.{Contains-append_left, Contains-push, Contains-get_or, All-contains, Contains-push_cases}
use Rattle.std.proofs.lemmas.Option.{slice_get_within, slice_get-get_or, get_or_from_slice_get}
use Rattle.std.proofs.lemmas.Bool.{not-false}
use Rattle.propositional_logic.specs.Literal.{Literal, negated, literal_eq}
use Rattle.propositional_logic.specs.Equality.{Decides-literal_eq}
use Rattle.propositional_logic.specs.Clause.{IsRisingFrom, IsClause, IsClauseOf, IsWithinVariables, IsTautology}
use Rattle.propositional_logic.proofs.Rising.{rising_above, rising_push, no_tautology}

-- along a rising list variables never fall
rising_at : (n : ℕ) (xs : List Literal) (i j : ℕ) (d : Literal) → IsRisingFrom n xs → i ≤ j → j < length xs → (get_or xs i d).var ≤ (get_or xs j d).var
rising_at n [] i j d r le lt = absurd (omega arith)
rising_at n (x ∷ xs) zero zero d r le lt = omega arith
rising_at n (x ∷ xs) zero (suc j) d r le lt =
    let f = rising_above x.var xs (get_or xs j d) r.1 (Contains-get_or xs j d (omega arith)) in omega arith
rising_at n (x ∷ xs) (suc i) zero d r le lt = absurd (omega arith)
rising_at n (x ∷ xs) (suc i) (suc j) d r le lt = rising_at x.var xs i j d r.1 (omega arith) (omega arith)

-- the last literal has the highest variable
rising_last : (n : ℕ) (xs : List Literal) (m l : Literal) → IsRisingFrom n xs → Contains xs m → slice_get xs (length xs - 1) ≡ Some l → m.var ≤ l.var
rising_last n xs m l r h e =
    let lt : length xs - 1 < length xs = slice_get_within xs (length xs - 1) l e in
    let k : h.0 < length xs = h.1 in
    let a = rising_at n xs h.0 (length xs - 1) m r (omega arith) lt in
    let p : (get_or xs h.0 m).var ≡ m.var = ap (λ (b : Literal). b.var) h.2 in
    let q : (get_or xs (length xs - 1) m).var ≡ l.var = ap (λ (b : Literal). b.var) (get_or_from_slice_get xs (length xs - 1) l m e) in
    omega (arith, a, p, q)

pub last_member : (xs : List Literal) (l : Literal) → slice_get xs (length xs - 1) ≡ Some l → Contains xs l
last_member xs l e = (length xs - 1, slice_get_within xs (length xs - 1) l e, get_or_from_slice_get xs (length xs - 1) l l e)

module _ (sorted : List Literal) (i : ℕ) (lit : Literal) (lt : i < length sorted) (is : lit ≡ get_or sorted i lit) where
  pub taken : take (i + 1) sorted ≡ take i sorted ++ lit ∷ []
  taken = take_more sorted i lit lt ∙ ap (λ l. take i sorted ++ l ∷ []) (sym is)

  -- a literal before the i-th has no higher variable
  taken_below : IsNonDecreasingBy (λ (l : Literal). l.var) sorted → (m : Literal) → Contains (take i sorted) m → m.var ≤ lit.var
  taken_below up m h =
      let len : length (take i sorted) ≡ i = length-take-le i sorted (omega arith) in
      let k : h.0 < i = omega (arith, h.1, len) in
      let at : get_or sorted h.0 m ≡ m = sym (get_or-take i sorted h.0 m k) ∙ h.2 in
      let there : get_or sorted i m ≡ lit = get_or_default sorted i m lit lt ∙ sym is in
      let f = up h.0 i m (omega arith) lt in
      omega (arith, f, ap (λ (l : Literal). l.var) at, ap (λ (l : Literal). l.var) there)

  module _ (kept : List Literal) (same : (m : Literal) → Contains kept m ↔ Contains (take i sorted) m) where
    -- a repeated literal is there already
    pub same_kept : Contains kept lit → (m : Literal) → Contains kept m ↔ Contains (take (i + 1) sorted) m
    same_kept there m = (over, back)
      where
        over : Contains kept m → Contains (take (i + 1) sorted) m
        over h = subst (λ l. Contains l m) (sym taken) (Contains-append_left (take i sorted) (lit ∷ []) m ((same m).0 h))

        back : Contains (take (i + 1) sorted) m → Contains kept m
        back h =
            elim (Contains-push_cases (take i sorted) lit m (subst (λ l. Contains l m) taken h)) [
              | inl r ↦ (same m).1 r
              | inr e ↦ subst (Contains kept) e there
            ]

    pub same_pushed : (m : Literal) → Contains (kept ++ lit ∷ []) m ↔ Contains (take (i + 1) sorted) m
    same_pushed m = (over, back)
      where
        over : Contains (kept ++ lit ∷ []) m → Contains (take (i + 1) sorted) m
        over h =
            subst (λ l. Contains l m) (sym taken) (elim (Contains-push_cases kept lit m h) [
              | inl r ↦ Contains-append_left (take i sorted) (lit ∷ []) m ((same m).0 r)
              | inr e ↦ subst (Contains (take i sorted ++ lit ∷ [])) e (Contains-push (take i sorted) lit)
            ])

        back : Contains (take (i + 1) sorted) m → Contains (kept ++ lit ∷ []) m
        back h =
            elim (Contains-push_cases (take i sorted) lit m (subst (λ l. Contains l m) taken h)) [
              | inl r ↦ Contains-append_left kept (lit ∷ []) m ((same m).1 r)
              | inr e ↦ subst (Contains (kept ++ lit ∷ [])) e (Contains-push kept lit)
            ]

    -- a literal of another variable than the last one's may follow
    pub rising_pushed : IsNonDecreasingBy (λ (l : Literal). l.var) sorted → 0 < lit.var → IsClause kept
        → ((l : Literal) → slice_get kept (length kept - 1) ≡ Some l → l.var ≢ lit.var) → IsClause (kept ++ lit ∷ [])
    rising_pushed up first r other = rising_push 0 kept lit r first below
      where
        below : (m : Literal) → Contains kept m → m.var < lit.var
        below m h = by (slice_get kept (length kept - 1)) refl (taken_below up m ((same m).0 h))
          where
            by : (o : Option Literal) → slice_get kept (length kept - 1) ≡ o → m.var ≤ lit.var → m.var < lit.var
            by None e f =
                let lt : length kept - 1 < length kept = omega (arith, h.1) in
                let some = slice_get-get_or kept (length kept - 1) m lt in
                absurd (cc)
            by (Some l) e f =
                let a = rising_last 0 kept m l r h e in
                let b = taken_below up l ((same l).0 (last_member kept l e)) in
                let n = other l e in
                omega arith

-- two literals of one variable make a tautology, or are one
pub tautology_at : (xs : List Literal) (l m : Literal) → Contains xs l → Contains xs m → l.var ≡ m.var → l ≢ m → IsTautology xs
tautology_at xs l m h k e n = (h.0, l, h.1, h.2, subst (Contains xs) opposite k)
  where
    signs : (p q : Bool) → (p ≡ q → ⊥) → q ≡ not p
    signs true true n = absurd (n refl)
    signs true false n = refl
    signs false true n = refl
    signs false false n = absurd (n refl)

    differs : l.positive ≡ m.positive → ⊥
    differs s = n (λ i. record { var = e i; positive = s i })

    opposite : m ≡ negated l
    opposite = let v : m.var ≡ l.var = sym e in λ i. record { var = v i; positive = signs l.positive m.positive differs i }

-- the two answers of `!=` on literals
pub differs : (l m : Literal) → not (literal_eq l m) ≡ true → l ≢ m
differs l m h s = true≢false (sym h ∙ ap not ((Decides-literal_eq l m).1 s))

pub agrees : (l m : Literal) → not (literal_eq l m) ≡ false → l ≡ m
agrees l m h = (Decides-literal_eq l m).0 (not-false (literal_eq l m) h)

-- ---- what holds of the clause of sorted literals holds of the literals as they were given

pub clause_of_permutation : (lits sorted kept : List Literal) → IsPermutation lits sorted → IsClauseOf sorted kept → IsClauseOf lits kept
clause_of_permutation lits sorted kept p k = record {
  sorted = k.sorted;
  same_literals = λ l. (
    λ h. Contains-permutation sorted lits l (IsPermutation-sym lits sorted p) ((k.same_literals l).0 h),
    λ h. (k.same_literals l).1 (Contains-permutation lits sorted l p h),
  );
}

-- literals whose variables rise are their own clause
pub clause_of_rising : (lits kept : List Literal) → kept ≡ lits → IsClause lits → IsClauseOf lits kept
clause_of_rising lits kept e r = subst (IsClauseOf lits) (sym e) (record { sorted = r; same_literals = λ l. (λ h. h, λ h. h) })

pub tautology_of_permutation : (lits sorted : List Literal) → IsPermutation lits sorted → IsTautology sorted → IsTautology lits
tautology_of_permutation lits sorted p h =
    let back = λ (l : Literal) (m : Contains sorted l). Contains-permutation sorted lits l (IsPermutation-sym lits sorted p) m in
    let there = back h.1 (h.0, h.2, h.3) in
    (there.0, h.1, there.1, there.2, back (negated h.1) h.4)

pub clause_within : (vars : ℕ) (lits kept : List Literal) → IsClauseOf lits kept → IsWithinVariables vars lits → IsWithinVariables vars kept
clause_within vars lits kept k w i d lt =
    All-contains (λ (l : Literal). l.var ≤ vars) lits (get_or kept i d) w ((k.same_literals (get_or kept i d)).0 (Contains-get_or kept i d lt))

pub clause_no_tautology : (lits kept : List Literal) → IsClauseOf lits kept → IsTautology lits → ⊥
clause_no_tautology lits kept k h =
    let there = (k.same_literals h.1).1 (h.0, h.2, h.3) in
    no_tautology kept k.sorted (there.0, h.1, there.1, there.2, (k.same_literals (negated h.1)).1 h.4)
