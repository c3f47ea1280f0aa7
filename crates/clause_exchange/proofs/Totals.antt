-- Sums over views, counts of numbers among parts, and lists that are read by `get_elem?`.
use Rattle.std.proofs.Common.{◌≡◌, ℕ, zero, suc, ◌+◌, ◌<◌, ◌≤◌, ◌≢◌, Bool, true, false, cond, nat_eq, List, [], ◌∷◌, ◌++◌, length, get_or, set, sym, refl, ap, ◌∙◌, subst, ⊎_elim, arith, eq-eqb, eqb-true}
use mathlib.Core.Option.{some, some-injective, some-ne-none}
use lib.ListN.{get_elem?}
use Rattle.atomic_table.proofs.Lists.{at_set}
use Rattle.clause_exchange.specs.declared.views.Terms.{Terms}
use Rattle.clause_exchange.specs.declared.views.Part.{Part}
use Rattle.clause_exchange.specs.Rule.{total, count_of, fresh_parts}

module _ {A : Type 0} where
  pub at_one : (l : List A) (i : ℕ) (a b : A) → get_elem? l i ≡ some a → get_elem? l i ≡ some b → a ≡ b
  at_one l i a b p q = some-injective a b (sym p ∙ q)

  -- a fact of each element, after one of them has changed
  pub each_set : (K K' : A → Type 0) (l : List A) (i : ℕ) (w : A) → K' w → ((j : ℕ) (v : A) → j ≢ i → get_elem? l j ≡ some v → K v → K' v)
      → ((j : ℕ) (v : A) → get_elem? l j ≡ some v → K v) → (j : ℕ) (v : A) → get_elem? (set l i w) j ≡ some v → K' v
  each_set K K' l i w mine others all j v e = ⊎_elim
      (λ (t : (j ≡ i) × (w ≡ v)). subst K' t.1 mine)
      (λ (t : (j ≢ i) × (get_elem? l j ≡ some v)). others j v t.0 t.1 (all j v t.1))
      (at_set l i j w v e)

  module _ (g : A → ℕ) where
    pub total-append : (l m : List A) → total g (l ++ m) ≡ total g l + total g m
    total-append [] m = omega arith
    total-append (x ∷ xs) m = omega (arith, total-append xs m)

    pub total-set : (l : List A) (j : ℕ) (v w : A) → get_elem? l j ≡ some v → total g (set l j w) + g v ≡ total g l + g w
    total-set [] j v w e = absurd (some-ne-none v (sym e))
    total-set (x ∷ xs) zero v w e = omega (arith, ap g (some-injective x v e))
    total-set (x ∷ xs) (suc j) v w e = omega (arith, total-set xs j v w e)

    pub term_le : (l : List A) (j : ℕ) (v : A) → get_elem? l j ≡ some v → g v ≤ total g l
    term_le [] j v e = absurd (some-ne-none v (sym e))
    term_le (x ∷ xs) zero v e = omega (arith, ap g (some-injective x v e))
    term_le (x ∷ xs) (suc j) v e = omega (arith, term_le xs j v e)

    pub terms_le : (l : List A) (j k : ℕ) (v u : A) → k ≢ j → get_elem? l j ≡ some v → get_elem? l k ≡ some u → g v + g u ≤ total g l
    terms_le [] j k v u n e d = absurd (some-ne-none v (sym e))
    terms_le (x ∷ xs) zero zero v u n e d = absurd (n refl)
    terms_le (x ∷ xs) zero (suc k) v u n e d = omega (arith, ap g (some-injective x v e), term_le xs k u d)
    terms_le (x ∷ xs) (suc j) zero v u n e d = omega (arith, ap g (some-injective x u d), term_le xs j v e)
    terms_le (x ∷ xs) (suc j) (suc k) v u n e d = omega (arith, terms_le xs j k v u (λ h. n (ap suc h)) e d)

    pub total_zero : (l : List A) → ((j : ℕ) (v : A) → get_elem? l j ≡ some v → g v ≡ 0) → total g l ≡ 0
    total_zero [] all = refl
    total_zero (x ∷ xs) all = omega (arith, all 0 x refl, total_zero xs (λ j v e. all (suc j) v e))

-- ---- counts

pub count-append : (n : ℕ) (ps qs : List Part) → count_of n (ps ++ qs) ≡ count_of n ps + count_of n qs
count-append n [] qs = omega arith
count-append n (p ∷ ps) qs = omega (arith, count-append n ps qs)

abbrev one_if : Bool → ℕ
one_if b = cond b 1 0

pub count_self : (n m : ℕ) → n ≡ m → one_if (nat_eq n m) ≡ 1
count_self n m e = ap one_if (eq-eqb n m e)

-- a part that stands in a list is counted there
pub counted : (n : ℕ) (ps : List Part) (k : ℕ) (d : Part) → k < length ps → (get_or ps k d).number ≡ n → 1 ≤ count_of n ps
counted n [] k d lt e = absurd (omega arith)
counted n (p ∷ ps) zero d lt e = omega (arith, count_self p.number n e)
counted n (p ∷ ps) (suc k) d lt e = omega (arith, counted n ps k d (omega arith) e)

cond_less : (n m : ℕ) → n < m → one_if (nat_eq m n) ≡ 0
cond_less n m lt = by (nat_eq m n) refl
  where
    by : (b : Bool) → nat_eq m n ≡ b → one_if b ≡ 0
    by true e = let same : m ≡ n = eqb-true m n e in absurd (omega arith)
    by false e = refl

one_more : (from n rest : ℕ) → rest ≤ 1 → (n < suc from → rest ≡ 0) → one_if (nat_eq from n) + rest ≤ 1
one_more from n rest few none = by (nat_eq from n) refl
  where
    by : (b : Bool) → nat_eq from n ≡ b → one_if b + rest ≤ 1
    by true e = let same : from ≡ n = eqb-true from n e in let nothing : rest ≡ 0 = none (omega arith) in omega arith
    by false e = omega arith

-- no number comes twice
pub count-fresh_parts : (terms : Terms) (n from count : ℕ) → (count_of n (fresh_parts terms from count) ≤ 1) × (n < from → count_of n (fresh_parts terms from count) ≡ 0)
count-fresh_parts terms n from zero = (omega arith, λ _. refl)
count-fresh_parts terms n from (suc count) =
    let more = count-fresh_parts terms n (suc from) count in
    (one_more from n (count_of n (fresh_parts terms (suc from) count)) more.0 more.1, λ lt. omega (arith, cond_less n from lt, more.1 (omega arith)))
