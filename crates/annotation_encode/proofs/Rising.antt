-- Lists of literals whose variables rise between two numbers.
use Rattle.std.proofs.Common.{◌≡◌, ℕ, zero, suc, ◌+◌, ◌<◌, ◌≤◌, List, [], ◌∷◌, ◌++◌, get_or, ap, subst, arith}
use Rattle.std.proofs.lemmas.List.Elements.{All-append}
use Rattle.propositional_logic.specs.Literal.{Literal}
use Rattle.propositional_logic.specs.Clause.{HasBadVariable, IsRisingFrom, IsWithinVariables}
use Rattle.annotation_encode.specs.BaseClauses.{each_below}

-- the variables rise above `low`, and none passes `high`
pub record Rises (low high : ℕ) (lits : List Literal) : Type 0 where
  pub rising : IsRisingFrom low lits
  pub within : IsWithinVariables high lits

none_within : (high : ℕ) → IsWithinVariables high []
none_within high k d h = absurd (omega arith)

pub Rises-none : (low high : ℕ) → Rises low high []
Rises-none low high = record { rising = tt; within = none_within high }

pub Rises-one : (low high : ℕ) (l : Literal) → low < l.var → l.var ≤ high → Rises low high (l ∷ [])
Rises-one low high l from to = record { rising = (from, tt); within = one }
  where
    one : IsWithinVariables high (l ∷ [])
    one zero d h = to
    one (suc k) d h = absurd (omega arith)

rising_lower : (low mid : ℕ) (lits : List Literal) → low ≤ mid → IsRisingFrom mid lits → IsRisingFrom low lits
rising_lower low mid [] h r = tt
rising_lower low mid (l ∷ ls) h r = let from : mid < l.var = r.0 in (omega (arith, from, h), r.1)

within_higher : (mid high : ℕ) (lits : List Literal) → mid ≤ high → IsWithinVariables mid lits → IsWithinVariables high lits
within_higher mid high lits h w k d less = let at = w k d less in omega (arith, at, h)

pub Rises-wider : (low low' high high' : ℕ) (lits : List Literal) → low' ≤ low → high ≤ high' → Rises low high lits → Rises low' high' lits
Rises-wider low low' high high' lits a b r = record { rising = rising_lower low' low lits a r.rising; within = within_higher high high' lits b r.within }

rising_join : (low mid : ℕ) (xs ys : List Literal) → low ≤ mid → IsRisingFrom low xs → IsWithinVariables mid xs → IsRisingFrom mid ys → IsRisingFrom low (xs ++ ys)
rising_join low mid [] ys h rx wx ry = rising_lower low mid ys h ry
rising_join low mid (x ∷ xs) ys h rx wx ry =
    let first : x.var ≤ mid = wx 0 x (omega arith) in
    (rx.0, rising_join x.var mid xs ys first rx.1 (λ k d less. wx (suc k) d (omega arith)) ry)

pub Rises-append : (low mid high : ℕ) (xs ys : List Literal) → low ≤ mid → mid ≤ high → Rises low mid xs → Rises mid high ys → Rises low high (xs ++ ys)
Rises-append low mid high xs ys a b rx ry = record {
  rising = rising_join low mid xs ys a rx.rising rx.within ry.rising;
  within = All-append (λ l. l.var ≤ high) xs ys (within_higher mid high xs b rx.within) ry.within;
}

-- pieces that rise one after the other
pub Rises-each_below : (n : ℕ) (f : ℕ → List Literal) (at : ℕ → ℕ) → ((k : ℕ) → k < n → at k ≤ at (k + 1)) → ((k : ℕ) → k < n → Rises (at k) (at (k + 1)) (f k))
    → Rises (at 0) (at n) (each_below n f)
Rises-each_below n f at steps each = (go n (λ k h. steps k h) (λ k h. each k h)).1
  where
    go : (m : ℕ) → ((k : ℕ) → k < m → at k ≤ at (k + 1)) → ((k : ℕ) → k < m → Rises (at k) (at (k + 1)) (f k)) → (at 0 ≤ at m) × Rises (at 0) (at m) (each_below m f)
    go zero s e = (omega arith, Rises-none (at 0) (at 0))
    go (suc m) s e =
        let before : (at 0 ≤ at m) × Rises (at 0) (at m) (each_below m f) = go m (λ k h. s k (omega arith)) (λ k h. e k (omega arith)) in
        let one : m + 1 ≡ suc m = omega arith in
        let step : at m ≤ at (suc m) = subst (λ k. at m ≤ at k) one (s m (omega arith)) in
        let here : Rises (at m) (at (suc m)) (f m) = subst (λ k. Rises (at m) (at k) (f m)) one (e m (omega arith)) in
        let low : at 0 ≤ at m = before.0 in
        (omega (arith, low, step), Rises-append (at 0) (at m) (at (suc m)) (each_below m f) (f m) low step before.1 here)

-- two literals by rising variable
pub Rises-pair : (low high : ℕ) (a b : Literal) → low < a.var → a.var < b.var → b.var ≤ high → Rises low high (a ∷ b ∷ [])
Rises-pair low high a b x y z = Rises-append low a.var high (a ∷ []) (b ∷ []) (omega arith) (omega arith) (Rises-one low a.var a x (omega arith)) (Rises-one a.var high b y z)

pub none_bad : (vars : ℕ) (lits : List Literal) → IsWithinVariables vars lits → HasBadVariable vars lits → ⊥
none_bad vars lits within (k, l, h, e, above) =
    let at : (get_or lits k l).var ≤ vars = within k l h in
    let same : (get_or lits k l).var ≡ l.var = ap (λ (x : Literal). x.var) e in
    omega (arith, at, same, above)
