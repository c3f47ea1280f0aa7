use Rattle.std.proofs.Common.{◌≡◌, ◌≢◌, ℕ, zero, suc, ◌-◌, ◌<◌, ◌≤◌, ◌⊎◌, ltb, cond, sym, ap, ◌∙◌, arith, inl, inr}
use Rattle.std.proofs.lemmas.Bool.{cases_eq}
use Rattle.std.proofs.lemmas.Bool.Decides.{nat_tests}

-- two of the numbers f 0 to f n are equal
pub record IsRepeated (f : ℕ → ℕ) (n : ℕ) : Type 0 where
  pub first : ℕ
  pub second : ℕ
  pub before : first < second
  pub within : second ≤ n
  pub same : f first ≡ f second

-- the numbers but y, without a gap where it was
abbrev past : ℕ → ℕ → ℕ
past y x = cond (ltb y x) (x - 1) x

past-lt : (n y x : ℕ) → x ≢ y → x < suc n → y < suc n → past y x < n
past-lt n y x apart h g = grind (arith, nat_tests)

past-inj : (y x x' : ℕ) → x ≢ y → x' ≢ y → past y x ≡ past y x' → x ≡ x'
past-inj y x x' apart apart' e = grind (arith, nat_tests)

-- a number is among the first n, or it isn't
find : (f : ℕ → ℕ) (x n : ℕ) → ((k : ℕ) × (k < n) × (f k ≡ x)) ⊎ ((k : ℕ) → k < n → f k ≢ x)
find f x zero = inr (λ k h e. absurd (omega arith))
find f x (suc n) = elim (cases_eq (f n) x) [
  | inl e ↦ inl (n, omega arith, e)
  | inr here ↦ elim (find f x n) [
    | inl found ↦ let h : found.0 < n = found.1 in inl (found.0, omega arith, found.2)
    | inr none ↦ inr (λ k h e. elim (cases_eq k n) [
      | inl last ↦ here (ap f (sym last) ∙ e)
      | inr other ↦ let apart : k ≢ n = other in none k (omega arith) e
    ])
  ]
]

-- of n + 1 numbers below n two are equal
pub pigeonhole : (n : ℕ) (f : ℕ → ℕ) → ((k : ℕ) → k ≤ n → f k < n) → IsRepeated f n
pigeonhole zero f below = let h : f 0 < 0 = below 0 (omega arith) in absurd (omega arith)
pigeonhole (suc n) f below = elim (find f (f (suc n)) (suc n)) [
  | inl found ↦ record { first = found.0; second = suc n; before = found.1; within = omega arith; same = found.2 }
  | inr none ↦
      let fewer : IsRepeated (λ k. past (f (suc n)) (f k)) n =
      pigeonhole n (λ k. past (f (suc n)) (f k)) (λ k h.
      past-lt n (f (suc n)) (f k) (none k (omega arith)) (below k (omega arith)) (below (suc n) (omega arith))) in
      let before : fewer.first < fewer.second = fewer.before in
      let within : fewer.second ≤ n = fewer.within in
      record {
        first = fewer.first;
        second = fewer.second;
        before = before;
        within = omega arith;
        same = past-inj (f (suc n)) (f fewer.first) (f fewer.second) (none fewer.first (omega arith)) (none fewer.second (omega arith)) fewer.same;
      }
]
