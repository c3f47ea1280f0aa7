use Rattle.std.proofs.Common.{◌≡◌, ◌≢◌, ℕ, zero, suc, ◌<◌, ◌⊎◌, inl, inr, refl, subst, sym, ap, arith}
use Rattle.std.proofs.lemmas.Bool.{cases_eq}

-- of two numbers the first is less, or both are the same, or the second is less
pub lt_trichotomy : (i j : ℕ) → (i < j) ⊎ ((i ≡ j) ⊎ (j < i))
lt_trichotomy zero zero = inr (inl refl)
lt_trichotomy zero (suc j) = inl (omega arith)
lt_trichotomy (suc i) zero = inr (inr (omega arith))
lt_trichotomy (suc i) (suc j) =
    elim (lt_trichotomy i j) [ inl a ↦ inl (omega arith) | inr b ↦ elim b [ inl c ↦ inr (inl (ap suc c)) | inr d ↦ inr (inr (omega arith)) ] ]

-- what holds of each number below n in one of two ways holds of all in the first, or of some in the second
pub either_below : (P Q : ℕ → Type 0) (n : ℕ) → ((k : ℕ) → k < n → P k ⊎ Q k) → ((k : ℕ) → k < n → P k) ⊎ ((k : ℕ) × (k < n) × Q k)
either_below P Q zero each = inl (λ k h. absurd (omega arith))
either_below P Q (suc n) each = elim (either_below P Q n (λ k h. each k (omega arith))) [
  | inr found ↦ inr (found.0, (let h : found.0 < n = found.1 in omega arith), found.2)
  | inl all ↦ elim (each n (omega arith)) [
    | inr last ↦ inr (n, omega arith, last)
    | inl last ↦ inl (λ k h. elim (cases_eq k n) [
      | inl same ↦ subst P (sym same) last
      | inr other ↦ let apart : k ≢ n = other in all k (omega arith)
    ])
  ]
]
