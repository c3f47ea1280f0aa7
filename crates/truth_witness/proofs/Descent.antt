-- A number that falls, or stays while something is awaited that comes, doesn't go on for ever (the rule of justice of Manna and Pnueli).
use Rattle.std.proofs.Common.{◌≡◌, ℕ, zero, suc, ◌+◌, ◌<◌, ◌≤◌, Bool, true, refl, sym, ap, ◌∙◌, arith, inl, inr}
use Rattle.std.specs.Prelude.{◌⊎◌}
use Rattle.std.proofs.lemmas.Bool.{true≢false}
use Rattle.truth_witness.specs.Descent.{Waits, RanksFall}

module _ (rank index : ℕ → ℕ) (m : ℕ) (just : ℕ → ℕ → Bool) (steps : (n : ℕ) → (rank (suc n) < rank n) ⊎ Waits rank index m just n)
    (comes : (j n : ℕ) → j < m → (k : ℕ) × (just j (n + k) ≡ true)) where
  abbrev Later : ℕ → Type 0
  Later n = (n' : ℕ) × (rank n' < rank n)

  -- where what the index names comes k steps later, the rank is smaller at some time
  waited : (k n j : ℕ) → index n ≡ j → just j (n + k) ≡ true → Later n
  waited zero n j named here = elim (steps n) [
    | inl falls ↦ (suc n, falls)
    | inr waits ↦
        let e : n + 0 ≡ n = omega arith in
        absurd (true≢false (sym here ∙ ap (just j) e ∙ ap (λ i. just i n) (sym named) ∙ waits.not_yet))
  ]
  waited (suc k) n j named later = elim (steps n) [
    | inl falls ↦ (suc n, falls)
    | inr waits ↦
        let e : n + suc k ≡ suc n + k = omega arith in
        let found : Later (suc n) = waited k (suc n) j (waits.same_index ∙ named) (ap (just j) (sym e) ∙ later) in
        let same : rank (suc n) ≡ rank n = waits.same_rank in
        let less : rank found.0 < rank (suc n) = found.1 in
        (found.0, omega arith)
  ]

  later : (n : ℕ) → Later n
  later n = elim (steps n) [
    | inl falls ↦ (suc n, falls)
    | inr waits ↦
        let found : (k : ℕ) × (just (index n) (n + k) ≡ true) = comes (index n) n waits.named in
        waited found.0 n (index n) refl found.1
  ]

  never : (bound n : ℕ) → rank n ≤ bound → ⊥
  never zero n h = let found : Later n = later n in let less : rank found.0 < rank n = found.1 in absurd (omega arith)
  never (suc bound) n h =
      let found : Later n = later n in
      let less : rank found.0 < rank n = found.1 in
      never bound found.0 (omega arith)

pub ranks_fall : RanksFall
ranks_fall rank index m just steps comes = never rank index m just steps comes (rank 0) 0 (omega arith)
