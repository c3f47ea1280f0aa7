-- Why ranks can't fall for ever (the rule of justice of Manna and Pnueli).
use Rattle.std.specs.Prelude.{◌≡◌, ℕ, suc, ◌+◌, ◌<◌, ◌⊎◌, Bool, true, false}

-- At the step from time n the rank stays, and so does the index, which names one of m things that aren't there yet at time n.
pub record Waits (rank index : ℕ → ℕ) (m : ℕ) (just : ℕ → ℕ → Bool) (n : ℕ) : Type 0 where
  pub same_rank : rank (suc n) ≡ rank n
  pub same_index : index (suc n) ≡ index n
  pub named : index n < m
  pub not_yet : just (index n) n ≡ false

-- a rank that falls or waits at each step, for things of which each comes again and again, is no rank
abbrev pub RanksFall : Type 0
RanksFall =
    (rank index : ℕ → ℕ) (m : ℕ) (just : ℕ → ℕ → Bool) → ((n : ℕ) → (rank (suc n) < rank n) ⊎ Waits rank index m just n)
    → ((j n : ℕ) → j < m → (k : ℕ) × (just j (n + k) ≡ true)) → ⊥
