-- Where each of finitely many things is as wanted or shows V, all are as wanted or V holds.
use Rattle.std.proofs.Common.{ℕ, zero, suc, ◌<◌, ◌⊎◌, inl, inr, List, [], ◌∷◌, refl, sym, subst, arith}
use Rattle.std.specs.Prelude.{All, Contains}
use Rattle.std.proofs.lemmas.Bool.{cases_eq}
use Rattle.std.proofs.lemmas.List.Elements.{All-cons, All-nil}

pub each_below : (n : ℕ) (P : ℕ → Type 0) (V : Type 0) → ((k : ℕ) → k < n → P k ⊎ V) → ((k : ℕ) → k < n → P k) ⊎ V
each_below zero P V look = inl (λ k h. absurd (omega arith))
each_below (suc n) P V look =
    elim (each_below n P V (λ k h. look k (omega arith))) [
      | inr v ↦ inr v
      | inl front ↦ elim (look n (omega arith)) [
        | inr v ↦ inr v
        | inl last ↦ inl (λ k h. elim (cases_eq k n) [
          | inl e ↦ subst P (sym e) last
          | inr ne ↦ front k (omega (arith, ne))
        ])
      ]
    ]

pub each_in : {X : Type 0} (xs : List X) (P : X → Type 0) (V : Type 0) → ((x : X) → Contains xs x → P x ⊎ V) → All P xs ⊎ V
each_in [] P V look = inl (All-nil P)
each_in (x ∷ xs) P V look =
    elim (look x (0, omega arith, refl)) [
      | inr v ↦ inr v
      | inl first ↦ elim (each_in xs P V (λ y (k, h, e). look y (suc k, omega arith, e))) [
        | inr v ↦ inr v
        | inl rest ↦ inl (All-cons P x xs first rest)
      ]
    ]
