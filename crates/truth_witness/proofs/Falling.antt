-- The clauses of a fall: there are values of the literals that compare ranks with which all but the last are met, and the last one is
-- false only where the rank falls or a named until is awaited while it stays.
use Rattle.std.proofs.Common.{◌≡◌, ℕ, zero, suc, ◌+◌, ◌*◌, ◌/◌, ◌%◌, ◌^◌, ◌<◌, Bool, true, false, not, cond, eqb, ◌&&◌, ◌||◌, List, [], ◌∷◌, length, refl, sym, ap, ◌∙◌, arith, inl, inr}
use Rattle.std.specs.Prelude.{◌⊎◌}
use Rattle.std.specs.Bool.{beq}
use Rattle.std.specs.List.{list_any}
use Rattle.std.proofs.Math.Nat.{mod-lt, pow-succ'}
use Rattle.std.proofs.lemmas.Bool.{or_parts, true≢false}
use Rattle.std.proofs.lemmas.Nat.{mod-pow-add, pow_pos}
use Rattle.letters_and_lassos.specs.Signals.{has}
use Rattle.aiger_text.specs.Circuit.{Valuation, literal_value}
use Rattle.truth_witness.specs.Clauses.{opposite}
use Rattle.truth_witness.specs.Falls.{differs}
use Rattle.truth_witness.proofs.Values.{value_opposite}

-- the number that literals have, the greatest bit first
abbrev pub number_at : Valuation → List ℕ → ℕ
number_at v [] = 0
number_at v (bit ∷ bits) = cond (literal_value v bit) (2 ^ length bits) 0 + number_at v bits

below_power : (v : Valuation) (bits : List ℕ) → number_at v bits < 2 ^ length bits
below_power v [] = pow_pos 0
below_power v (bit ∷ bits) = by (literal_value v bit) (below_power v bits)
  where
    by : (b : Bool) → number_at v bits < 2 ^ length bits → cond b (2 ^ length bits) 0 + number_at v bits < 2 ^ suc (length bits)
    by true h = let e : 2 ^ suc (length bits) ≡ 2 * 2 ^ length bits = pow-succ' 2 (length bits) in omega arith
    by false h = let e : 2 ^ suc (length bits) ≡ 2 * 2 ^ length bits = pow-succ' 2 (length bits) in omega arith

module _ (now next : Valuation) where
  -- the bits' number rises, or stays where the lower one does so
  abbrev pub risen : Bool → List ℕ → Bool
  risen lower [] = lower
  risen lower (bit ∷ bits) = (literal_value next bit && not (literal_value now bit)) || (beq (literal_value next bit) (literal_value now bit) && risen lower bits)

  pub not_risen : (lower : Bool) (bits : List ℕ) → risen lower bits ≡ false
      → (number_at next bits < number_at now bits) ⊎ ((number_at next bits ≡ number_at now bits) × (lower ≡ false))
  not_risen lower [] h = inr (refl, h)
  not_risen lower (bit ∷ bits) h = by (literal_value next bit) (literal_value now bit) (not_risen lower bits) h
    where
      by : (new old : Bool) → (risen lower bits ≡ false → (number_at next bits < number_at now bits) ⊎ ((number_at next bits ≡ number_at now bits) × (lower ≡ false)))
          → ((new && not old) || (beq new old && risen lower bits)) ≡ false
          → (cond new (2 ^ length bits) 0 + number_at next bits < cond old (2 ^ length bits) 0 + number_at now bits)
          ⊎ ((cond new (2 ^ length bits) 0 + number_at next bits ≡ cond old (2 ^ length bits) 0 + number_at now bits) × (lower ≡ false))
      by true true rest h = elim (rest h) [
        | inl falls ↦ let f : number_at next bits < number_at now bits = falls in inl (omega arith)
        | inr stays ↦ inr (ap (λ n. 2 ^ length bits + n) stays.0, stays.1)
      ]
      by true false rest h = absurd (true≢false h)
      by false true rest h = let f : number_at next bits < 2 ^ length bits = below_power next bits in inl (omega arith)
      by false false rest h = elim (rest h) [
        | inl falls ↦ let f : number_at next bits < number_at now bits = falls in inl (omega arith)
        | inr stays ↦ inr (ap (λ n. 0 + n) stays.0, stays.1)
      ]

-- bits that don't differ from those of j have its number
digit : (d p : ℕ) → d < 2 → cond (eqb d 1) p 0 ≡ d * p
digit zero p h = omega arith
digit (suc zero) p h = omega arith
digit (suc (suc d)) p h = absurd (omega arith)

pub number_modulo : (v : Valuation) (j : ℕ) (bits : List ℕ) → list_any (literal_value v) (differs j bits) ≡ false → number_at v bits ≡ j % 2 ^ length bits
number_modulo v j [] h = let m : j % 1 < 1 = mod-lt j (omega arith) in omega arith
number_modulo v j (bit ∷ bits) h =
    let parts : (literal_value v (cond (has j (length bits)) (opposite bit) bit) ≡ false) × (list_any (literal_value v) (differs j bits) ≡ false) =
    or_parts (literal_value v (cond (has j (length bits)) (opposite bit) bit)) (list_any (literal_value v) (differs j bits)) h in
    let same : literal_value v bit ≡ has j (length bits) = by (has j (length bits)) parts.0 in
    let one : 1 + length bits ≡ suc (length bits) = omega arith in
    (λ i. cond (same i) (2 ^ length bits) 0 + number_modulo v j bits parts.1 i)
    ∙ ap (λ n. n + j % 2 ^ length bits) (digit (j / 2 ^ length bits % 2) (2 ^ length bits) (mod-lt (j / 2 ^ length bits) (omega arith)))
    ∙ sym (mod-pow-add j 1 (length bits))
    ∙ ap (λ n. j % 2 ^ n) one
  where
    by : (b : Bool) → literal_value v (cond b (opposite bit) bit) ≡ false → literal_value v bit ≡ b
    by true off = twice (literal_value v bit) (sym (value_opposite v bit) ∙ off)
      where
        twice : (b : Bool) → not b ≡ false → b ≡ true
        twice true e = refl
        twice false e = sym e
    by false off = off
