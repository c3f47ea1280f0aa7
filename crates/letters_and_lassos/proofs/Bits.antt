-- Numbers and their bits.
use Rattle.std.proofs.Common.{◌≡◌, ℕ, zero, suc, ◌+◌, ◌*◌, ◌/◌, ◌%◌, ◌^◌, ◌<◌, Bool, true, false, cond, eqb, List, [], ◌∷◌, length, get_or, refl, sym, ap, ◌∙◌, arith, inl, inr}
use Rattle.std.specs.Int.{bit_at}
use Rattle.std.proofs.Math.Nat.{pow-suc}
use Rattle.std.proofs.lemmas.Bool.{cases_eq, cond_both, eq-eqb, eqb-true}
use Rattle.std.proofs.lemmas.Nat.Bits.{bit_at_lowest, bit_at-lt, bit_at-suc, bit_at-zero, same_from_bits_below}
use Rattle.letters_and_lassos.specs.Signals.{has}
use Rattle.letters_and_lassos.specs.Bits.{binary_value}

digit-lt : (b : Bool) → cond b 1 0 < 2
digit-lt true = omega arith
digit-lt false = omega arith

digit-is : (b : Bool) → eqb (cond b 1 0) 1 ≡ b
digit-is true = refl
digit-is false = refl

pub number_of-lt : (bs : List Bool) → binary_value bs < 2 ^ length bs
number_of-lt [] = omega arith
number_of-lt (b ∷ bs) =
    let one : cond b 1 0 < 2 = digit-lt b in
    let more : binary_value bs < 2 ^ length bs = number_of-lt bs in
    let e : 2 ^ suc (length bs) ≡ 2 ^ length bs * 2 = pow-suc 2 (length bs) in
    rw e (omega arith)

pub has-number_of : (bs : List Bool) (k : ℕ) → k < length bs → has (binary_value bs) k ≡ get_or bs k false
has-number_of [] k h = absurd (omega arith)
has-number_of (b ∷ bs) zero h =
    let one : cond b 1 0 < 2 = digit-lt b in
    let e : (cond b 1 0 + binary_value bs * 2) % 2 ≡ cond b 1 0 = omega arith in
    ap (λ n. eqb n 1) (bit_at_lowest (cond b 1 0 + binary_value bs * 2) ∙ e) ∙ digit-is b
has-number_of (b ∷ bs) (suc k) h =
    let one : cond b 1 0 < 2 = digit-lt b in
    let e : (cond b 1 0 + binary_value bs * 2) / 2 ≡ binary_value bs = omega arith in
    ap (λ n. eqb n 1) (bit_at-suc (cond b 1 0 + binary_value bs * 2) k ∙ ap (λ n. bit_at n k) e) ∙ has-number_of bs k (omega arith)

-- zero has no bit
pub has-none : (k : ℕ) → has 0 k ≡ false
has-none k = ap (λ n. eqb n 1) (bit_at-zero k)

digit : Bool → ℕ
digit b = cond b 1 0

digit_of : (n : ℕ) → n < 2 → n ≡ digit (eqb n 1)
unfolding digit
digit_of n small = elim (cases_eq n 1) [
  | inl one ↦ one ∙ ap (λ b. cond b 1 0) (sym (eq-eqb n 1 one))
  | inr other ↦ cond_both (eqb n 1) 1 0 (λ m. n ≡ m) (λ e. eqb-true n 1 e) (λ _. let apart : n ≡ 1 → ⊥ = other in omega arith)
]

-- numbers of so many bits are equal where their bits are
pub same_number : (w a b : ℕ) → a < 2 ^ w → b < 2 ^ w → ((k : ℕ) → k < w → has a k ≡ has b k) → a ≡ b
same_number w a b small_a small_b same =
    same_from_bits_below w a b small_a small_b
    (λ k h. digit_of (bit_at a k) (bit_at-lt a k) ∙ ap digit (same k h) ∙ sym (digit_of (bit_at b k) (bit_at-lt b k)))
