use Rattle.std.proofs.Common.{◌≡◌, ◌≢◌, ℕ, zero, suc, ◌/◌, ◌%◌, ◌^◌, ◌<◌, ◌≤◌, min, max, ◌⊎◌, inl, inr, true, ◌∙◌, arith}
use Rattle.std.specs.Prelude.{IsTrue, bit_and, bit_or}
use Rattle.std.specs.Int.{bit_at}
use Rattle.std.proofs.lemmas.Bool.{eqb-true, eq-eqb, cases_eq}
use Rattle.std.proofs.lemmas.Nat.Bits.{bit_at_lowest, bit_at-suc, bit_at-zero, bit_at_and, bit_at_or, bit_at-lt, bit_at_above, same_from_bits}
use Rattle.letters_and_lassos.specs.Signals.{has, AreApart}

has-bit : (s k : ℕ) → IsTrue (has s k) → bit_at s k ≡ 1
has-bit s k h = eqb-true (bit_at s k) 1 h

bit-has : (s k : ℕ) → bit_at s k ≡ 1 → IsTrue (has s k)
bit-has s k e = eq-eqb (bit_at s k) 1 e

-- a signal is in the intersection exactly where it is in both sets
pub has-bit_and : (a b k : ℕ) → IsTrue (has (bit_and a b) k) → IsTrue (has a k) × IsTrue (has b k)
has-bit_and a b k h =
    let e : bit_at (bit_and a b) k ≡ 1 = has-bit (bit_and a b) k h in
    let m : bit_at (bit_and a b) k ≡ min (bit_at a k) (bit_at b k) = bit_at_and a b k in
    let small_a : bit_at a k < 2 = bit_at-lt a k in
    let small_b : bit_at b k < 2 = bit_at-lt b k in
    (bit-has a k (omega arith), bit-has b k (omega arith))

pub has-both : (a b k : ℕ) → IsTrue (has a k) → IsTrue (has b k) → IsTrue (has (bit_and a b) k)
has-both a b k h g =
    let e : bit_at a k ≡ 1 = has-bit a k h in
    let f : bit_at b k ≡ 1 = has-bit b k g in
    let m : bit_at (bit_and a b) k ≡ min (bit_at a k) (bit_at b k) = bit_at_and a b k in
    bit-has (bit_and a b) k (omega arith)

-- a signal is in the union exactly where it is in one of the sets
pub has-bit_or : (a b k : ℕ) → IsTrue (has (bit_or a b) k) → IsTrue (has a k) ⊎ IsTrue (has b k)
has-bit_or a b k h =
    let e : bit_at (bit_or a b) k ≡ 1 = has-bit (bit_or a b) k h in
    let m : bit_at (bit_or a b) k ≡ max (bit_at a k) (bit_at b k) = bit_at_or a b k in
    elim (cases_eq (bit_at a k) 1) [
      | inl is ↦ inl (bit-has a k is)
      | inr isnt ↦
          let small : bit_at a k < 2 = bit_at-lt a k in
          inr (bit-has b k (omega (arith, isnt)))
    ]

pub has-either : (a b k : ℕ) → IsTrue (has a k) ⊎ IsTrue (has b k) → IsTrue (has (bit_or a b) k)
has-either a b k (inl h) =
    let e : bit_at a k ≡ 1 = has-bit a k h in
    let m : bit_at (bit_or a b) k ≡ max (bit_at a k) (bit_at b k) = bit_at_or a b k in
    let small : bit_at b k < 2 = bit_at-lt b k in
    bit-has (bit_or a b) k (omega arith)
has-either a b k (inr h) =
    let e : bit_at b k ≡ 1 = has-bit b k h in
    let m : bit_at (bit_or a b) k ≡ max (bit_at a k) (bit_at b k) = bit_at_or a b k in
    let small : bit_at a k < 2 = bit_at-lt a k in
    bit-has (bit_or a b) k (omega arith)

-- the empty set has no signal, and any other set has one
pub has-zero : (k : ℕ) → IsTrue (has 0 k) → ⊥
has-zero k h =
    let e : bit_at 0 k ≡ 1 = has-bit 0 k h in
    let z : bit_at 0 k ≡ 0 = bit_at-zero k in
    omega arith

some_signal_within : (m s : ℕ) → s ≤ m → s ≢ 0 → (k : ℕ) × IsTrue (has s k)
some_signal_within zero s small ne = absurd (ne (omega arith))
some_signal_within (suc m) s small ne =
    elim (cases_eq (s % 2) 1) [
      | inl odd ↦ (0, bit-has s 0 (bit_at_lowest s ∙ odd))
      | inr even ↦
          let half : s / 2 ≢ 0 = λ z. ne (omega (arith, even)) in
          let found : (k : ℕ) × IsTrue (has (s / 2) k) = some_signal_within m (s / 2) (omega (arith, even, ne)) half in
          (suc found.0, bit-has s (suc found.0) (bit_at-suc s found.0 ∙ has-bit (s / 2) found.0 found.1))
    ]

pub some_signal : (s : ℕ) → s ≢ 0 → (k : ℕ) × IsTrue (has s k)
some_signal s ne = some_signal_within s s (omega arith) ne

-- no set of so many signals has one beyond them
pub has-past : (s k n : ℕ) → s < 2 ^ n → n ≤ k → has s k ≡ true → ⊥
has-past s k n small past h =
    let e : bit_at s k ≡ 1 = has-bit s k h in
    let z : bit_at s k ≡ 0 = bit_at_above s n k small past in
    omega arith

-- the mask tests of the code
pub covers : (a b : ℕ) → bit_and a b ≡ b → (k : ℕ) → IsTrue (has b k) → IsTrue (has a k)
covers a b e k h = (has-bit_and a b k (rw e h)).0

pub covered : (a b : ℕ) → ((k : ℕ) → IsTrue (has b k) → IsTrue (has a k)) → bit_and a b ≡ b
covered a b each =
    same_from_bits (bit_and a b) b (λ k.
    let m : bit_at (bit_and a b) k ≡ min (bit_at a k) (bit_at b k) = bit_at_and a b k in
    let small : bit_at b k < 2 = bit_at-lt b k in
    elim (cases_eq (bit_at b k) 1) [
      | inl is ↦
          let there : bit_at a k ≡ 1 = has-bit a k (each k (bit-has b k is)) in
          omega arith
      | inr isnt ↦ omega (arith, isnt)
    ])

pub apart : (a b : ℕ) → bit_and a b ≡ 0 → AreApart a b
apart a b e k h g = has-zero k (rw e at (has-both a b k h g))

pub not_apart : (a b : ℕ) → bit_and a b ≢ 0 → (k : ℕ) × (IsTrue (has a k) × IsTrue (has b k))
not_apart a b ne =
    let found : (k : ℕ) × IsTrue (has (bit_and a b) k) = some_signal (bit_and a b) ne in
    (found.0, has-bit_and a b found.0 found.1)

pub apart_empty : (a b : ℕ) → AreApart a b → bit_and a b ≡ 0
apart_empty a b none =
    elim (cases_eq (bit_and a b) 0) [
      | inl is ↦ is
      | inr ne ↦ let found : (k : ℕ) × (IsTrue (has a k) × IsTrue (has b k)) = not_apart a b ne in absurd (none found.0 found.1.0 found.1.1)
    ]

-- unions of sets that are apart two by two are apart
pub apart-unions : (a b c d : ℕ) → AreApart a c → AreApart a d → AreApart b c → AreApart b d → AreApart (bit_or a b) (bit_or c d)
apart-unions a b c d ac ad bc bd k h g =
    elim (has-bit_or a b k h) [
      | inl in_a ↦ elim (has-bit_or c d k g) [ inl in_c ↦ ac k in_a in_c | inr in_d ↦ ad k in_a in_d ]
      | inr in_b ↦ elim (has-bit_or c d k g) [ inl in_c ↦ bc k in_b in_c | inr in_d ↦ bd k in_b in_d ]
    ]
