use Rattle.std.proofs.Common.{◌≡◌, ℕ, ◌^◌, ◌<◌, max, ◌⊎◌, inl, inr, false, arith}
use Rattle.std.specs.Prelude.{IsTrue, bit_or}
use Rattle.std.specs.Int.{bit_at}
use Rattle.std.proofs.lemmas.Bool.{eqb-true, eq-eqb, cases_eq, both_ways}
use Rattle.std.proofs.lemmas.Nat.Bits.{bit_at_or, bit_at-lt, bit_at-zero, bit_at-pow_same, bit_at-pow_other}
use Rattle.letters_and_lassos.specs.Signals.{has, AreApart}
use Rattle.letters_and_lassos.specs.declared.cubes.Cube.{Cube}

-- a set with signal j added has what it had, and j
pub has-added : (s j k : ℕ) → IsTrue (has (bit_or s (2 ^ j)) k) → IsTrue (has s k) ⊎ (k ≡ j)
has-added s j k h =
    elim (cases_eq k j) [
      | inl same ↦ inr same
      | inr other ↦
          let e : bit_at (bit_or s (2 ^ j)) k ≡ 1 = eqb-true (bit_at (bit_or s (2 ^ j)) k) 1 h in
          let m : bit_at (bit_or s (2 ^ j)) k ≡ max (bit_at s k) (bit_at (2 ^ j) k) = bit_at_or s (2 ^ j) k in
          let z : bit_at (2 ^ j) k ≡ 0 = bit_at-pow_other j k other in
          inl (eq-eqb (bit_at s k) 1 (omega arith))
    ]

pub added-has : (s j k : ℕ) → IsTrue (has s k) ⊎ (k ≡ j) → IsTrue (has (bit_or s (2 ^ j)) k)
added-has s j k (inl h) =
    let e : bit_at s k ≡ 1 = eqb-true (bit_at s k) 1 h in
    let m : bit_at (bit_or s (2 ^ j)) k ≡ max (bit_at s k) (bit_at (2 ^ j) k) = bit_at_or s (2 ^ j) k in
    let small : bit_at (2 ^ j) k < 2 = bit_at-lt (2 ^ j) k in
    eq-eqb (bit_at (bit_or s (2 ^ j)) k) 1 (omega arith)
added-has s j k (inr same) =
    rw same (
    let m : bit_at (bit_or s (2 ^ j)) j ≡ max (bit_at s j) (bit_at (2 ^ j) j) = bit_at_or s (2 ^ j) j in
    let o : bit_at (2 ^ j) j ≡ 1 = bit_at-pow_same j in
    let small : bit_at s j < 2 = bit_at-lt s j in
    eq-eqb (bit_at (bit_or s (2 ^ j)) j) 1 (omega arith))

-- a signal that the other set lacks keeps two sets apart
pub apart_must : (cube : Cube) (j : ℕ) → has cube.not j ≡ false → AreApart (bit_or cube.must (2 ^ j)) cube.not
apart_must cube j lacks k h g =
    elim (has-added cube.must j k h) [
      | inl before ↦ cube.apart k before g
      | inr same ↦ both_ways (has cube.not j) lacks (rw same at g)
    ]

pub apart_not : (cube : Cube) (j : ℕ) → has cube.must j ≡ false → AreApart cube.must (bit_or cube.not (2 ^ j))
apart_not cube j lacks k h g =
    elim (has-added cube.not j k g) [
      | inl before ↦ cube.apart k h before
      | inr same ↦ both_ways (has cube.must j) lacks (rw same at h)
    ]

pub apart_none : AreApart 0 0
apart_none k h g =
    let e : bit_at 0 k ≡ 1 = eqb-true (bit_at 0 k) 1 h in
    let z : bit_at 0 k ≡ 0 = bit_at-zero k in
    absurd (omega arith)

-- the empty set has no signal
pub has-nothing : (k : ℕ) → IsTrue (has 0 k) → ⊥
has-nothing k h =
    let e : bit_at 0 k ≡ 1 = eqb-true (bit_at 0 k) 1 h in
    let z : bit_at 0 k ≡ 0 = bit_at-zero k in
    omega arith
