-- Sets of states in words of 64 bits.
use Rattle.std.proofs.Common.{◌≡◌, ◌==◌, ℕ, zero, suc, ◌+◌, ◌*◌, ◌/◌, ◌%◌, ◌^◌, ◌<◌, ◌≤◌, inl, inr, Bool, true, false, refl, sym, ◌∙◌, ap, List, [], ◌∷◌, length, get_or, arith, w64, get_or-set_same, get_or-set_other}
use Rattle.std.specs.Prelude.{◌&&◌, ◌||◌, bit_or, slice_set}
use Rattle.std.specs.Int.{bit_at}
use Rattle.std.specs.List.{list_all}
use Rattle.std.proofs.lemmas.Bool.{and_parts, cases_eq, cases_lt, eq-eqb, eqb-true, ne_eqb, or_cases, or_left, or_right}
use Rattle.std.proofs.lemmas.Bool.Decides.{same_from_decides}
use Rattle.std.proofs.lemmas.List.{get_or_past}
use Rattle.std.proofs.lemmas.Nat.Bits.{bit_at-zero, bit_at_set_other, bit_at_set_same}
use Rattle.letters_and_lassos.specs.Signals.{has}
use Rattle.letters_and_lassos.proofs.Sets.{has-bit_or, has-either}
use Rattle.machine_model.specs.Reached.{HasAlso, HasOnly, IsPassed, is_in}

pub has_or : (a b k : ℕ) → has (bit_or a b) k ≡ (has a k || has b k)
has_or a b k =
    same_from_decides {P = (has a k || has b k) ≡ true} (has (bit_or a b) k) (has a k || has b k) (
      λ h. elim (has-bit_or a b k h) [ inl l ↦ or_left (has a k) (has b k) l | inr r ↦ or_right (has a k) (has b k) r ],
      λ h. has-either a b k (or_cases (has a k) (has b k) h),
    )
    (λ h. h, λ h. h)

-- the empty set, in words that are all 0
zero_at : (words : List ℕ) (k : ℕ) → list_all (λ w. w == 0) words ≡ true → get_or words k 0 ≡ 0
zero_at [] k h = refl
zero_at (w ∷ words) zero h = eqb-true w 0 (and_parts (w == 0) (list_all (λ w. w == 0) words) h).0
zero_at (w ∷ words) (suc k) h = zero_at words k (and_parts (w == 0) (list_all (λ w. w == 0) words) h).1

no_state : (words : List ℕ) (r : ℕ) → list_all (λ w. w == 0) words ≡ true → is_in words r ≡ false
no_state words r h = rw (zero_at words (r / 64) h, bit_at-zero (r % 64)) refl

pub from_none : (q : ℕ) (none words : List ℕ) → list_all (λ w. w == 0) none ≡ true → HasAlso q none words → HasOnly q words
from_none q none words h more = record { at = λ r. more.at r ∙ ap (λ b. b || (r == q)) (no_state none r h) }

-- one more state
same_place : (q r : ℕ) → r / 64 ≡ q / 64 → r % 64 ≡ q % 64 → r ≡ q
same_place q r d m = omega arith

set_bit : (word q r : ℕ) → has (bit_or word (1 * 2 ^ (q % 64) % 18446744073709551616)) (r % 64) ≡ (has word (r % 64) || (r % 64 == q % 64))
set_bit word q r = elim (cases_eq (r % 64) (q % 64)) [
  | inl e ↦
      let one : bit_at (bit_or word (1 * 2 ^ (q % 64) % 18446744073709551616)) (q % 64) ≡ 1 = bit_at_set_same w64 word (q % 64) (omega arith) in
      ap (λ k. has (bit_or word (1 * 2 ^ (q % 64) % 18446744073709551616)) k) e
      ∙ eq-eqb (bit_at (bit_or word (1 * 2 ^ (q % 64) % 18446744073709551616)) (q % 64)) 1 one
      ∙ sym (or_right (has word (r % 64)) (r % 64 == q % 64) (eq-eqb (r % 64) (q % 64) e))
  | inr other ↦
      let kept : bit_at (bit_or word (1 * 2 ^ (q % 64) % 18446744073709551616)) (r % 64) ≡ bit_at word (r % 64) =
      bit_at_set_other w64 word (q % 64) (omega arith) (r % 64) other in
      ap (λ n. n == 1) kept ∙ or_none (has word (r % 64)) (r % 64 == q % 64) (ne_eqb (r % 64) (q % 64) other)
]
  where
    or_none : (x y : Bool) → y ≡ false → x ≡ (x || y)
    or_none true y none = refl
    or_none false y none = sym none

pub inserted : (words : List ℕ) (q : ℕ) → q / 64 < length words
    → HasAlso q words (slice_set words (q / 64) (bit_or (get_or words (q / 64) 0) (1 * 2 ^ (q % 64) % 18446744073709551616)))
inserted words q within = record {
  at = λ r. elim (cases_eq (r / 64) (q / 64)) [
    | inl e ↦
        let new : ℕ = bit_or (get_or words (q / 64) 0) (1 * 2 ^ (q % 64) % 18446744073709551616) in
        ap (λ k. has (get_or (slice_set words (q / 64) new) k 0) (r % 64)) e
        ∙ ap (λ w. has w (r % 64)) (get_or-set_same words (q / 64) new 0 within)
        ∙ set_bit (get_or words (q / 64) 0) q r
        ∙ ap (λ k. has (get_or words k 0) (r % 64) || (r % 64 == q % 64)) (sym e)
        ∙ ap (λ b. is_in words r || b) (same_test r e)
    | inr other ↦
        ap (λ w. has w (r % 64)) (get_or-set_other words (q / 64) (r / 64) (bit_or (get_or words (q / 64) 0) (1 * 2 ^ (q % 64) % 18446744073709551616)) 0 other)
        ∙ or_none (is_in words r) (r == q) (ne_eqb r q (λ same. other (ap (λ n. n / 64) same)))
  ];
}
  where
    or_none : (x y : Bool) → y ≡ false → x ≡ (x || y)
    or_none true y none = refl
    or_none false y none = sym none

    same_test : (r : ℕ) → r / 64 ≡ q / 64 → (r % 64 == q % 64) ≡ (r == q)
    same_test r e =
        same_from_decides {P = r ≡ q} (r % 64 == q % 64) (r == q)
        (λ h. same_place q r e (eqb-true (r % 64) (q % 64) h), λ same. eq-eqb (r % 64) (q % 64) (ap (λ n. n % 64) same))
        (λ h. eqb-true r q h, λ same. eq-eqb r q same)

-- the words below a place have those of the other set, and the others are as they were
pub record AreOred (place : ℕ) (other old new : List ℕ) : Type 0 where
  pub done : (k : ℕ) → k < place → get_or new k 0 ≡ bit_or (get_or old k 0) (get_or other k 0)
  pub kept : (k : ℕ) → place ≤ k → get_or new k 0 ≡ get_or old k 0

pub ored_none : (other old : List ℕ) → AreOred 0 other old old
ored_none other old = record { done = λ k h. absurd (omega arith); kept = λ k h. refl }

pub ored_more : (place : ℕ) (other old new : List ℕ) → place < length new → AreOred place other old new
    → AreOred (place + 1) other old (slice_set new place (bit_or (get_or new place 0) (get_or other place 0)))
ored_more place other old new within so_far = record {
  done = λ k h. elim (cases_eq k place) [
    | inl e ↦
        ap (λ j. get_or (slice_set new place (bit_or (get_or new place 0) (get_or other place 0))) j 0) e
        ∙ get_or-set_same new place (bit_or (get_or new place 0) (get_or other place 0)) 0 within
        ∙ ap (λ w. bit_or w (get_or other place 0)) (so_far.kept place (omega arith))
        ∙ ap (λ j. bit_or (get_or old j 0) (get_or other j 0)) (sym e)
    | inr apart ↦
        get_or-set_other new place k (bit_or (get_or new place 0) (get_or other place 0)) 0 apart
        ∙ so_far.done k (omega (arith, apart))
  ];
  kept = λ k h.
      get_or-set_other new place k (bit_or (get_or new place 0) (get_or other place 0)) 0 (λ e. absurd (omega arith))
      ∙ so_far.kept k (omega arith);
}

pub passed : (place k : ℕ) (other old new : List ℕ) → length other ≤ place → is_in old k ≡ true → AreOred place other old new → IsPassed k other old new
passed place k other old new few there all = record {
  at = λ r.
      elim (cases_lt (r / 64) place) [
        | inl low ↦
            ap (λ w. has w (r % 64)) (all.done (r / 64) low)
            ∙ has_or (get_or old (r / 64) 0) (get_or other (r / 64) 0) (r % 64)
            ∙ ap (λ b. is_in old r || (b && is_in other r)) (sym there)
        | inr high ↦
            let past : get_or other (r / 64) 0 ≡ 0 = get_or_past other (r / 64) 0 (omega arith) in
            let none : is_in other r ≡ false = rw (past, bit_at-zero (r % 64)) refl in
            ap (λ w. has w (r % 64)) (all.kept (r / 64) high) ∙ or_not (is_in old r) (is_in old k) (is_in other r) none
      ];
}
  where
    or_not : (x y z : Bool) → z ≡ false → x ≡ (x || (y && z))
    or_not true y z none = refl
    or_not false true z none = sym none
    or_not false false z none = refl
