-- What each path of the code computes.
use Rattle.std.proofs.Common.{◌≡◌, ◌≢◌, ℕ, ◌+◌, ◌*◌, ◌++◌, ◌∷◌, [], true, false, cond, List, refl, sym, ap, ◌∙◌}
use Rattle.std.specs.Prelude.{max, min}
use Rattle.std.specs.List.{list_any, position_or_len}
use Rattle.std.proofs.lemmas.Bool.{ne_eqb, eq-eqb}
use Rattle.gate_build.specs.declared.gates.Operands.{Operands}
use Rattle.gate_build.specs.Gates.{Built, and_of, exclude, gate_of, ite_of, negated, opposite, same_operands}

-- the keys and the place that inserting gives
pub gate-is : (first : ℕ) (gates after : List Operands) (pair : Operands) (place : ℕ) → after ≡ cond (list_any (same_operands pair) gates) gates (gates ++ pair ∷ [])
    → place ≡ position_or_len (same_operands pair) gates → gate_of first gates pair ≡ record { gates = after; literal = 2 * (first + place) }
unfolding gate_of
gate-is first gates after pair place keys at = λ i. record { gates = sym keys i; literal = 2 * (first + sym at i) }

module _ (first : ℕ) (gates : List Operands) (x y : ℕ) where
  pub and-none : exclude x y ≡ true → and_of first gates x y ≡ record { gates = gates; literal = 0 }
  unfolding and_of
  and-none some = rw some refl

  pub and-left_all : exclude x y ≡ false → x ≡ 1 → and_of first gates x y ≡ record { gates = gates; literal = y }
  unfolding and_of
  and-left_all none one = rw (none, eq-eqb x 1 one) refl

  pub and-right_all : exclude x y ≡ false → x ≢ 1 → y ≡ 1 → and_of first gates x y ≡ record { gates = gates; literal = x }
  unfolding and_of
  and-right_all none d one = rw (none, ne_eqb x 1 d, eq-eqb y 1 one) refl

  pub and-equal : exclude x y ≡ false → x ≢ 1 → y ≢ 1 → x ≡ y → and_of first gates x y ≡ record { gates = gates; literal = x }
  unfolding and_of
  and-equal none d e same = rw (none, ne_eqb x 1 d, ne_eqb y 1 e, eq-eqb x y same) refl

  pub and-gate : (greater lesser : ℕ) (b : Built) → exclude x y ≡ false → x ≢ 1 → y ≢ 1 → x ≢ y → gate_of first gates (record { greater = greater; lesser = lesser }) ≡ b
      → greater ≡ max x y → lesser ≡ min x y → and_of first gates x y ≡ b
  unfolding and_of
  and-gate greater lesser b none d e apart made is_greater is_lesser =
      rw (none, ne_eqb x 1 d, ne_eqb y 1 e, ne_eqb x y apart)
      (ap (λ (o : Operands). gate_of first gates o) (λ i. record { greater = sym is_greater i; lesser = sym is_lesser i }) ∙ made)

module _ (first : ℕ) (gates : List Operands) (x p q : ℕ) where
  pub ite-either : p ≡ q → ite_of first gates x p q ≡ record { gates = gates; literal = p }
  unfolding ite_of
  ite-either same = rw (eq-eqb p q same) refl

  pub ite-turned : p ≡ 0 → q ≡ 1 → ite_of first gates x p q ≡ record { gates = gates; literal = opposite x }
  unfolding ite_of
  ite-turned a b = rw (a, b) refl

  pub ite-first_none : p ≢ q → p ≡ 0 → q ≢ 1 → ite_of first gates x p q ≡ and_of first gates (opposite x) q
  unfolding ite_of
  ite-first_none ne a b = rw (ne_eqb p q ne, ne_eqb q 1 b, a) refl

  pub ite-itself : p ≡ 1 → q ≡ 0 → ite_of first gates x p q ≡ record { gates = gates; literal = x }
  unfolding ite_of
  ite-itself a b = rw (a, b) refl

  pub ite-second_none : p ≢ q → p ≢ 0 → q ≡ 0 → p ≢ 1 → ite_of first gates x p q ≡ and_of first gates x p
  unfolding ite_of
  ite-second_none ne a b c = rw (ne_eqb p q ne, ne_eqb p 0 a, ne_eqb p 1 c, b) refl

  pub ite-first_all : p ≢ q → q ≢ 0 → p ≡ 1 → ite_of first gates x p q ≡ negated (and_of first gates (opposite x) (opposite q))
  unfolding ite_of
  ite-first_all ne a b = rw (ne_eqb p q ne, ne_eqb q 0 a, b) refl

  pub ite-second_all : p ≢ q → p ≢ 0 → p ≢ 1 → q ≡ 1 → ite_of first gates x p q ≡ negated (and_of first gates x (opposite p))
  unfolding ite_of
  ite-second_all ne a b c = rw (ne_eqb p q ne, ne_eqb p 0 a, ne_eqb p 1 b, c) refl

  pub ite-three : (one other last : Built) → p ≢ q → p ≢ 0 → q ≢ 0 → p ≢ 1 → q ≢ 1 → and_of first gates x p ≡ one → and_of first one.gates (opposite x) q ≡ other
      → and_of first other.gates (opposite one.literal) (opposite other.literal) ≡ last → ite_of first gates x p q ≡ negated last
  unfolding ite_of
  ite-three one other last ne a b c d is_one is_other is_last =
      rw (ne_eqb p q ne, ne_eqb p 0 a, ne_eqb q 0 b, ne_eqb p 1 c, ne_eqb q 1 d, is_one, is_other, is_last) refl
