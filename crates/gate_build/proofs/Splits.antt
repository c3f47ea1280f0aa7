-- What a split builds.
use Rattle.std.proofs.Common.{◌≡◌, ℕ, suc, ◌+◌, ◌-◌, ◌*◌, ◌^◌, ◌<◌, ◌≤◌, Bool, true, false, cond, List, [], ◌∷◌, length, get_or, drop, drop-cons, refl, sym, ap, subst, ◌∙◌, arith}
use Rattle.std.specs.Prelude.{map}
use Rattle.std.proofs.Math.Nat.{pow-suc, mul_comm}
use Rattle.std.proofs.Math.Seq.{drop-length}
use Rattle.std.proofs.lemmas.Nat.{pow_pos}
use Rattle.aiger_text.specs.Circuit.{Valuation, literal_value}
use Rattle.letters_and_lassos.specs.Bits.{binary_value}
use Rattle.gate_build.specs.declared.gates.Operands.{Operands}
use Rattle.gate_build.specs.Gates.{Built, ite_of, split_of}
use Rattle.gate_build.proofs.Meaning.{Agree, AreOrdered, IsGood, agree_before, good_ite, good_kept, good_then, still_means, still_within}

module _ (first : ℕ) (test : ℕ → Bool) (value weight : ℕ) (gates : List Operands) where
  pub split-nil : split_of first test [] value weight gates ≡ record { gates = gates; literal = cond (test value) 1 0 }
  unfolding split_of
  split-nil = refl

  pub split-cons : (x : ℕ) (xs : List ℕ) (one other last : Built) → split_of first test xs (value + weight) (2 * weight) gates ≡ one
      → split_of first test xs value (2 * weight) one.gates ≡ other → ite_of first other.gates x one.literal other.literal ≡ last
      → split_of first test (x ∷ xs) value weight gates ≡ last
  unfolding split_of
  split-cons x xs one other last is_one is_other is_last = rw (is_one, is_other, is_last) refl

-- the same of a split from a depth on
pub split-end : (first : ℕ) (test : ℕ → Bool) (literals : List ℕ) (depth value l : ℕ) (gates : List Operands) → depth ≡ length literals → l ≡ cond (test value) 1 0
    → split_of first test (drop depth literals) value (2 ^ depth) gates ≡ record { gates = gates; literal = l }
split-end first test literals depth value l gates at is =
    ap (λ xs. split_of first test xs value (2 ^ depth) gates) (ap (λ n. drop n literals) at ∙ drop-length literals)
    ∙ split-nil first test value (2 ^ depth) gates ∙ ap (λ n. let b : Built = record { gates = gates; literal = n } in b) (sym is)

pub split-step : (first : ℕ) (test : ℕ → Bool) (literals : List ℕ) (depth value weight x : ℕ) (gates : List Operands) (one other last : Built) → depth < length literals
    → weight ≡ 2 ^ depth → x ≡ get_or literals depth 0 → split_of first test (drop (depth + 1) literals) (value + weight) (2 ^ (depth + 1)) gates ≡ one
    → split_of first test (drop (depth + 1) literals) value (2 ^ (depth + 1)) one.gates ≡ other → ite_of first other.gates x one.literal other.literal ≡ last
    → split_of first test (drop depth literals) value (2 ^ depth) gates ≡ last
split-step first test literals depth value weight x gates one other last within is_weight is_x is_one is_other is_last =
    let one_more : depth + 1 ≡ suc depth = omega arith in
    let twice : 2 ^ (depth + 1) ≡ 2 * 2 ^ depth = ap (λ n. 2 ^ n) one_more ∙ pow-suc 2 depth ∙ mul_comm (2 ^ depth) 2 in
    let cut : drop depth literals ≡ x ∷ drop (depth + 1) literals = drop-cons literals depth 0 within ∙ ap (λ n. get_or literals depth 0 ∷ drop n literals) (sym one_more) ∙ ap (λ n. n ∷ drop (depth + 1) literals) (sym is_x) in
    ap (λ xs. split_of first test xs value (2 ^ depth) gates) cut
    ∙ split-cons first test value (2 ^ depth) gates x (drop (depth + 1) literals) one other last
    (ap (λ w. split_of first test (drop (depth + 1) literals) (value + w) (2 * 2 ^ depth) gates) (sym is_weight) ∙ ap (λ w. split_of first test (drop (depth + 1) literals) (value + weight) w gates) (sym twice) ∙ is_one)
    (ap (λ w. split_of first test (drop (depth + 1) literals) value w one.gates) (sym twice) ∙ is_other) is_last

-- at most so many gates for a split on n literals
abbrev pub most_gates : ℕ → ℕ
most_gates n = 3 * (2 ^ n - 1)

most-suc : (n : ℕ) → most_gates n + most_gates n + 3 ≡ most_gates (suc n)
most-suc n = let e : 2 ^ suc n ≡ 2 ^ n * 2 = pow-suc 2 n in let some : 0 < 2 ^ n = pow_pos n in omega (arith, e, some)

-- the number that a split's literals make in a valuation
abbrev pub number_in : List ℕ → ℕ → ℕ → Valuation → ℕ
number_in xs value weight v = value + weight * binary_value (map (literal_value v) xs)

-- the choice on the first literal makes the number of all
chosen_number : (v : Valuation) (x : ℕ) (xs : List ℕ) (value weight : ℕ) (test : ℕ → Bool)
    → cond (literal_value v x) (test (number_in xs (value + weight) (2 * weight) v)) (test (number_in xs value (2 * weight) v)) ≡ test (number_in (x ∷ xs) value weight v)
chosen_number v x xs value weight test = by (literal_value v x) where
  n : ℕ
  n = binary_value (map (literal_value v) xs)

  by : (b : Bool) → cond b (test (value + weight + 2 * weight * binary_value (map (literal_value v) xs))) (test (value + 2 * weight * binary_value (map (literal_value v) xs)))
      ≡ test (value + weight * (cond b 1 0 + binary_value (map (literal_value v) xs) * 2))
  by true = ap test (omega arith)
  by false = ap test (omega arith)

-- one literal less halves what is left
pub halved : (l d : ℕ) → d < l → 2 ^ (l - d) ≡ 2 ^ (l - (d + 1)) * 2
halved l d h = let e : l - d ≡ suc (l - (d + 1)) = omega (arith, h) in ap (λ n. 2 ^ n) e ∙ pow-suc 2 (l - (d + 1))

pub doubled : (d : ℕ) → 2 ^ (d + 1) ≡ 2 ^ d * 2
doubled d = let e : d + 1 ≡ suc d = omega arith in ap (λ n. 2 ^ n) e ∙ pow-suc 2 d

module _ (first : ℕ) (some : 0 < first) (test : ℕ → Bool) where
  -- A split on literals of earlier variables builds few gates, and means the test at the number that the literals make.
  pub good_split : (xs : List ℕ) (value weight : ℕ) (gates : List Operands) → AreOrdered first gates → ((k : ℕ) → k < length xs → get_or xs k 0 < 2 * (first + length gates))
      → IsGood first gates (most_gates (length xs)) (λ v. test (number_in xs value weight v)) (split_of first test xs value weight gates)
  good_split [] value weight gates ordered within =
      subst (λ (b : Built). IsGood first gates 0 (λ v. test (number_in [] value weight v)) b) (sym (split-nil first test value weight gates))
      (good_kept first gates 0 (cond (test value) 1 0) _ ordered (small (test value)) (λ v. bit v (test value) ∙ ap test (omega arith)))
    where
      small : (b : Bool) → cond b 1 0 < 2 * (first + length gates)
      small true = omega (arith, some)
      small false = omega (arith, some)

      bit : (v : Valuation) (b : Bool) → literal_value v (cond b 1 0) ≡ b
      bit v true = refl
      bit v false = refl
  good_split (x ∷ xs) value weight gates ordered within =
      let tail : (k : ℕ) → k < length xs → get_or xs k 0 < 2 * (first + length gates) = λ k h. within (suc k) (omega (arith, h)) in
      let head : x < 2 * (first + length gates) = within 0 (omega arith) in
      joined (split_of first test xs (value + weight) (2 * weight) gates) (good_split xs (value + weight) (2 * weight) gates ordered tail) head tail refl
      (λ gs sorted inside. good_split xs value (2 * weight) gs sorted inside)
    where
      joined : (one : Built) → IsGood first gates (most_gates (length xs)) (λ v. test (number_in xs (value + weight) (2 * weight) v)) one → x < 2 * (first + length gates)
          → ((k : ℕ) → k < length xs → get_or xs k 0 < 2 * (first + length gates)) → split_of first test xs (value + weight) (2 * weight) gates ≡ one
          → ((gs : List Operands) → AreOrdered first gs → ((k : ℕ) → k < length xs → get_or xs k 0 < 2 * (first + length gs)) → IsGood first gs (most_gates (length xs)) (λ v. test (number_in xs value (2 * weight) v)) (split_of first test xs value (2 * weight) gs))
          → IsGood first gates (most_gates (suc (length xs))) (λ v. test (number_in (x ∷ xs) value weight v)) (split_of first test (x ∷ xs) value weight gates)
      joined one a head tail is_one again =
          let later : (k : ℕ) → k < length xs → get_or xs k 0 < 2 * (first + length one.gates) = λ k h. still_within first gates (most_gates (length xs)) _ one (get_or xs k 0) a (tail k h) in
          both (split_of first test xs value (2 * weight) one.gates) (again one.gates a.ordered later) refl
        where
          both : (other : Built) → IsGood first one.gates (most_gates (length xs)) (λ v. test (number_in xs value (2 * weight) v)) other → split_of first test xs value (2 * weight) one.gates ≡ other
              → IsGood first gates (most_gates (suc (length xs))) (λ v. test (number_in (x ∷ xs) value weight v)) (split_of first test (x ∷ xs) value weight gates)
          both other c is_other =
              let n : ℕ = most_gates (length xs) in
              let x_in_one : x < 2 * (first + length one.gates) = still_within first gates (most_gates (length xs)) _ one x a head in
              let x_in : x < 2 * (first + length other.gates) = still_within first one.gates (most_gates (length xs)) _ other x c x_in_one in
              let one_in : one.literal < 2 * (first + length other.gates) = still_within first one.gates (most_gates (length xs)) _ other one.literal c a.within in
              let d = good_ite first some other.gates c.ordered x one.literal other.literal x_in one_in c.within in
              let two = good_then first gates (most_gates (length xs)) (most_gates (length xs)) _ _ one other a c in
              let all = good_then first gates (most_gates (length xs) + most_gates (length xs)) 3 _ _ other (ite_of first other.gates x one.literal other.literal) two d in
              subst (λ (b : Built). IsGood first gates (most_gates (suc (length xs))) (λ v. test (number_in (x ∷ xs) value weight v)) b)
              (sym (split-cons first test value weight gates x xs one other (ite_of first other.gates x one.literal other.literal) is_one is_other refl))
              (record {
                rest = all.rest;
                grows = all.grows;
                few = subst (λ (m : ℕ). length (ite_of first other.gates x one.literal other.literal).gates ≤ length gates + m) (most-suc (length xs)) all.few;
                ordered = all.ordered;
                within = all.within;
                means = λ v agree.
                    let in_other : Agree first v other.gates = agree_before first v other.gates d.rest (subst (λ (gs : List Operands). Agree first v gs) d.grows agree) in
                    let one_is : literal_value v one.literal ≡ test (number_in xs (value + weight) (2 * weight) v) = still_means first gates (most_gates (length xs)) (most_gates (length xs)) _ _ one other a c v in_other in
                    let other_is : literal_value v other.literal ≡ test (number_in xs value (2 * weight) v) = c.means v in_other in
                    all.means v agree
                    ∙ ap (λ t. cond (literal_value v x) t (literal_value v other.literal)) one_is
                    ∙ ap (λ t. cond (literal_value v x) (test (number_in xs (value + weight) (2 * weight) v)) t) other_is
                    ∙ chosen_number v x xs value weight test;
              })
