-- What the literals mean in a valuation that the gates agree with, and what the gates made keep.
use Rattle.std.proofs.Common.{◌≡◌, ◌≢◌, ℕ, ◌+◌, ◌-◌, ◌*◌, ◌/◌, ◌%◌, ◌<◌, ◌≤◌, Bool, true, false, not, ◌&&◌, cond, eqb, List, [], ◌∷◌, ◌++◌, length, get_or, refl, sym, ap, subst, ◌∙◌, arith, inl, inr}
use Rattle.std.specs.Prelude.{max, min}
use Rattle.std.proofs.lemmas.Bool.{cond-true, cond-false, cases_eq, cases_lt, eq-eqb, ne_eqb}
use Rattle.std.proofs.lemmas.List.{length_push, length-append, get_or_append_left, get_or_push, append-nil}
use Rattle.std.proofs.Common.{append_assoc, below_more}
use mathlib.Core.Bool.{and_comm}
use Rattle.std_lemmas.proofs.Booleans.{and_false, and_true}
use Rattle.aiger_text.specs.Circuit.{Valuation, variable_value, literal_value}
use Rattle.gate_build.specs.declared.gates.Operands.{Operands}
use Rattle.gate_build.specs.Gates.{Built, and_of, ite_of, negated, opposite}
use Rattle.gate_build.proofs.Cases.{AndCase, GateCase, IteCase, and_case, ite_case, no_operands, known, new, left_none, right_none, opposed, left_all, right_all, equal, made, either, itself, turned, first_none, second_none, first_all, second_all, three}

-- the opposite literal has the opposite value
pub literal_value-opposite : (v : Valuation) (x : ℕ) → literal_value v (opposite x) ≡ not (literal_value v x)
literal_value-opposite v x = elim (cases_eq (x % 2) 0) [
  | inl even ↦
      let up : opposite x ≡ x + 1 = cond-true (eqb (x % 2) 0) (x + 1) (x - 1) (eq-eqb (x % 2) 0 even) in
      let odd : (x + 1) % 2 ≢ 0 = λ e. omega (arith, e, even) in
      let half : (x + 1) / 2 ≡ x / 2 = omega (arith, even) in
      ap (literal_value v) up ∙ cond-false (eqb ((x + 1) % 2) 0) _ _ (ne_eqb ((x + 1) % 2) 0 odd) ∙ ap (λ n. not (variable_value v n)) half
      ∙ ap not (sym (cond-true (eqb (x % 2) 0) (variable_value v (x / 2)) (not (variable_value v (x / 2))) (eq-eqb (x % 2) 0 even)))
  | inr odd ↦
      let is_odd : x % 2 ≢ 0 = odd in
      let down : opposite x ≡ x - 1 = cond-false (eqb (x % 2) 0) (x + 1) (x - 1) (ne_eqb (x % 2) 0 odd) in
      let even : (x - 1) % 2 ≡ 0 = omega (arith, is_odd) in
      let half : (x - 1) / 2 ≡ x / 2 = omega (arith, is_odd) in
      ap (literal_value v) down ∙ cond-true (eqb ((x - 1) % 2) 0) _ _ (eq-eqb ((x - 1) % 2) 0 even) ∙ ap (variable_value v) half
      ∙ twice (variable_value v (x / 2))
      ∙ ap not (sym (cond-false (eqb (x % 2) 0) (variable_value v (x / 2)) (not (variable_value v (x / 2))) (ne_eqb (x % 2) 0 odd)))
]
  where
    twice : (b : Bool) → b ≡ not (not b)
    twice true = refl
    twice false = refl

-- the gates agree with the valuation
pub record Agree (first : ℕ) (v : Valuation) (gates : List Operands) : Type 0 where
  pub each : (k : ℕ) → k < length gates
      → literal_value v (2 * (first + k)) ≡ (literal_value v (get_or gates k no_operands).greater && literal_value v (get_or gates k no_operands).lesser)

-- each gate uses literals of earlier variables
pub record AreOrdered (first : ℕ) (gates : List Operands) : Type 0 where
  pub greater : (k : ℕ) → k < length gates → (get_or gates k no_operands).greater < 2 * (first + k)
  pub lesser : (k : ℕ) → k < length gates → (get_or gates k no_operands).lesser < 2 * (first + k)

-- What was built over some gates: it adds at most n gates, which are ordered, uses no later variable, and means this.
pub record IsGood (first : ℕ) (old : List Operands) (n : ℕ) (meaning : Valuation → Bool) (b : Built) : Type 0 where
  pub rest : List Operands
  pub grows : b.gates ≡ old ++ rest
  pub few : length b.gates ≤ length old + n
  pub ordered : AreOrdered first b.gates
  pub within : b.literal < 2 * (first + length b.gates)
  pub means : (v : Valuation) → Agree first v b.gates → literal_value v b.literal ≡ meaning v

-- gates that agree are so before later ones
pub agree_before : (first : ℕ) (v : Valuation) (old rest : List Operands) → Agree first v (old ++ rest) → Agree first v old
agree_before first v old rest all = record {
  each = λ k h.
      let more : k < length (old ++ rest) = omega (arith, h, length-append old rest) in
      let same : get_or (old ++ rest) k no_operands ≡ get_or old k no_operands = get_or_append_left old rest no_operands k h in
      all.each k more ∙ ap (λ (o : Operands). literal_value v o.greater && literal_value v o.lesser) same;
}

-- nothing was made
pub good_kept : (first : ℕ) (gates : List Operands) (n l : ℕ) (meaning : Valuation → Bool) → AreOrdered first gates → l < 2 * (first + length gates)
    → ((v : Valuation) → literal_value v l ≡ meaning v) → IsGood first gates n meaning (record { gates = gates; literal = l })
good_kept first gates n l meaning ordered within means = record {
  rest = [];
  grows = sym (append-nil gates);
  few = omega arith;
  ordered = ordered;
  within = within;
  means = λ v all. means v;
}

pub good_more : (first : ℕ) (old : List Operands) (n m : ℕ) (meaning : Valuation → Bool) (b : Built) → n ≤ m → IsGood first old n meaning b → IsGood first old m meaning b
good_more first old n m meaning b le good = record {
  rest = good.rest;
  grows = good.grows;
  few = let few : length b.gates ≤ length old + n = good.few in omega (arith, few, le);
  ordered = good.ordered;
  within = good.within;
  means = good.means;
}

-- the same meaning in other words
pub good_same : (first : ℕ) (old : List Operands) (n : ℕ) (f g : Valuation → Bool) (b : Built) → ((v : Valuation) → f v ≡ g v) → IsGood first old n f b → IsGood first old n g b
good_same first old n f g b same good = record {
  rest = good.rest;
  grows = good.grows;
  few = good.few;
  ordered = good.ordered;
  within = good.within;
  means = λ v all. good.means v all ∙ same v;
}

-- one after the other
pub good_then : (first : ℕ) (old : List Operands) (n m : ℕ) (f g : Valuation → Bool) (b c : Built) → IsGood first old n f b → IsGood first b.gates m g c → IsGood first old (n + m) g c
good_then first old n m f g b c one other = record {
  rest = one.rest ++ other.rest;
  grows = other.grows ∙ ap (λ (xs : List Operands). xs ++ other.rest) one.grows ∙ append_assoc old one.rest other.rest;
  few = let a : length b.gates ≤ length old + n = one.few in let d : length c.gates ≤ length b.gates + m = other.few in omega (arith, a, d);
  ordered = other.ordered;
  within = other.within;
  means = other.means;
}

-- what was built first means the same after more was built
pub still_means : (first : ℕ) (old : List Operands) (n m : ℕ) (f g : Valuation → Bool) (b c : Built) → IsGood first old n f b → IsGood first b.gates m g c
    → (v : Valuation) → Agree first v c.gates → literal_value v b.literal ≡ f v
still_means first old n m f g b c one other v all =
    one.means v (agree_before first v b.gates other.rest (subst (λ (gs : List Operands). Agree first v gs) other.grows all))

-- and its literal is still one of an earlier variable
pub still_within : (first : ℕ) (old : List Operands) (n : ℕ) (f : Valuation → Bool) (b : Built) (l : ℕ) → IsGood first old n f b → l < 2 * (first + length old) → l < 2 * (first + length b.gates)
still_within first old n f b l good within =
    let len : length b.gates ≡ length old + length good.rest = ap length good.grows ∙ length-append old good.rest in
    omega (arith, len, within)

pub opposite_within : (x m : ℕ) → x < 2 * m → opposite x < 2 * m
opposite_within x m h = elim (cases_eq (x % 2) 0) [
  | inl even ↦ rw (cond-true (eqb (x % 2) 0) (x + 1) (x - 1) (eq-eqb (x % 2) 0 even)) (omega (arith, h, even))
  | inr odd ↦ rw (cond-false (eqb (x % 2) 0) (x + 1) (x - 1) (ne_eqb (x % 2) 0 odd)) (omega (arith, h))
]

pub good_negated : (first : ℕ) (old : List Operands) (n : ℕ) (meaning : Valuation → Bool) (b : Built) → IsGood first old n meaning b → IsGood first old n (λ v. not (meaning v)) (negated b)
good_negated first old n meaning b good = record {
  rest = good.rest;
  grows = good.grows;
  few = good.few;
  ordered = good.ordered;
  within = opposite_within b.literal (first + length b.gates) good.within;
  means = λ v all. literal_value-opposite v b.literal ∙ ap not (good.means v all);
}

-- a gate
ordered_push : (first : ℕ) (gates : List Operands) (pair : Operands) → AreOrdered first gates → pair.greater < 2 * (first + length gates) → pair.lesser < 2 * (first + length gates)
    → AreOrdered first (gates ++ pair ∷ [])
ordered_push first gates pair ordered greater lesser = record {
  greater = rw length_push (below_more (λ k. (get_or (gates ++ pair ∷ []) k no_operands).greater < 2 * (first + k)) (length gates)
      (λ k h. subst (λ (o : Operands). o.greater < 2 * (first + k)) (sym (get_or_append_left gates (pair ∷ []) no_operands k h)) (ordered.greater k h))
      (subst (λ (o : Operands). o.greater < 2 * (first + length gates)) (sym (get_or_push gates pair no_operands (length gates) refl)) greater));
  lesser = rw length_push (below_more (λ k. (get_or (gates ++ pair ∷ []) k no_operands).lesser < 2 * (first + k)) (length gates)
      (λ k h. subst (λ (o : Operands). o.lesser < 2 * (first + k)) (sym (get_or_append_left gates (pair ∷ []) no_operands k h)) (ordered.lesser k h))
      (subst (λ (o : Operands). o.lesser < 2 * (first + length gates)) (sym (get_or_push gates pair no_operands (length gates) refl)) lesser));
}

good_gate : (first : ℕ) (gates : List Operands) (pair : Operands) (b : Built) → GateCase first gates pair b → AreOrdered first gates
    → pair.greater < 2 * (first + length gates) → pair.lesser < 2 * (first + length gates) → IsGood first gates 1 (λ v. literal_value v pair.greater && literal_value v pair.lesser) b
good_gate first gates pair b (known k within is) ordered greater lesser = record {
  rest = [];
  grows = sym (append-nil gates);
  few = omega arith;
  ordered = ordered;
  within = omega (arith, within);
  means = λ v all. all.each k within ∙ ap (λ (o : Operands). literal_value v o.greater && literal_value v o.lesser) is;
}
good_gate first gates pair b new ordered greater lesser = record {
  rest = pair ∷ [];
  grows = refl;
  few = omega (arith, length_push gates pair);
  ordered = ordered_push first gates pair ordered greater lesser;
  within = omega (arith, length_push gates pair);
  means = λ v all. all.each (length gates) (omega (arith, length_push gates pair))
      ∙ ap (λ (o : Operands). literal_value v o.greater && literal_value v o.lesser) (get_or_push gates pair no_operands (length gates) refl);
}

never_both : (b : Bool) → false ≡ (not b && b)
never_both true = refl
never_both false = refl

itself_twice : (b : Bool) → b ≡ (b && b)
itself_twice true = refl
itself_twice false = refl

one_of_same : (b c : Bool) → c ≡ cond b c c
one_of_same true c = refl
one_of_same false c = refl

chosen_itself : (b : Bool) → b ≡ cond b true false
chosen_itself true = refl
chosen_itself false = refl

chosen_turned : (b : Bool) → not b ≡ cond b false true
chosen_turned true = refl
chosen_turned false = refl

chosen_second : (b c : Bool) → (not b && c) ≡ cond b false c
chosen_second true c = refl
chosen_second false c = refl

chosen_first : (b c : Bool) → (b && c) ≡ cond b c false
chosen_first true c = refl
chosen_first false c = refl

chosen_or : (b c : Bool) → not (not b && not c) ≡ cond b true c
chosen_or true c = refl
chosen_or false true = refl
chosen_or false false = refl

chosen_implied : (b c : Bool) → not (b && not c) ≡ cond b c true
chosen_implied true true = refl
chosen_implied true false = refl
chosen_implied false c = refl

chosen_three : (b c d : Bool) → not (not (b && c) && not (not b && d)) ≡ cond b c d
chosen_three true true d = refl
chosen_three true false d = refl
chosen_three false c true = refl
chosen_three false c false = refl

max_min : (v : Valuation) (x y : ℕ) → (literal_value v (max x y) && literal_value v (min x y)) ≡ (literal_value v x && literal_value v y)
max_min v x y = elim (cases_lt x y) [
  | inl less ↦
      let a : max x y ≡ y = omega (arith, less) in
      let b : min x y ≡ x = omega (arith, less) in
      ap (λ n. literal_value v n && literal_value v (min x y)) a ∙ ap (λ n. literal_value v y && literal_value v n) b ∙ and_comm (literal_value v y) (literal_value v x)
  | inr not_less ↦
      let above : y ≤ x = not_less in
      let a : max x y ≡ x = omega (arith, above) in
      let b : min x y ≡ y = omega (arith, above) in
      ap (λ n. literal_value v n && literal_value v (min x y)) a ∙ ap (λ n. literal_value v x && literal_value v n) b
]

module _ (first : ℕ) (some : 0 < first) (gates : List Operands) (ordered : AreOrdered first gates) where
  good_and_case : (x y : ℕ) (b : Built) → x < 2 * (first + length gates) → y < 2 * (first + length gates) → AndCase first gates x y b
      → IsGood first gates 1 (λ v. literal_value v x && literal_value v y) b
  good_and_case x y b hx hy (left_none e) = good_kept first gates 1 0 _ ordered (omega (arith, some)) (λ v. sym (ap (λ l. literal_value v l && literal_value v y) e))
  good_and_case x y b hx hy (right_none e) = good_kept first gates 1 0 _ ordered (omega (arith, some)) (λ v. sym (and_false (literal_value v x)) ∙ sym (ap (λ l. literal_value v x && literal_value v l) e))
  good_and_case x y b hx hy (opposed e) =
      good_kept first gates 1 0 _ ordered (omega (arith, some))
      (λ v. never_both (literal_value v y) ∙ sym (ap (λ t. t && literal_value v y) (ap (literal_value v) e ∙ literal_value-opposite v y)))
  good_and_case x y b hx hy (left_all e) = good_kept first gates 1 y _ ordered hy (λ v. sym (ap (λ l. literal_value v l && literal_value v y) e))
  good_and_case x y b hx hy (right_all e) = good_kept first gates 1 x _ ordered hx (λ v. and_true (literal_value v x) ∙ sym (ap (λ l. literal_value v x && literal_value v l) e))
  good_and_case x y b hx hy (equal e) = good_kept first gates 1 x _ ordered hx (λ v. itself_twice (literal_value v x) ∙ ap (λ l. literal_value v x && literal_value v l) e)
  good_and_case x y b hx hy (made c gate) =
      good_same first gates 1 (λ v. literal_value v (max x y) && literal_value v (min x y)) (λ v. literal_value v x && literal_value v y) b (λ v. max_min v x y)
      (good_gate first gates (record { greater = max x y; lesser = min x y }) b gate ordered (max_within hx hy) (omega (arith, hx, hy)))
    where
      max_within : x < 2 * (first + length gates) → y < 2 * (first + length gates) → max x y < 2 * (first + length gates)
      max_within hx hy = omega (arith, hx, hy)

  pub good_and : (x y : ℕ) → x < 2 * (first + length gates) → y < 2 * (first + length gates) → IsGood first gates 1 (λ v. literal_value v x && literal_value v y) (and_of first gates x y)
  good_and x y hx hy = good_and_case x y (and_of first gates x y) hx hy (and_case first gates x y)

module _ (first : ℕ) (some : 0 < first) (gates : List Operands) (ordered : AreOrdered first gates) (x p q : ℕ)
    (hx : x < 2 * (first + length gates)) (hp : p < 2 * (first + length gates)) (hq : q < 2 * (first + length gates)) where
  abbrev meaning : Valuation → Bool
  meaning v = cond (literal_value v x) (literal_value v p) (literal_value v q)

  not_x : opposite x < 2 * (first + length gates)
  not_x = opposite_within x (first + length gates) hx

  good_ite_case : (b : Built) → IteCase first gates x p q b → IsGood first gates 3 meaning b
  good_ite_case b (either e) = good_kept first gates 3 p meaning ordered hp (λ v. one_of_same (literal_value v x) (literal_value v p) ∙ ap (λ l. cond (literal_value v x) (literal_value v p) (literal_value v l)) e)
  good_ite_case b (itself e f) =
      good_kept first gates 3 x meaning ordered hx
      (λ v. chosen_itself (literal_value v x) ∙ sym (ap (λ l. cond (literal_value v x) (literal_value v l) (literal_value v q)) e ∙ ap (λ l. cond (literal_value v x) true (literal_value v l)) f))
  good_ite_case b (turned e f) =
      good_kept first gates 3 (opposite x) meaning ordered not_x
      (λ v. literal_value-opposite v x ∙ chosen_turned (literal_value v x)
      ∙ sym (ap (λ l. cond (literal_value v x) (literal_value v l) (literal_value v q)) e ∙ ap (λ l. cond (literal_value v x) false (literal_value v l)) f))
  good_ite_case b (first_none e) =
      good_more first gates 1 3 meaning b (omega arith)
      (good_same first gates 1 (λ v. literal_value v (opposite x) && literal_value v q) meaning b
      (λ v. ap (λ t. t && literal_value v q) (literal_value-opposite v x) ∙ chosen_second (literal_value v x) (literal_value v q) ∙ sym (ap (λ l. cond (literal_value v x) (literal_value v l) (literal_value v q)) e))
      (good_and first some gates ordered (opposite x) q not_x hq))
  good_ite_case b (second_none e) =
      good_more first gates 1 3 meaning b (omega arith)
      (good_same first gates 1 (λ v. literal_value v x && literal_value v p) meaning b
      (λ v. chosen_first (literal_value v x) (literal_value v p) ∙ sym (ap (λ l. cond (literal_value v x) (literal_value v p) (literal_value v l)) e))
      (good_and first some gates ordered x p hx hp))
  good_ite_case b (first_all e) =
      good_more first gates 1 3 meaning b (omega arith)
      (good_same first gates 1 (λ v. not (literal_value v (opposite x) && literal_value v (opposite q))) meaning b
      (λ v. ap (λ t. not (t && literal_value v (opposite q))) (literal_value-opposite v x) ∙ ap (λ t. not (not (literal_value v x) && t)) (literal_value-opposite v q)
      ∙ chosen_or (literal_value v x) (literal_value v q) ∙ sym (ap (λ l. cond (literal_value v x) (literal_value v l) (literal_value v q)) e))
      (good_negated first gates 1 (λ v. literal_value v (opposite x) && literal_value v (opposite q)) (and_of first gates (opposite x) (opposite q))
      (good_and first some gates ordered (opposite x) (opposite q) not_x (opposite_within q (first + length gates) hq))))
  good_ite_case b (second_all e) =
      good_more first gates 1 3 meaning b (omega arith)
      (good_same first gates 1 (λ v. not (literal_value v x && literal_value v (opposite p))) meaning b
      (λ v. ap (λ t. not (literal_value v x && t)) (literal_value-opposite v p)
      ∙ chosen_implied (literal_value v x) (literal_value v p) ∙ sym (ap (λ l. cond (literal_value v x) (literal_value v p) (literal_value v l)) e))
      (good_negated first gates 1 (λ v. literal_value v x && literal_value v (opposite p)) (and_of first gates x (opposite p))
      (good_and first some gates ordered x (opposite p) hx (opposite_within p (first + length gates) hp))))
  good_ite_case b (three one other is_one is_other) =
      let a : IsGood first gates 1 (λ v. literal_value v x && literal_value v p) one = subst (λ (m : Built). IsGood first gates 1 (λ v. literal_value v x && literal_value v p) m) (sym is_one) (good_and first some gates ordered x p hx hp) in
      let c : IsGood first one.gates 1 (λ v. literal_value v (opposite x) && literal_value v q) other =
      subst (λ (m : Built). IsGood first one.gates 1 (λ v. literal_value v (opposite x) && literal_value v q) m) (sym is_other)
      (good_and first some one.gates a.ordered (opposite x) q (still_within first gates 1 _ one (opposite x) a not_x) (still_within first gates 1 _ one q a hq)) in
      let d = good_and first some other.gates c.ordered (opposite one.literal) (opposite other.literal)
      (still_within first one.gates 1 _ other (opposite one.literal) c (opposite_within one.literal (first + length one.gates) a.within))
      (opposite_within other.literal (first + length other.gates) c.within) in
      three_good one other a c d
    where
      three_good : (one other : Built) → IsGood first gates 1 (λ v. literal_value v x && literal_value v p) one → IsGood first one.gates 1 (λ v. literal_value v (opposite x) && literal_value v q) other
          → IsGood first other.gates 1 (λ v. literal_value v (opposite one.literal) && literal_value v (opposite other.literal)) (and_of first other.gates (opposite one.literal) (opposite other.literal))
          → IsGood first gates 3 meaning (negated (and_of first other.gates (opposite one.literal) (opposite other.literal)))
      three_good one other a c d =
          let last : Built = and_of first other.gates (opposite one.literal) (opposite other.literal) in
          let two = good_then first gates 1 1 _ _ one other a c in
          let all = good_then first gates 2 1 _ _ other (negated (and_of first other.gates (opposite one.literal) (opposite other.literal))) two (good_negated first other.gates 1 _ (and_of first other.gates (opposite one.literal) (opposite other.literal)) d) in
          record {
            rest = all.rest;
            grows = all.grows;
            few = all.few;
            ordered = all.ordered;
            within = all.within;
            means = λ v agree.
                let in_other : Agree first v other.gates = agree_before first v other.gates d.rest (subst (λ (gs : List Operands). Agree first v gs) d.grows agree) in
                let one_is : literal_value v one.literal ≡ (literal_value v x && literal_value v p) = still_means first gates 1 1 _ _ one other a c v in_other in
                let other_is : literal_value v other.literal ≡ (not (literal_value v x) && literal_value v q) = c.means v in_other ∙ ap (λ t. t && literal_value v q) (literal_value-opposite v x) in
                all.means v agree
                ∙ ap (λ t. not (t && literal_value v (opposite other.literal))) (literal_value-opposite v one.literal ∙ ap not one_is)
                ∙ ap (λ t. not (not (literal_value v x && literal_value v p) && t)) (literal_value-opposite v other.literal ∙ ap not other_is)
                ∙ chosen_three (literal_value v x) (literal_value v p) (literal_value v q);
          }

  pub good_ite : IsGood first gates 3 meaning (ite_of first gates x p q)
  good_ite = good_ite_case (ite_of first gates x p q) (ite_case first gates x p q)
