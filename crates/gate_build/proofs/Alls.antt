-- What functions built in order keep.
use Rattle.std.proofs.Common.{◌≡◌, ℕ, zero, suc, ◌+◌, ◌*◌, ◌<◌, ◌≤◌, Bool, List, [], ◌∷◌, ◌++◌, length, get_or, refl, sym, ap, subst, ◌∙◌, arith, below_more, append_assoc}
use Rattle.std.proofs.lemmas.List.{length_push, length-append, get_or_append_left, get_or_push, append-nil}
use Rattle.std.specs.Prelude.{map}
use Rattle.std.specs.List.{range_with_len}
use Rattle.std.proofs.lemmas.List.FromFn.{map-range_with_len_more}
use Rattle.aiger_text.specs.Circuit.{Valuation, literal_value}
use Rattle.machine_model.specs.Machine.{MachineModel}
use Rattle.gate_build.specs.declared.gates.Operands.{Operands}
use Rattle.gate_build.specs.Gates.{Built, split_of}
use Rattle.gate_build.specs.Table.{AllBuilt, all_of, first_gate, split_literals}
use Rattle.gate_build.proofs.Meaning.{Agree, AreOrdered, IsGood, agree_before}
use Rattle.gate_build.proofs.Splits.{good_split, most_gates, number_in}

-- Literals built over some gates: they add gates, which are ordered, use no later variable, and mean these.
pub record AreGood (first : ℕ) (old : List Operands) (count : ℕ) (most : ℕ) (meaning : ℕ → Valuation → Bool) (b : AllBuilt) : Type 0 where
  pub rest : List Operands
  pub grows : b.gates ≡ old ++ rest
  pub few : length b.gates ≤ length old + count * most
  pub ordered : AreOrdered first b.gates
  pub places : length b.literals ≡ count
  pub within : (k : ℕ) → k < count → get_or b.literals k 0 < 2 * (first + length b.gates)
  pub means : (v : Valuation) → Agree first v b.gates → (k : ℕ) → k < count → literal_value v (get_or b.literals k 0) ≡ meaning k v

module _ (m : MachineModel) (tests : ℕ → ℕ → Bool) where
  pub all-zero : (gates : List Operands) → all_of m tests zero gates ≡ record { gates = gates; literals = [] }
  unfolding all_of
  all-zero gates = refl

  pub all-suc : (n : ℕ) (gates : List Operands) (before : AllBuilt) (b : Built) → all_of m tests n gates ≡ before
      → split_of (first_gate m) (tests n) (split_literals m) 0 1 before.gates ≡ b
      → all_of m tests (suc n) gates ≡ record { gates = b.gates; literals = before.literals ++ b.literal ∷ [] }
  unfolding all_of
  all-suc n gates before b is_before is_b = rw (is_before, is_b) refl

  abbrev pub means_at : ℕ → Valuation → Bool
  means_at k v = tests k (number_in (split_literals m) 0 1 v)

  module _ (some : 0 < first_gate m) (early : (k : ℕ) → k < length (split_literals m) → get_or (split_literals m) k 0 < 2 * first_gate m) where
    still_early : (gates : List Operands) (k : ℕ) → k < length (split_literals m) → get_or (split_literals m) k 0 < 2 * (first_gate m + length gates)
    still_early gates k h = let e : get_or (split_literals m) k 0 < 2 * first_gate m = early k h in omega (arith, e)

    added : (old : List Operands) (n : ℕ) (before : AllBuilt) (b : Built) → AreGood (first_gate m) old n (most_gates (length (split_literals m))) means_at before
        → IsGood (first_gate m) before.gates (most_gates (length (split_literals m))) (means_at n) b
        → AreGood (first_gate m) old (suc n) (most_gates (length (split_literals m))) means_at (record { gates = b.gates; literals = before.literals ++ b.literal ∷ [] })
    added old n before b all good =
        let one : n + 1 ≡ suc n = omega arith in
        let len : length b.gates ≡ length before.gates + length good.rest = ap length good.grows ∙ length-append before.gates good.rest in
        record {
          rest = all.rest ++ good.rest;
          grows = good.grows ∙ ap (λ (xs : List Operands). xs ++ good.rest) all.grows ∙ append_assoc old all.rest good.rest;
          few =
              let a : length before.gates ≤ length old + n * most_gates (length (split_literals m)) = all.few in
              let c : length b.gates ≤ length before.gates + most_gates (length (split_literals m)) = good.few in
              let e : suc n * most_gates (length (split_literals m)) ≡ n * most_gates (length (split_literals m)) + most_gates (length (split_literals m)) = omega arith in
              omega (arith, a, c, e);
          ordered = good.ordered;
          places = length_push before.literals b.literal ∙ ap (λ k. k + 1) all.places ∙ one;
          within = rw (← one) (below_more (λ k. get_or (before.literals ++ b.literal ∷ []) k 0 < 2 * (first_gate m + length b.gates)) n
              (λ k h. rw (get_or_append_left before.literals (b.literal ∷ []) 0 k (rw all.places h)) (let w : get_or before.literals k 0 < 2 * (first_gate m + length before.gates) = all.within k h in omega (arith, w, len)))
              (rw (get_or_push before.literals b.literal 0 n all.places) good.within));
          means = λ v agree. rw (← one) (below_more (λ k. literal_value v (get_or (before.literals ++ b.literal ∷ []) k 0) ≡ means_at k v) n
              (λ k h. ap (literal_value v) (get_or_append_left before.literals (b.literal ∷ []) 0 k (rw all.places h))
              ∙ all.means v (agree_before (first_gate m) v before.gates good.rest (subst (λ (gs : List Operands). Agree (first_gate m) v gs) good.grows agree)) k h)
              (ap (literal_value v) (get_or_push before.literals b.literal 0 n all.places) ∙ good.means v agree));
        }

    -- functions built in order are good
    pub good_all : (n : ℕ) (gates : List Operands) → AreOrdered (first_gate m) gates → AreGood (first_gate m) gates n (most_gates (length (split_literals m))) means_at (all_of m tests n gates)
    good_all zero gates ordered =
        subst (λ (b : AllBuilt). AreGood (first_gate m) gates zero (most_gates (length (split_literals m))) means_at b) (sym (all-zero gates))
        (record {
          rest = [];
          grows = sym (append-nil gates);
          few = omega arith;
          ordered = ordered;
          places = refl;
          within = λ k h. absurd (omega arith);
          means = λ v agree k h. absurd (omega arith);
        })
    good_all (suc n) gates ordered =
        let before : AllBuilt = all_of m tests n gates in
        let all : AreGood (first_gate m) gates n (most_gates (length (split_literals m))) means_at (all_of m tests n gates) = good_all n gates ordered in
        subst (λ (b : AllBuilt). AreGood (first_gate m) gates (suc n) (most_gates (length (split_literals m))) means_at b)
        (sym (all-suc n gates (all_of m tests n gates) (split_of (first_gate m) (tests n) (split_literals m) 0 1 (all_of m tests n gates).gates) refl refl))
        (added gates n (all_of m tests n gates) (split_of (first_gate m) (tests n) (split_literals m) 0 1 (all_of m tests n gates).gates) all
        (good_split (first_gate m) some (tests n) (split_literals m) 0 1 (all_of m tests n gates).gates all.ordered (still_early (all_of m tests n gates).gates)))

-- one more function is built
pub all-step : (m : MachineModel) (tests : ℕ → ℕ → Bool) (place : ℕ) (old keys keys' : List Operands) (lits lits' : List ℕ) (first l : ℕ) (test : ℕ → Bool) (split_on : List ℕ)
    → first ≡ first_gate m → split_on ≡ split_literals m → test ≡ tests place → all_of m tests place old ≡ record { gates = keys; literals = lits }
    → split_of first test split_on 0 1 keys ≡ record { gates = keys'; literal = l } → lits' ≡ lits ++ l ∷ []
    → all_of m tests (place + 1) old ≡ record { gates = keys'; literals = lits' }
all-step m tests place old keys keys' lits lits' first l test split_on is_first is_split is_test before is_one pushed =
    let one : place + 1 ≡ suc place = omega arith in
    ap (λ n. all_of m tests n old) one
    ∙ all-suc m tests place old (record { gates = keys; literals = lits }) (record { gates = keys'; literal = l }) before
    (sym (ap (λ n. split_of n test split_on 0 1 keys) is_first ∙ ap (λ xs. split_of (first_gate m) test xs 0 1 keys) is_split ∙ ap (λ (t : ℕ → Bool). split_of (first_gate m) t (split_literals m) 0 1 keys) is_test) ∙ is_one)
    ∙ ap (λ xs. let b : AllBuilt = record { gates = keys'; literals = xs } in b) (sym pushed)

-- a list that agrees with a function on the first numbers
pub pushed_is : {X : Type 0} (f : ℕ → X) (n : ℕ) (xs ys : List X) (x : X) → xs ≡ map f (range_with_len 0 n) → ys ≡ xs ++ x ∷ [] → x ≡ f n → ys ≡ map f (range_with_len 0 (n + 1))
pushed_is f n xs ys x before pushed is =
    let zero_n : 0 + n ≡ n = omega arith in
    pushed ∙ ap (λ zs. zs ++ x ∷ []) before ∙ ap (λ y. map f (range_with_len 0 n) ++ y ∷ []) is ∙ sym (map-range_with_len_more f 0 n n zero_n)
