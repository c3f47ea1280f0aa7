-- For more states there are no fewer base clauses, so the sizes that have a count are those from 1 on.
use Rattle.std.proofs.Common.{◌≡◌, ℕ, zero, suc, ◌+◌, ◌-◌, ◌*◌, ◌^◌, ◌<◌, ◌≤◌, ◌⊎◌, inl, inr, Bool, true, false, not, List, [], ◌∷◌, Some, None, length, refl, sym, ap, ◌∙◌, subst, arith, cond}
use Rattle.std.specs.Prelude.{◌==◌, ◌&&◌, is_some}
use Rattle.std.specs.List.{flat_map}
use Rattle.std.proofs.Math.Nat.{mul-le-mul}
use Rattle.std.proofs.lemmas.Bool.{cases_eq, cases_lt, cond-true, cond-false}
use Rattle.std.proofs.lemmas.List.{length-append}
use Rattle.letters_and_lassos.specs.declared.cubes.Cube.{Cube}
use Rattle.machine_model.specs.Automaton.{rejects, states_of}
use Rattle.machine_model.specs.Problem.{automaton_of, counts_locally, numbers_states, reads_of, sized}
use Rattle.machine_model.specs.declared.automata.Edge.{Edge}
use Rattle.machine_model.specs.declared.problems.Problem.{Problem}
use Rattle.product_bound.specs.Annotation.{leaves, rejecting_at}
use Rattle.annotation_encode.specs.BaseClauses.{base_clauses, edge_clauses, row_count, step_count}
use Rattle.annotation_encode.specs.Count.{AreCounted, SizesRise, allowed_sizes, chain_count, count_of, free_below, most_clauses, order_count, target_count}
use Rattle.annotation_encode.specs.Variables.{counted_before, letter_count}
use Rattle.annotation_encode.proofs.ClauseCount.{beside_edges, count_none, count_some, length-base, length-edge}

flat_more : {X Y : Type 0} (f g : X → List Y) (xs : List X) → ((x : X) → length (f x) ≤ length (g x)) → length (flat_map f xs) ≤ length (flat_map g xs)
flat_more f g [] more = omega arith
flat_more f g (x ∷ xs) more =
    let rest : length (flat_map f xs) ≤ length (flat_map g xs) = flat_more f g xs more in
    let here : length (f x) ≤ length (g x) = more x in
    let one : length (flat_map f (x ∷ xs)) ≡ length (f x) + length (flat_map f xs) = length-append (f x) (flat_map f xs) in
    let other : length (flat_map g (x ∷ xs)) ≡ length (g x) + length (flat_map g xs) = length-append (g x) (flat_map g xs) in
    omega (arith, rest, here, one, other)

module _ (p : Problem) (n m : ℕ) (more : n ≤ m) where
  targets_rise : (e : Edge) → target_count (sized p n) e ≤ target_count (sized p m) e
  targets_rise e = go ((e.from == e.to) && not (rejects (automaton_of p) e.to))
    where
      go : (b : Bool) → cond b (n - 1) n ≤ cond b (m - 1) m
      go true = omega arith
      go false = more

  steps_rise : (e : Edge) → step_count (sized p n) e ≤ step_count (sized p m) e
  steps_rise e = go (leaves p e.from e.to)
    where
      product : n * rejecting_at p e.from ≤ m * rejecting_at p e.from
      product = mul-le-mul more (let same : rejecting_at p e.from ≤ rejecting_at p e.from = omega arith in same)

      go : (b : Bool) → cond b 1 (n * rejecting_at p e.from + 1) ≤ cond b 1 (m * rejecting_at p e.from + 1)
      go true = omega arith
      go false = omega (arith, product)

  chains_rise : chain_count (sized p n) ≤ chain_count (sized p m)
  chains_rise = go (counts_locally p)
    where
      go : (b : Bool) → cond b (n * (n * counted_before p (states_of (automaton_of p)))) 0 ≤ cond b (m * (m * counted_before p (states_of (automaton_of p)))) 0
      go true = mul-le-mul more (mul-le-mul more (let same : counted_before p (states_of (automaton_of p)) ≤ counted_before p (states_of (automaton_of p)) = omega arith in same))
      go false = omega arith

  rows_rise : row_count (sized p n) ≤ row_count (sized p m)
  rows_rise = mul-le-mul more (let same : letter_count p ≤ letter_count p = omega arith in same)

  orders_rise : order_count (sized p n) ≤ order_count (sized p m)
  orders_rise = go (numbers_states p)
    where
      go : (b : Bool) → cond b (row_count (sized p n) * (n - 2)) 0 ≤ cond b (row_count (sized p m) * (m - 2)) 0
      go true = mul-le-mul rows_rise (omega arith)
      go false = omega arith

  free_same : (cube : Cube) (k : ℕ) → free_below (sized p n) cube k ≡ free_below (sized p m) cube k
  free_same cube k = refl

  edges_rise : (e : Edge) → length (edge_clauses (sized p n) e) ≤ length (edge_clauses (sized p m) e)
  edges_rise e =
      let fitting : 2 ^ free_below (sized p n) e.cube (reads_of p) ≤ 2 ^ free_below (sized p m) e.cube (reads_of p) = let same : 2 ^ free_below (sized p n) e.cube (reads_of p) ≡ 2 ^ free_below (sized p m) e.cube (reads_of p) = ap (λ k. 2 ^ k) (free_same e.cube (reads_of p)) in omega arith in
      let product : n * (2 ^ free_below (sized p n) e.cube (reads_of p) * (target_count (sized p n) e * step_count (sized p n) e)) ≤ m * (2 ^ free_below (sized p m) e.cube (reads_of p) * (target_count (sized p m) e * step_count (sized p m) e))
      = mul-le-mul more (mul-le-mul fitting (mul-le-mul (targets_rise e) (steps_rise e))) in
      let one : length (edge_clauses (sized p n) e) ≡ n * (2 ^ free_below (sized p n) e.cube (reads_of p) * (target_count (sized p n) e * step_count (sized p n) e)) = length-edge (sized p n) e in
      let other : length (edge_clauses (sized p m) e) ≡ m * (2 ^ free_below (sized p m) e.cube (reads_of p) * (target_count (sized p m) e * step_count (sized p m) e)) = length-edge (sized p m) e in
      subst (λ k. k ≤ length (edge_clauses (sized p m) e)) (sym one) (subst (λ k. n * (2 ^ free_below (sized p n) e.cube (reads_of p) * (target_count (sized p n) e * step_count (sized p n) e)) ≤ k) (sym other) product)

  clauses_rise : length (base_clauses (sized p n)) ≤ length (base_clauses (sized p m))
  clauses_rise =
      let one : length (base_clauses (sized p n)) ≡ beside_edges (sized p n) + length (flat_map (edge_clauses (sized p n)) (automaton_of p).edges) = length-base (sized p n) in
      let other : length (base_clauses (sized p m)) ≡ beside_edges (sized p m) + length (flat_map (edge_clauses (sized p m)) (automaton_of p).edges) = length-base (sized p m) in
      let edges : length (flat_map (edge_clauses (sized p n)) (automaton_of p).edges) ≤ length (flat_map (edge_clauses (sized p m)) (automaton_of p).edges) = flat_more (edge_clauses (sized p n)) (edge_clauses (sized p m)) (automaton_of p).edges edges_rise in
      let total : beside_edges (sized p n) + length (flat_map (edge_clauses (sized p n)) (automaton_of p).edges) ≤ beside_edges (sized p m) + length (flat_map (edge_clauses (sized p m)) (automaton_of p).edges)
      = sums rows_rise chains_rise orders_rise edges in
      subst (λ k. k ≤ length (base_clauses (sized p m))) (sym one) (subst (λ k. beside_edges (sized p n) + length (flat_map (edge_clauses (sized p n)) (automaton_of p).edges) ≤ k) (sym other) total)
    where
      sums : {a b c d x y z w : ℕ} → a ≤ x → b ≤ y → c ≤ z → d ≤ w → a + 1 + b + c + d ≤ x + 1 + y + z + w
      sums f g h i = omega arith

-- one size is tried after the other, from above
module _ (p : Problem) (max n : ℕ) (some : 0 < n) (so_far : allowed_sizes p max ≡ allowed_sizes p n) where
  unfolded : allowed_sizes p max ≡ cond (is_some (count_of (sized p (n - 1 + 1)))) (n - 1 + 1) (allowed_sizes p (n - 1))
  unfolding allowed_sizes
  unfolded =
      let at : n ≡ suc (n - 1) = omega arith in
      let one : suc (n - 1) ≡ n - 1 + 1 = omega arith in
      so_far ∙ ap (allowed_sizes p) at ∙ ap (λ k. cond (is_some (count_of (sized p k))) k (allowed_sizes p (n - 1))) one

  pub goes_on : is_some (count_of (sized p (n - 1 + 1))) ≡ false → allowed_sizes p max ≡ allowed_sizes p (n - 1)
  goes_on none = unfolded ∙ cond-false (is_some (count_of (sized p (n - 1 + 1)))) (n - 1 + 1) (allowed_sizes p (n - 1)) none

  pub stops : is_some (count_of (sized p (n - 1 + 1))) ≡ true → n - 1 + 1 ≡ allowed_sizes p max
  stops there = sym (unfolded ∙ cond-true (is_some (count_of (sized p (n - 1 + 1)))) (n - 1 + 1) (allowed_sizes p (n - 1)) there)

pub none_left : (p : Problem) (max n : ℕ) → n ≤ 0 → allowed_sizes p max ≡ allowed_sizes p n → 0 ≡ allowed_sizes p max
unfolding allowed_sizes
none_left p max n least so_far = let zero_left : n ≡ 0 = omega arith in sym (so_far ∙ ap (allowed_sizes p) zero_left)

-- whether a problem has a count
few_or_many : (p : Problem) → (length (base_clauses p) ≤ most_clauses p) ⊎ (most_clauses p < length (base_clauses p))
few_or_many p = elim (cases_lt (most_clauses p) (length (base_clauses p))) [ inl many ↦ inr many | inr few ↦ inl few ]

counted : (p : Problem) (max : ℕ) → AreCounted p max
unfolding allowed_sizes
counted p zero = record {
  within = omega arith;
  counted = λ n some within. absurd (omega arith);
  uncounted = λ n above within. absurd (omega arith);
}
counted p (suc k) =
    elim (few_or_many (sized p (suc k))) [
      | inl few ↦
          let some : count_of (sized p (suc k)) ≡ Some (length (base_clauses (sized p (suc k)))) = sym (count_some (sized p (suc k)) (length (base_clauses (sized p (suc k)))) refl few) in
          let is : allowed_sizes p (suc k) ≡ suc k = cond-true (is_some (count_of (sized p (suc k)))) (suc k) (allowed_sizes p k) (ap is_some some) in
          record {
            within = omega (arith, is);
            counted = λ n least within.
                let below : n ≤ suc k = omega (arith, is, within) in
                let small : length (base_clauses (sized p n)) ≤ most_clauses p = let rises : length (base_clauses (sized p n)) ≤ length (base_clauses (sized p (suc k))) = clauses_rise p n (suc k) below in omega (arith, rises, few) in
                sym (count_some (sized p n) (length (base_clauses (sized p n))) refl small);
            uncounted = λ n above within. absurd (omega (arith, is, above, within));
          }
      | inr many ↦
          let none : count_of (sized p (suc k)) ≡ None = sym (count_none (sized p (suc k)) many) in
          let is : allowed_sizes p (suc k) ≡ allowed_sizes p k = cond-false (is_some (count_of (sized p (suc k)))) (suc k) (allowed_sizes p k) (ap is_some none) in
          let before : AreCounted p k = counted p k in
          let within : allowed_sizes p k ≤ k = before.within in
          record {
            within = omega (arith, is, within);
            counted = λ n least below. before.counted n least (omega (arith, is, below));
            uncounted = λ n above below. elim (cases_eq n (suc k)) [
              | inl e ↦ subst (λ i. count_of (sized p i) ≡ None) (sym e) none
              | inr ne ↦ before.uncounted n (omega (arith, is, above)) (omega (arith, below, ne))
            ];
          }
    ]

pub sizes_rise : SizesRise
sizes_rise = record { clauses = clauses_rise; allowed = counted }
