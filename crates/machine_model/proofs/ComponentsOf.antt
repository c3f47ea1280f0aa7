-- An automaton has components: those that are computed.
use Rattle.std.proofs.Common.{◌≡◌, ℕ, zero, suc, ◌+◌, ◌<◌, ◌≤◌, inl, inr, Bool, true, false, cond, get_or, map, refl, sym, ◌∙◌, subst, arith}
use Rattle.std.specs.Prelude.{nat_lt}
use Rattle.std.specs.List.{range_with_len}
use Rattle.std.proofs.lemmas.Bool.{both_ways, cases_eq, cases_lt, cond-false, cond-true, eqb-true, le-ltb, lt-ltb}
use Rattle.std.proofs.lemmas.Grind.{same_number_lists}
use Rattle.std.proofs.lemmas.List.FromFn.{get_or-map-range_with_len, length-map-range_with_len}
use Rattle.machine_model.specs.Automaton.{AutomatonModel, IsAutomaton, states_of}
use Rattle.machine_model.specs.Components.{AreComponentsOf, ComponentsModel, are_joined, components_of, least_below, local_before, local_count}
use Rattle.machine_model.specs.Named.{AreNamed, IsLeastBelow}
use Rattle.machine_model.proofs.Naming.{name_joined, names_right}

module _ (test : ℕ → Bool) where
  more : (n : ℕ) → least_below test (suc n) ≡ cond (nat_lt (least_below test n) n) (least_below test n) (cond (test n) n (suc n))
  unfolding least_below
  more n = refl

  none_below : least_below test zero ≡ zero
  unfolding least_below
  none_below = refl

  least_at : (n : ℕ) → IsLeastBelow test n (least_below test n) → IsLeastBelow test (suc n) (least_below test (suc n))
  least_at n before = elim (cases_lt (least_below test n) n) [
    | inl found ↦
        subst (IsLeastBelow test (suc n)) (sym (more n ∙ cond-true (nat_lt (least_below test n) n) (least_below test n) (cond (test n) n (suc n)) (lt-ltb (least_below test n) n found)))
        (record { within = omega (arith, found); passes = λ _. before.passes found; others = before.others })
    | inr late ↦
        let within : least_below test n ≤ n = before.within in
        let end : least_below test n ≡ n = omega (arith, late, within) in
        subst (IsLeastBelow test (suc n)) (sym (more n ∙ cond-false (nat_lt (least_below test n) n) (least_below test n) (cond (test n) n (suc n)) (le-ltb (least_below test n) n late)))
        (by (test n) refl (λ r h. before.others r (omega (arith, h, end))))
  ]
    where
      by : (b : Bool) → test n ≡ b → ((r : ℕ) → r < n → test r ≡ false) → IsLeastBelow test (suc n) (cond b n (suc n))
      by true is others = record { within = omega arith; passes = λ _. is; others = others }
      by false is others = record {
        within = omega arith;
        passes = λ less. absurd (omega (arith, less));
        others = λ r h. elim (cases_eq r n) [
          | inl same ↦ subst (λ s. test s ≡ false) (sym same) is
          | inr ne ↦ others r (omega (arith, h, ne))
        ];
      }

  pub least_is : (n : ℕ) → IsLeastBelow test n (least_below test n)
  least_is zero = subst (IsLeastBelow test zero) (sym none_below) (record { within = omega arith; passes = λ less. absurd (omega (arith, less)); others = λ r less. absurd (omega (arith, less)) })
  least_is (suc n) = least_at n (least_is n)

-- there is one least number
least_one : (test : ℕ → Bool) (q m n : ℕ) → IsLeastBelow test q m → IsLeastBelow test q n → m ≤ n
least_one test q m n is other = elim (cases_lt n m) [
  | inl less ↦
      let within : m ≤ q = is.within in
      absurd (both_ways (test n) (is.others n less) (other.passes (omega (arith, less, within))))
  | inr most ↦ most
]

module _ (a : AutomatonModel) where
  value_at : (f : ℕ → ℕ) (n q : ℕ) → q < n → get_or (map f (range_with_len 0 n)) q 0 ≡ f q
  value_at f n q h = get_or-map-range_with_len f 0 n q q 0 h (omega arith)

  pub names_at : (q : ℕ) → q < states_of a → IsLeastBelow (are_joined a q) q (get_or (components_of a).names q 0)
  names_at q h = subst (IsLeastBelow (are_joined a q) q) (sym (value_at (λ p. least_below (are_joined a p) p) (states_of a) q h)) (least_is (are_joined a q) q)

  module _ (c : ComponentsModel) (is : AreComponentsOf a c) where
    least : (q : ℕ) → q < states_of a → IsLeastBelow (are_joined a q) q (get_or c.names q 0)
    least q h = record {
      within = is.least q h;
      passes = λ _. is.inside q h;
      others = λ r less. apart r less (are_joined a q r) refl;
    }
      where
        apart : (r : ℕ) → r < get_or c.names q 0 → (b : Bool) → are_joined a q r ≡ b → are_joined a q r ≡ false
        apart r less false e = e
        apart r less true e =
            let within : get_or c.names q 0 ≤ q = is.least q h in
            let state : r < states_of a = omega (arith, less, within, h) in
            let same : get_or c.names q 0 ≡ get_or c.names r 0 = eqb-true (get_or c.names q 0) (get_or c.names r 0) (is.names q r h state ∙ e) in
            let few : get_or c.names r 0 ≤ r = is.least r state in
            absurd (omega (arith, less, same, few))

    -- what are its components is what is computed
    pub components_are : c ≡ components_of a
    components_are =
        let names : c.names ≡ (components_of a).names = same_number_lists c.names (components_of a).names (is.name_places ∙ sym (length-map-range_with_len (λ p. least_below (are_joined a p) p) 0 (states_of a))) (λ k h.
        let within : k < states_of a = omega (arith, h, is.name_places) in
        let most : get_or c.names k 0 ≤ get_or (components_of a).names k 0 = least_one (are_joined a k) k _ _ (least k within) (names_at k within) in
        let other : get_or (components_of a).names k 0 ≤ get_or c.names k 0 = least_one (are_joined a k) k _ _ (names_at k within) (least k within) in
        omega (arith, most, other)) in
        let counts : c.counts ≡ (components_of a).counts = same_number_lists c.counts (components_of a).counts (is.count_places ∙ sym (length-map-range_with_len (local_count a) 0 (states_of a))) (λ k h.
        let within : k < states_of a = omega (arith, h, is.count_places) in
        is.counts k within ∙ sym (value_at (local_count a) (states_of a) k within)) in
        let before : c.before ≡ (components_of a).before = same_number_lists c.before (components_of a).before (is.sum_places ∙ sym (length-map-range_with_len (local_before a) 0 (states_of a + 1))) (λ k h.
        let within : k < states_of a + 1 = omega (arith, h, is.sum_places) in
        is.before k (omega (arith, within)) ∙ sym (value_at (local_before a) (states_of a + 1) k within)) in
        λ i. record { names = names i; counts = counts i; before = before i }

  -- and an automaton has these
  pub are_components : IsAutomaton a → AreComponentsOf a (components_of a)
  are_components whole =
      let named : AreNamed a (components_of a).names = record { whole = whole; places = length-map-range_with_len (λ p. least_below (are_joined a p) p) 0 (states_of a); at = names_at } in
      record {
        name_places = named.places;
        count_places = length-map-range_with_len (local_count a) 0 (states_of a);
        sum_places = length-map-range_with_len (local_before a) 0 (states_of a + 1);
        names = names_right a (components_of a).names named;
        least = λ q h. (names_at q h).within;
        inside = name_joined a (components_of a).names named;
        counts = λ q h. value_at (local_count a) (states_of a) q h;
        before = λ q h. value_at (local_before a) (states_of a + 1) q (omega (arith, h));
      }
