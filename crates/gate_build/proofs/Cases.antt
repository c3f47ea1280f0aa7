-- The cases of each step, one by one.
use Rattle.std.proofs.Common.{◌≡◌, ℕ, ◌+◌, ◌*◌, ◌<◌, ◌≤◌, ◌&&◌, ◌||◌, Bool, true, false, not, eqb, List, [], ◌∷◌, ◌++◌, length, get_or, refl, sym, subst, arith, inl, inr}
use Rattle.std.specs.Prelude.{max, min}
use Rattle.std.specs.List.{list_any, position_or_len}
use Rattle.std.proofs.lemmas.Bool.{cond_both, cond-true, cond-false, cases_lt, and_parts, or_cases, eqb-true, not-true, not-false}
use Rattle.std.proofs.lemmas.List.{get_or_default}
use Rattle.std.proofs.lemmas.List.Sums.{prefix_len_passes, prefix_len_stops, prefix_len-le-length}
use Rattle.std.proofs.lemmas.List.Folds.{list_any-from_Any, list_any_none}
use Rattle.gate_build.specs.declared.gates.Operands.{Operands}
use Rattle.gate_build.specs.Gates.{Built, and_of, gate_of, ite_of, negated, opposite, same_operands}

-- operands that are found equal are
same_operands-true : (a b : Operands) → same_operands a b ≡ true → a ≡ b
same_operands-true a b h =
    let parts = and_parts (eqb a.greater b.greater) (eqb a.lesser b.lesser) h in
    let g : a.greater ≡ b.greater = eqb-true a.greater b.greater parts.0 in
    let l : a.lesser ≡ b.lesser = eqb-true a.lesser b.lesser parts.1 in
    λ i. record { greater = g i; lesser = l i }

-- operands that aren't there
abbrev pub no_operands : Operands
no_operands = record { greater = 0; lesser = 0 }

-- a gate stands at a place already, or it is the new last one
pub data GateCase (first : ℕ) (gates : List Operands) (pair : Operands) : Built → Type 0 where
  known : (k : ℕ) → k < length gates → get_or gates k no_operands ≡ pair → GateCase first gates pair (record { gates = gates; literal = 2 * (first + k) })
  new : GateCase first gates pair (record { gates = gates ++ pair ∷ []; literal = 2 * (first + length gates) })

pub gate_case : (first : ℕ) (gates : List Operands) (pair : Operands) → GateCase first gates pair (gate_of first gates pair)
unfolding gate_of
gate_case first gates pair = elim (cases_lt (position_or_len test gates) (length gates)) [
  | inl less ↦
      let passes : test (get_or gates (position_or_len test gates) no_operands) ≡ true =
      not-false (test (get_or gates (position_or_len test gates) no_operands)) (prefix_len_stops (λ x. not (test x)) gates no_operands less) in
      let any : list_any test gates ≡ true = list_any-from_Any test gates (
        position_or_len test gates,
        get_or gates (position_or_len test gates) no_operands,
        less,
        get_or_default gates (position_or_len test gates) (get_or gates (position_or_len test gates) no_operands) no_operands less,
        passes,
      ) in
      subst (λ (gs : List Operands). GateCase first gates pair (record { gates = gs; literal = 2 * (first + position_or_len test gates) }))
      (sym (cond-true (list_any test gates) gates (gates ++ pair ∷ []) any))
      (known (position_or_len test gates) less (sym (same_operands-true pair (get_or gates (position_or_len test gates) no_operands) passes)))
  | inr past ↦
      let over : length gates ≤ position_or_len test gates = past in
      let under : position_or_len test gates ≤ length gates = prefix_len-le-length (λ x. not (test x)) gates in
      let at : position_or_len test gates ≡ length gates = omega (arith, over, under) in
      let none : list_any test gates ≡ false = list_any_none test gates (λ k d h. not-true (test (get_or gates k d)) (prefix_len_passes (λ x. not (test x)) gates k d (omega (arith, at, h)))) in
      subst (λ (gs : List Operands). GateCase first gates pair (record { gates = gs; literal = 2 * (first + position_or_len test gates) }))
      (sym (cond-false (list_any test gates) gates (gates ++ pair ∷ []) none))
      (subst (λ (k : ℕ). GateCase first gates pair (record { gates = gates ++ pair ∷ []; literal = 2 * (first + k) })) (sym at) new)
]
  where
    test : Operands → Bool
    test = same_operands pair

-- the cases of both
pub data AndCase (first : ℕ) (gates : List Operands) (x y : ℕ) : Built → Type 0 where
  left_none : x ≡ 0 → AndCase first gates x y (record { gates = gates; literal = 0 })
  right_none : y ≡ 0 → AndCase first gates x y (record { gates = gates; literal = 0 })
  opposed : x ≡ opposite y → AndCase first gates x y (record { gates = gates; literal = 0 })
  left_all : x ≡ 1 → AndCase first gates x y (record { gates = gates; literal = y })
  right_all : y ≡ 1 → AndCase first gates x y (record { gates = gates; literal = x })
  equal : x ≡ y → AndCase first gates x y (record { gates = gates; literal = x })
  made : (b : Built) → GateCase first gates (record { greater = max x y; lesser = min x y }) b → AndCase first gates x y b

pub and_case : (first : ℕ) (gates : List Operands) (x y : ℕ) → AndCase first gates x y (and_of first gates x y)
unfolding and_of
and_case first gates x y =
    cond_both (eqb x 0 || eqb y 0 || eqb x (opposite y)) _ _ (AndCase first gates x y)
    (λ some. elim (or_cases _ _ some) [
      | inl two ↦ elim (or_cases _ _ two) [ inl one ↦ left_none (eqb-true x 0 one) | inr one ↦ right_none (eqb-true y 0 one) ]
      | inr three ↦ opposed (eqb-true x (opposite y) three)
    ])
    (λ none. cond_both (eqb x 1) _ _ (AndCase first gates x y) (λ one. left_all (eqb-true x 1 one))
    (λ _. cond_both (eqb y 1) _ _ (AndCase first gates x y) (λ one. right_all (eqb-true y 1 one))
    (λ _. cond_both (eqb x y) _ _ (AndCase first gates x y) (λ same. equal (eqb-true x y same))
    (λ _. made (gate_of first gates (record { greater = max x y; lesser = min x y })) (gate_case first gates (record { greater = max x y; lesser = min x y }))))))

-- the cases of a choice
pub data IteCase (first : ℕ) (gates : List Operands) (x p q : ℕ) : Built → Type 0 where
  either : p ≡ q → IteCase first gates x p q (record { gates = gates; literal = p })
  itself : p ≡ 1 → q ≡ 0 → IteCase first gates x p q (record { gates = gates; literal = x })
  turned : p ≡ 0 → q ≡ 1 → IteCase first gates x p q (record { gates = gates; literal = opposite x })
  first_none : p ≡ 0 → IteCase first gates x p q (and_of first gates (opposite x) q)
  second_none : q ≡ 0 → IteCase first gates x p q (and_of first gates x p)
  first_all : p ≡ 1 → IteCase first gates x p q (negated (and_of first gates (opposite x) (opposite q)))
  second_all : q ≡ 1 → IteCase first gates x p q (negated (and_of first gates x (opposite p)))
  three : (one other : Built) → one ≡ and_of first gates x p → other ≡ and_of first one.gates (opposite x) q
      → IteCase first gates x p q (negated (and_of first other.gates (opposite one.literal) (opposite other.literal)))

pub ite_case : (first : ℕ) (gates : List Operands) (x p q : ℕ) → IteCase first gates x p q (ite_of first gates x p q)
unfolding ite_of
ite_case first gates x p q =
    cond_both (eqb p q) _ _ (IteCase first gates x p q) (λ same. either (eqb-true p q same))
    (λ _. cond_both (eqb p 1 && eqb q 0) _ _ (IteCase first gates x p q) (λ both. let parts = and_parts _ _ both in itself (eqb-true p 1 parts.0) (eqb-true q 0 parts.1))
    (λ _. cond_both (eqb p 0 && eqb q 1) _ _ (IteCase first gates x p q) (λ both. let parts = and_parts _ _ both in turned (eqb-true p 0 parts.0) (eqb-true q 1 parts.1))
    (λ _. cond_both (eqb p 0) _ _ (IteCase first gates x p q) (λ none. first_none (eqb-true p 0 none))
    (λ _. cond_both (eqb q 0) _ _ (IteCase first gates x p q) (λ none. second_none (eqb-true q 0 none))
    (λ _. cond_both (eqb p 1) _ _ (IteCase first gates x p q) (λ all. first_all (eqb-true p 1 all))
    (λ _. cond_both (eqb q 1) _ _ (IteCase first gates x p q) (λ all. second_all (eqb-true q 1 all))
    (λ _. three (and_of first gates x p) (and_of first (and_of first gates x p).gates (opposite x) q) refl refl)))))))
