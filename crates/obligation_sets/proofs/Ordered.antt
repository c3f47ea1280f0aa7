use Rattle.std.proofs.Common.{◌≡◌, ℕ, ◌<◌, ◌≤◌, Bool, true, false, eqb, ltb, List, All, get_or, inl, inr, length, sym, ◌∙◌, ap, arith}
use Rattle.std.specs.List.Sorted.{IsNonDecreasingBy, IsPartitionPoint}
use Rattle.std.proofs.lemmas.Bool.{cases_eq, cases_lt, ltb-false, ltb-true, ne_eqb}
use Rattle.std.proofs.lemmas.List.{get_or_default}
use Rattle.std.proofs.lemmas.List.Folds.{list_any-from_Any, list_any_none}
use Rattle.ltl_formula.specs.declared.nodes.FormulaId.{FormulaId}
use Rattle.obligation_sets.specs.Ids.{IdsRise, is_among, same_id}

pub rising : (ids : List FormulaId) → IdsRise ids → IsNonDecreasingBy (λ (g : FormulaId). g.0) ids
rising ids r i j d le h =
    elim (cases_eq i j) [
      | inl same ↦ (let e : (get_or ids i d).0 ≡ (get_or ids j d).0 = ap (λ k. (get_or ids k d).0) same in omega arith)
      | inr other ↦ (let apart : i ≡ j → ⊥ = other in let less : (get_or ids i d).0 < (get_or ids j d).0 = r.rise i j d (omega arith) h in omega arith)
    ]

-- where a binary search among rising ids ends
module _ (ids : List FormulaId) (rise : IdsRise ids) (x : FormulaId) (i : ℕ) (point : IsPartitionPoint (λ (y : FormulaId). ltb y.0 x.0 ≡ true) (λ (y : FormulaId). ltb y.0 x.0 ≡ false) ids i) where
  before : (k : ℕ) (d : FormulaId) → k < i → eqb (get_or ids k d).0 x.0 ≡ false
  before k d h =
      let less : (get_or ids k d).0 < x.0 = ltb-true (get_or ids k d).0 x.0 (point.0 k d (omega arith) h) in
      ne_eqb (get_or ids k d).0 x.0 (λ e. omega arith)

  behind : i < length ids → (k : ℕ) (d : FormulaId) → i < k → k < length ids → eqb (get_or ids k d).0 x.0 ≡ false
  behind within k d h inside =
      let here : x.0 ≤ (get_or ids i d).0 = ltb-false (get_or ids i d).0 x.0 (point.1 i d (omega arith) within) in
      let more : (get_or ids i d).0 < (get_or ids k d).0 = rise.rise i k d h inside in
      ne_eqb (get_or ids k d).0 x.0 (λ e. omega arith)

  none_at : i < length ids → eqb (get_or ids i x).0 x.0 ≡ false → All (λ (g : FormulaId). same_id g x ≡ false) ids
  none_at within e k d inside =
      elim (cases_lt k i) [
        | inl less ↦ before k d less
        | inr more ↦ elim (cases_eq k i) [
          | inl same ↦ ap (λ j. eqb (get_or ids j d).0 x.0) same ∙ ap (λ (y : FormulaId). eqb y.0 x.0) (get_or_default ids i d x within) ∙ e
          | inr other ↦ behind within k d (let apart : k ≡ i → ⊥ = other in omega arith) inside
        ]
      ]

  search_by : i < length ids → (b : Bool) → eqb (get_or ids i x).0 x.0 ≡ b → b ≡ is_among ids x
  search_by within true e = sym (list_any-from_Any (λ (g : FormulaId). same_id g x) ids (i, get_or ids i x, within, get_or_default ids i (get_or ids i x) x within, e))
  search_by within false e = sym (list_any_none (λ (g : FormulaId). same_id g x) ids (none_at within e))

  -- the id at that place is the one that was looked for, exactly where that is among them
  pub found_there : (d : FormulaId) (b : Bool) → i < length ids → b ≡ eqb (get_or ids i d).0 x.0 → b ≡ is_among ids x
  found_there d b within tested = search_by within b (ap (λ (z : FormulaId). eqb z.0 x.0) (get_or_default ids i x d within) ∙ sym tested)

  pub found_nowhere : (b : Bool) → length ids ≤ i → b ≡ false → b ≡ is_among ids x
  found_nowhere b past none = none ∙ sym (list_any_none (λ (g : FormulaId). same_id g x) ids (λ k d inside. before k d (omega arith)))
