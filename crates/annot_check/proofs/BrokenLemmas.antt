-- The first of the pairs that break the rule, found in any order.
use Rattle.std.proofs.Common.{◌≡◌, ℕ, ◌+◌, ◌<◌, ◌≤◌, Option, Some, None, List, [], ◌∷◌, ◌++◌, length, get_or, map, take, refl, sym, ap, subst, ◌∙◌, arith, inl, inr}
use Rattle.std.specs.Prelude.{All, Contains, MatchOption, min, unwrap_or}
use Rattle.std.specs.List.Sorted.{IsPermutation}
use Rattle.std.proofs.lemmas.Bool.{cases_lt}
use Rattle.std.proofs.lemmas.List.{get_or-map, get_or_default, length-map, take_more}
use Rattle.std.proofs.lemmas.List.Elements.{Contains-append_left, Contains-push, Contains-push_cases}
use Rattle.std.proofs.lemmas.List.Sorted.{Contains-permutation, IsPermutation-sym}
use Rattle.letters_and_lassos.specs.declared.kinds.Side.{Side}
use Rattle.machine_model.specs.Automaton.{AutomatonModel}
use Rattle.aiger_text.specs.Circuit.{Circuit}
use Rattle.annot_check.specs.declared.pairs.Pair.{Pair}
use Rattle.annot_check.specs.Causes.{BreaksRule, IsFirstBroken}
use Rattle.annot_check.specs.Steps.{ArePlaces, earlier_of}
use Rattle.annot_check.specs.Valid.{KeepsRule}

module _ (side : Side) (c : Circuit) (a : AutomatonModel) (pairs : List Pair) where
  -- the pair at a place keeps the rule
  abbrev Keeps : ℕ → Type 0
  Keeps k = (d : Pair) → KeepsRule side c a pairs (get_or pairs k d)

  -- the pair at a place breaks it
  pub record Breaks (p : ℕ) : Type 0 where
    pub pair : Pair
    pub within : p < length pairs
    pub at : get_or pairs p pair ≡ pair
    pub breaks : BreaksRule side c a pairs pair

  -- what is found among some places: that each keeps the rule, or one that breaks it, before which each does
  pub record IsFoundAmong (done : List ℕ) (first : Option ℕ) : Type 0 where
    pub none : first ≡ None → (k : ℕ) → Contains done k → Keeps k
    pub some : (p : ℕ) → first ≡ Some p → Breaks p
    pub earlier : (p : ℕ) → first ≡ Some p → (k : ℕ) → Contains done k → k < p → Keeps k

  -- a place whose pair keeps the rule
  pub found_kept : (done : List ℕ) (first : Option ℕ) (place : ℕ) → IsFoundAmong done first → Keeps place → IsFoundAmong (done ++ place ∷ []) first
  found_kept done first place f keeps = record {
    none = λ is k there. elim (Contains-push_cases done place k there) [ inl before ↦ f.none is k before | inr one ↦ subst Keeps one keeps ];
    some = f.some;
    earlier = λ p is k there less. elim (Contains-push_cases done place k there) [ inl before ↦ f.earlier p is k before less | inr one ↦ subst Keeps one keeps ];
  }

  min_cases : (P : ℕ → Type 0) (m n : ℕ) → (m ≤ n → P m) → (n < m → P n) → P (min m n)
  min_cases P m n low high = elim (cases_lt n m) [
    | inl less ↦ subst P (let e : n ≡ min m n = omega arith in e) (high less)
    | inr le ↦ subst P (let e : m ≡ min m n = omega arith in e) (low le)
  ]

  some_is : (p q : ℕ) → Some p ≡ Some q → p ≡ q
  some_is p q e = ap (λ (o : Option ℕ). unwrap_or o 0) e

  -- one whose pair breaks it
  pub found_broken : (done : List ℕ) (first : Option ℕ) (place : ℕ) → IsFoundAmong done first → Breaks place → IsFoundAmong (done ++ place ∷ []) (earlier_of first place)
  found_broken done None place f broken = record {
    none = λ is. absurd (cc);
    some = λ p is. subst Breaks (some_is place p is) broken;
    earlier = λ p is k there less. elim (Contains-push_cases done place k there) [
      | inl before ↦ f.none refl k before
      | inr one ↦ absurd (let same : place ≡ p = some_is place p is in omega (arith, same, one, less))
    ];
  }
  found_broken done (Some found) place f broken = record {
    none = λ is. absurd (cc);
    some = λ p is. subst Breaks (some_is (min found place) p is) (min_cases Breaks found place (λ le. f.some found refl) (λ less. broken));
    earlier = λ p is k there less.
        let same : min found place ≡ p = some_is (min found place) p is in
        elim (Contains-push_cases done place k there) [
          | inl before ↦ f.earlier found refl k before (omega (arith, same, less))
          | inr one ↦ absurd (omega (arith, same, one, less))
        ];
  }

  -- where all places were looked at
  pub found_all : (done : List ℕ) (first : Option ℕ) → ArePlaces (length pairs) done → IsFoundAmong done first
      → MatchOption first (All (KeepsRule side c a pairs) pairs) (IsFirstBroken side c a pairs)
  found_all done None places f = λ k d h. f.none refl k (places.all k h) d
  found_all done (Some p) places f =
      let broken = f.some p refl in
      record {
        pair = broken.pair;
        within = broken.within;
        at = broken.at;
        breaks = broken.breaks;
        first = λ k d less. f.earlier p refl k (places.all k (let within : p < length pairs = broken.within in omega (arith, within, less))) less d;
      }

  -- one place more of those that are looked at in an order
  module _ (order : List ℕ) (places : ArePlaces (length pairs) order) (i : ℕ) (h : i < length order) where
    pub place_within : get_or order i 0 < length pairs
    place_within = places.within (get_or order i 0) (i, h, get_or_default order i (get_or order i 0) 0 h)

    module _ (first : Option ℕ) (f : IsFoundAmong (take i order) first) where
      pub kept_more : Keeps (get_or order i 0) → IsFoundAmong (take (i + 1) order) first
      kept_more keeps = subst (λ (xs : List ℕ). IsFoundAmong xs first) (sym (take_more order i 0 h)) (found_kept (take i order) first (get_or order i 0) f keeps)

      pub broken_more : Breaks (get_or order i 0) → IsFoundAmong (take (i + 1) order) (earlier_of first (get_or order i 0))
      broken_more broken =
          subst (λ (xs : List ℕ). IsFoundAmong xs (earlier_of first (get_or order i 0))) (sym (take_more order i 0 h))
          (found_broken (take i order) first (get_or order i 0) f broken)

-- == places ==

contains_mapped : {X : Type 0} (f : X → ℕ) (xs : List X) (x : X) → Contains xs x → Contains (map f xs) (f x)
contains_mapped f xs x there =
    (there.0, subst (λ n. there.0 < n) (sym (length-map xs f)) there.1, get_or-map f xs there.0 x (f x) there.1 ∙ ap f there.2)

unmapped : {X : Type 0} (f : X → ℕ) (xs : List X) (d : X) (k : ℕ) → Contains (map f xs) k → (x : X) × Contains xs x × (f x ≡ k)
unmapped f xs d k there =
    let within : there.0 < length xs = subst (λ n. there.0 < n) (length-map xs f) there.1 in
    (get_or xs there.0 d, (there.0, within, get_or_default xs there.0 (get_or xs there.0 d) d within), sym (get_or-map f xs there.0 d k within) ∙ there.2)

-- the same places in another order
pub places_permuted : {X : Type 0} (f : X → ℕ) (d : X) (before after : List X) (n : ℕ) → IsPermutation before after → ArePlaces n (map f before) → ArePlaces n (map f after)
places_permuted f d before after n permuted places = record {
  all = λ k h.
      let from = unmapped f before d k (places.all k h) in
      subst (Contains (map f after)) from.2 (contains_mapped f after from.0 (Contains-permutation before after from.0 permuted from.1));
  within = λ k there.
      let from = unmapped f after d k there in
      places.within k (subst (Contains (map f before)) from.2
      (contains_mapped f before from.0 (Contains-permutation after before from.0 (IsPermutation-sym before after permuted) from.1)));
}

-- and one place more
pub places_more : (n : ℕ) (places : List ℕ) → ArePlaces n places → ArePlaces (n + 1) (places ++ n ∷ [])
places_more n places are = record {
  all = λ k h. elim (cases_lt k n) [
    | inl less ↦ Contains-append_left places (n ∷ []) k (are.all k less)
    | inr more ↦ subst (Contains (places ++ n ∷ [])) (let same : n ≡ k = omega (arith, h, more) in same) (Contains-push places n)
  ];
  within = λ k there. elim (Contains-push_cases places n k there) [
    | inl before ↦ (let less : k < n = are.within k before in omega (arith, less))
    | inr one ↦ omega (arith, one)
  ];
}
