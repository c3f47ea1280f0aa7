use Rattle.std.proofs.Common.{◌≡◌, ℕ, ◌≤◌, Bool, true, false, not, List, [], ◌∷◌, ◌++◌, Some, All, length, map, slice_get, refl, sym, ◌∙◌, ap, subst, rules}
use Rattle.std.specs.Prelude.{option_map}
use Rattle.std.specs.List.{list_any, position_or_len}
use Rattle.std.proofs.lemmas.Bool.{cond-true, cond-false}
use Rattle.std.proofs.lemmas.List.{map-append}
use Rattle.std.proofs.lemmas.List.Elements.{All-append, All-contains}
use Rattle.std.proofs.lemmas.Option.{slice_get-map}
use Rattle.std_lemmas.proofs.Lists.{Contains-slice_get}
use Rattle.indexmap.specs.IndexSet.{insert_key}
use Rattle.ltl_formula.specs.declared.nodes.FormulaId.{FormulaId}
use Rattle.ltl_formula.specs.declared.nodes.Node.{Node}
use Rattle.obligation_sets.specs.declared.sets.Cover.{Cover}
use Rattle.obligation_sets.specs.declared.sets.Covering.{Covering}
use Rattle.obligation_sets.specs.Covers.{set_leaves}
use Rattle.obligation_sets.specs.Reduced.{covers_by}
use Rattle.obligation_sets.specs.Ids.{same_ids}
use Rattle.obligation_sets.proofs.Distinct.{same_ids-decides}
use Rattle.cobuchi_build.specs.CoverTable.{IsTableOf, TableModel}
use Rattle.cobuchi_build.proofs.Growth.{insert_key-at}

-- what stands at the place of a set
pub covers_at : (covering : Covering) (ns : List Node) (t : TableModel) (place : ℕ) (set : List FormulaId) → IsTableOf covering ns t → slice_get t.sets place ≡ Some set → slice_get t.covers place ≡ Some (covers_by covering ns set)
covers_at covering ns t place set known there =
    ap (λ (l : List (List Cover)). slice_get l place) known.covers ∙ slice_get-map (covers_by covering ns) t.sets place ∙ ap (option_map (covers_by covering ns)) there

module _ (covering : Covering) (ns : List Node) (set : List FormulaId) (sets : List (List FormulaId)) (covers : List (List Cover)) (t : TableModel) (view : record { sets = sets; covers = covers } ≡ t) (known : IsTableOf covering ns t) (keys : List (List FormulaId)) (place : ℕ) (key : List FormulaId) (same : key ≡ set) (joins : keys ≡ insert_key same_ids sets key) (is : place ≡ position_or_len (same_ids key) sets) where
  inside : IsTableOf covering ns (record { sets = sets; covers = covers })
  inside = subst (IsTableOf covering ns) (sym view) known

  -- the set stands at its place
  here : slice_get keys place ≡ Some set
  here = (λ i. slice_get (joins i) (is i)) ∙ insert_key-at same_ids same_ids-decides sets key ∙ ap Some same

  module _ (old : list_any (same_ids key) sets ≡ true) where
    same_keys : keys ≡ sets
    same_keys = joins ∙ cond-true (list_any (same_ids key) sets) sets (sets ++ key ∷ []) old

    there : slice_get sets place ≡ Some set
    there = ap (λ (l : List (List FormulaId)). slice_get l place) (sym same_keys) ∙ here

    pub old_covers : slice_get covers place ≡ Some (covers_by covering ns set)
    old_covers = covers_at covering ns (record { sets = sets; covers = covers }) place set inside there

    pub old_few : length (set_leaves ns set) ≤ 100000
    old_few = All-contains (λ s. length (set_leaves ns s) ≤ 100000) sets set inside.few (Contains-slice_get sets place set there)

  module _ (fresh : list_any (same_ids key) sets ≡ false) (made : List Cover) (right : made ≡ covers_by covering ns set) (few : length (set_leaves ns set) ≤ 100000) (new : List (List Cover)) (grown : new ≡ covers ++ made ∷ []) where
    more_keys : keys ≡ sets ++ set ∷ []
    more_keys = joins ∙ cond-false (list_any (same_ids key) sets) sets (sets ++ key ∷ []) fresh ∙ ap (λ k. sets ++ k ∷ []) same

    pub new_known : IsTableOf covering ns (record { sets = keys; covers = new })
    new_known = record {
      covers = grown ∙ (λ i. inside.covers i ++ right i ∷ []) ∙ sym (map-append (covers_by covering ns) sets (set ∷ [])) ∙ ap (map (covers_by covering ns)) (sym more_keys);
      few = subst (All (λ s. length (set_leaves ns s) ≤ 100000)) (sym more_keys) (All-append (λ s. length (set_leaves ns s) ≤ 100000) sets (set ∷ []) inside.few (search rules));
    }

    pub new_covers : slice_get new place ≡ Some (covers_by covering ns set)
    new_covers = covers_at covering ns (record { sets = keys; covers = new }) place set new_known here

pub is_fresh : (b is_new : Bool) → is_new ≡ not b → is_new ≡ true → b ≡ false
is_fresh true is_new e t = cc
is_fresh false is_new e t = refl

pub is_old : (b is_new : Bool) → is_new ≡ not b → is_new ≡ false → b ≡ true
is_old true is_new e t = refl
is_old false is_new e t = cc

pub same_covers : (lists : List (List Cover)) (place : ℕ) (a b : List Cover) → slice_get lists place ≡ Some a → slice_get lists place ≡ Some b → a ≡ b
same_covers lists place a b p q = let e : Some a ≡ Some b = sym p ∙ q in cc
