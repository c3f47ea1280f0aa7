use Rattle.std.proofs.Common.{◌≡◌, ◌⊎◌, inl, inr, Bool, true, eqb, ◌&&◌, List, [], ◌∷◌, ◌++◌, refl, sym, ap, subst}
use Rattle.std.specs.Prelude.{Contains}
use Rattle.std.specs.List.{list_any}
use Rattle.std.specs.Cmp.Lexicographic.{pointwise_decides}
use Rattle.std.proofs.lemmas.Bool.{and_from, and_parts, cases_Bool, cond-true, cond-false, eq-eqb, eqb-true, false≢true, or_cases}
use Rattle.std.proofs.lemmas.List.Elements.{Contains-append_left, Contains-push, Contains-push_cases}
use Rattle.std_lemmas.proofs.Lists.{Contains-cases, Contains-head, Contains-later, Contains-none}
use Rattle.indexmap.specs.IndexSet.{insert_all, insert_key}
use Rattle.ltl_formula.specs.declared.nodes.FormulaId.{FormulaId}
use Rattle.ltl_formula.proofs.NodeEquality.{same_id_of}
use Rattle.obligation_sets.specs.declared.sets.Cover.{Cover}
use Rattle.obligation_sets.specs.Covers.{same_cover}
use Rattle.obligation_sets.specs.Ids.{same_id, same_ids}
use Rattle.obligation_sets.proofs.Cubes.{same_cube}

pub any_of : {X : Type 0} (p : X → Bool) (xs : List X) → list_any p xs ≡ true → (y : X) × Contains xs y × (p y ≡ true)
any_of p [] h = absurd (false≢true h)
any_of p (x ∷ xs) h =
    elim (or_cases (p x) (list_any p xs) h) [
      | inl here ↦ (x, Contains-head x xs, here)
      | inr there ↦ let found : (y : _) × Contains xs y × (p y ≡ true) = any_of p xs there in (found.0, Contains-later x xs found.0 found.1, found.2)
    ]

module _ {X : Type 0} (eq : X → X → Bool) where
  key_kept : (ks : List X) (k x : X) → Contains ks x → Contains (insert_key eq ks k) x
  key_kept ks k x c =
      elim (cases_Bool (list_any (eq k) ks)) [
        | inl old ↦ subst (λ (l : List X). Contains l x) (sym (cond-true (list_any (eq k) ks) ks (ks ++ k ∷ []) old)) c
        | inr fresh ↦ subst (λ (l : List X). Contains l x) (sym (cond-false (list_any (eq k) ks) ks (ks ++ k ∷ []) fresh)) (Contains-append_left ks (k ∷ []) x c)
      ]

  key_from : (ks : List X) (k x : X) → Contains (insert_key eq ks k) x → Contains ks x ⊎ (k ≡ x)
  key_from ks k x c =
      elim (cases_Bool (list_any (eq k) ks)) [
        | inl old ↦ inl (subst (λ (l : List X). Contains l x) (cond-true (list_any (eq k) ks) ks (ks ++ k ∷ []) old) c)
        | inr fresh ↦ Contains-push_cases ks k x (subst (λ (l : List X). Contains l x) (cond-false (list_any (eq k) ks) ks (ks ++ k ∷ []) fresh) c)
      ]

  pub all_kept : (ks xs : List X) (x : X) → Contains ks x → Contains (insert_all eq ks xs) x
  all_kept ks [] x c = c
  all_kept ks (y ∷ xs) x c = all_kept (insert_key eq ks y) xs x (key_kept ks y x c)

  -- what is kept comes from what was there or was put in
  pub all_from : (ks xs : List X) (x : X) → Contains (insert_all eq ks xs) x → Contains ks x ⊎ Contains xs x
  all_from ks [] x c = inl c
  all_from ks (y ∷ xs) x c =
      elim (all_from (insert_key eq ks y) xs x c) [
        | inl key ↦ elim (key_from ks y x key) [ inl old ↦ inl old | inr same ↦ inr (subst (λ (z : X). Contains (z ∷ xs) x) (sym same) (Contains-head x xs)) ]
        | inr later ↦ inr (Contains-later y xs x later)
      ]

  module _ (decides : (x y : X) → eq x y ≡ true → x ≡ y) where
    key_in : (ks : List X) (k : X) → Contains (insert_key eq ks k) k
    key_in ks k =
        elim (cases_Bool (list_any (eq k) ks)) [
          | inl old ↦
              let found : (y : X) × Contains ks y × (eq k y ≡ true) = any_of (eq k) ks old in
              let same : k ≡ found.0 = decides k found.0 found.2 in
              key_kept ks k k (subst (λ (z : X). Contains ks z) (sym same) found.1)
          | inr fresh ↦ subst (λ (l : List X). Contains l k) (sym (cond-false (list_any (eq k) ks) ks (ks ++ k ∷ []) fresh)) (Contains-push ks k)
        ]

    -- whatever was put in is there
    pub all_in : (ks xs : List X) (x : X) → Contains xs x → Contains (insert_all eq ks xs) x
    all_in ks [] x c = absurd (Contains-none x c)
    all_in ks (y ∷ xs) x c =
        elim (Contains-cases y xs x c) [
          | inl same ↦ all_kept (insert_key eq ks y) xs x (subst (λ (z : X). Contains (insert_key eq ks y) z) same (key_in ks y))
          | inr later ↦ all_in (insert_key eq ks y) xs x later
        ]

pub ids_decide : (f g : FormulaId) → (same_id f g ≡ true → f ≡ g) × (f ≡ g → same_id f g ≡ true)
ids_decide f g = ((λ e. same_id_of f g (eqb-true f.0 g.0 e)), (λ e. eq-eqb f.0 g.0 (ap (λ (x : FormulaId). x.0) e)))

pub same_ids-decides : (fs gs : List FormulaId) → same_ids fs gs ≡ true → fs ≡ gs
same_ids-decides fs gs h = (pointwise_decides {E = same_id} ids_decide fs gs).0 h

cover_of_parts : (c d : Cover) → c.cube ≡ d.cube → c.next ≡ d.next → c.postponed ≡ d.postponed → c ≡ d
cover_of_parts c d p q r = λ i. record { cube = p i; next = q i; postponed = r i }

-- what it means that covers are found the same
record SameParts (c d : Cover) : Type 0 where
  must : eqb c.cube.must d.cube.must ≡ true
  none_of : eqb c.cube.not d.cube.not ≡ true
  next : same_ids c.next d.next ≡ true
  postponed : same_ids c.postponed d.postponed ≡ true

parts_of : (c d : Cover) → ((eqb c.cube.must d.cube.must && eqb c.cube.not d.cube.not) && (same_ids c.next d.next && same_ids c.postponed d.postponed)) ≡ true → SameParts c d
parts_of c d h =
    let first : ((eqb c.cube.must d.cube.must && eqb c.cube.not d.cube.not) ≡ true) × ((same_ids c.next d.next && same_ids c.postponed d.postponed) ≡ true) = and_parts _ _ h in
    let cube : (eqb c.cube.must d.cube.must ≡ true) × (eqb c.cube.not d.cube.not ≡ true) = and_parts _ _ first.0 in
    let sets : (same_ids c.next d.next ≡ true) × (same_ids c.postponed d.postponed ≡ true) = and_parts _ _ first.1 in
    record { must = cube.0; none_of = cube.1; next = sets.0; postponed = sets.1 }

same_parts : (c d : Cover) → same_cover c d ≡ true → SameParts c d
same_parts c d h = parts_of c d h

-- covers that are found the same are the same
pub same_cover-decides : (c d : Cover) → same_cover c d ≡ true → c ≡ d
same_cover-decides c d h =
    let p : SameParts c d = same_parts c d h in
    cover_of_parts c d (same_cube c.cube d.cube (eqb-true c.cube.must d.cube.must p.must) (eqb-true c.cube.not d.cube.not p.none_of)) (same_ids-decides c.next d.next p.next)
    (same_ids-decides c.postponed d.postponed p.postponed)

-- and a cover is found the same as itself
pub same_cover-itself : (c : Cover) → same_cover c c ≡ true
same_cover-itself c =
    and_from _ _ (and_from _ _ (eq-eqb c.cube.must c.cube.must refl) (eq-eqb c.cube.not c.cube.not refl)) (and_from _ _ ((pointwise_decides {E = same_id} ids_decide c.next c.next).1 refl) ((pointwise_decides {E = same_id} ids_decide c.postponed c.postponed).1 refl))
