-- The minimal elements of a list, kept as they come: one at a time.
use Rattle.std.proofs.Common.{◌≡◌, inl, inr, Bool, true, false, not, ◌&&◌, ◌||◌, cond, List, [], ◌∷◌, ◌++◌, filter, refl, sym, ◌∙◌, ap, subst}
use Rattle.std.specs.Prelude.{Contains, fold}
use Rattle.std.specs.List.{list_any}
use Rattle.std.proofs.lemmas.Bool.{and_from, and_parts, and_right, both_ways, cases_Bool, cond-false, cond-true, false_from_ne_true, not-true, not_from_false, not_from_true}
use Rattle.std.proofs.lemmas.List.{append-nil, append_assoc}
use Rattle.std.proofs.lemmas.List.Elements.{Contains-append_left, Contains-push, Contains-push_cases, filter-append}
use Rattle.std.proofs.lemmas.List.Folds.{list_any-append}
use Rattle.std.proofs.lemmas.List.Sums.{fold_push}
use Rattle.std_lemmas.proofs.Lists.{Contains-none, any_holds}
use Rattle.indexmap.specs.IndexSet.{insert_all, insert_key}
use Rattle.obligation_sets.proofs.Distinct.{all_from, any_of}
use Rattle.obligation_sets.proofs.Lists.{filter_agree_in, filter_from, filter_in, filter_twice}

neither : (a b : Bool) → not (a || (b || false)) ≡ (not a && not b)
neither true b = refl
neither false true = refl
neither false false = refl

and_no : (a b : Bool) → b ≡ false → (a && not b) ≡ a
and_no true b e = not_from_false b e
and_no false b e = refl

module _ {X : Type 0} (le : X → X → Bool) (le_refl : (x : X) → le x x ≡ true) (le_trans : (x y z : X) → le x y ≡ true → le y z ≡ true → le x z ≡ true) where
  abbrev same : X → X → Bool
  same x y = le x y && le y x

  abbrev less : X → X → Bool
  less x y = le x y && not (le y x)

  abbrev stays : List X → X → Bool
  stays come x = not (list_any (λ y. less y x) come)

  abbrev distinct : List X → List X
  distinct come = insert_all same [] come

  abbrev pub least : List X → List X
  least come = filter (stays come) (distinct come)

  abbrev pub keep : List X → X → List X
  keep kept x = cond (list_any (λ k. le k x) kept) kept (filter (λ k. not (le x k)) kept ++ x ∷ [])

  -- below an element that came
  pub record IsBelow (kept : List X) (x : X) : Type 0 where
    pub element : X
    pub there : Contains kept element
    pub below : le element x ≡ true

  pub record IsKept (come kept : List X) : Type 0 where
    pub is : kept ≡ least come
    pub below : (x : X) → Contains come x → IsBelow kept x

  come_from : (come : List X) (x : X) → Contains (distinct come) x → Contains come x
  come_from come x c = elim (all_from same [] come x c) [ inl none ↦ absurd (Contains-none x none) | inr there ↦ there ]

  stays_more : (come : List X) (c x : X) → stays (come ++ c ∷ []) x ≡ (stays come x && not (less c x))
  stays_more come c x = ap not (list_any-append (λ y. less y x) come (c ∷ [])) ∙ neither (list_any (λ y. less y x) come) (less c x)

  module _ (come kept : List X) (c : X) (known : IsKept come kept) where
    -- one that is kept asks no more than the new one
    module _ (old : IsBelow kept c) where
      among : Contains (least come) old.element
      among = subst (λ (l : List X). Contains l old.element) known.is old.there

      old_distinct : Contains (distinct come) old.element
      old_distinct = filter_from (stays come) (distinct come) old.element among

      not_above : (x : X) → stays come x ≡ true → less c x ≡ true → ⊥
      not_above x stay above =
          let parts : (le c x ≡ true) × (not (le x c) ≡ true) = and_parts (le c x) (not (le x c)) above in
          let up : le old.element x ≡ true = le_trans old.element c x old.below parts.0 in
          let back : le x old.element ≡ false = false_from_ne_true (le x old.element) (λ e. both_ways (le x c) (not-true (le x c) parts.1) (le_trans x old.element c e old.below)) in
          let under : less old.element x ≡ true = and_from (le old.element x) (not (le x old.element)) up (not_from_false (le x old.element) back) in
          both_ways (list_any (λ y. less y x) come) (not-true (list_any (λ y. less y x) come) stay)
          (any_holds (λ y. less y x) come old.element (come_from come old.element old_distinct) under)

      same_stays : (x : X) → stays (come ++ c ∷ []) x ≡ stays come x
      same_stays x =
          stays_more come c x
          ∙ elim (cases_Bool (stays come x)) [
            | inl stay ↦ and_no (stays come x) (less c x) (false_from_ne_true (less c x) (not_above x stay))
            | inr gone ↦ ap (λ b. b && not (less c x)) gone ∙ sym gone
          ]

      new_goes : list_any (same c) (distinct come) ≡ false → stays (come ++ c ∷ []) c ≡ false
      new_goes fresh =
          let back : le c old.element ≡ false =
          false_from_ne_true (le c old.element)
          (λ e. both_ways (list_any (same c) (distinct come)) fresh (any_holds (same c) (distinct come) old.element old_distinct (and_from (le c old.element) (le old.element c) e old.below))) in
          let under : less old.element c ≡ true = and_from (le old.element c) (not (le c old.element)) old.below (not_from_false (le c old.element) back) in
          same_stays c
          ∙ not_from_true (list_any (λ y. less y c) come) (any_holds (λ y. less y c) come old.element (come_from come old.element old_distinct) under)

      same_least : least (come ++ c ∷ []) ≡ least come
      same_least =
          ap (filter (stays (come ++ c ∷ []))) (fold_push (insert_key same) [] come c)
          ∙ elim (cases_Bool (list_any (same c) (distinct come))) [
            | inl there ↦ ap (filter (stays (come ++ c ∷ []))) (cond-true (list_any (same c) (distinct come)) (distinct come) (distinct come ++ c ∷ []) there)
            | inr fresh ↦
                ap (filter (stays (come ++ c ∷ []))) (cond-false (list_any (same c) (distinct come)) (distinct come) (distinct come ++ c ∷ []) fresh)
                ∙ filter-append (stays (come ++ c ∷ [])) (distinct come) (c ∷ [])
                ∙ ap (λ b. filter (stays (come ++ c ∷ [])) (distinct come) ++ cond b (c ∷ []) []) (new_goes fresh)
                ∙ append-nil (filter (stays (come ++ c ∷ [])) (distinct come))
          ]
          ∙ filter_agree_in (stays (come ++ c ∷ [])) (stays come) (distinct come) (λ x _. same_stays x)

      left_out : IsKept (come ++ c ∷ []) (keep kept c)
      left_out =
          let there : list_any (λ j. le j c) kept ≡ true = any_holds (λ j. le j c) kept old.element old.there old.below in
          let same_kept : keep kept c ≡ kept = cond-true (list_any (λ j. le j c) kept) kept (filter (λ j. not (le c j)) kept ++ c ∷ []) there in
          subst (IsKept (come ++ c ∷ [])) (sym same_kept) (record {
            is = known.is ∙ sym same_least;
            below = λ x there. elim (Contains-push_cases come c x there) [ inl before ↦ known.below x before | inr this ↦ subst (IsBelow kept) this old ];
          })

    -- none that is kept asks no more
    module _ (none : list_any (λ j. le j c) kept ≡ false) where
      none_below : (x : X) → Contains come x → le x c ≡ false
      none_below x there =
          let b : IsBelow kept x = known.below x there in
          false_from_ne_true (le x c) (λ e. both_ways (list_any (λ j. le j c) kept) none (any_holds (λ j. le j c) kept b.element b.there (le_trans b.element x c b.below e)))

      fresh : list_any (same c) (distinct come) ≡ false
      fresh =
          false_from_ne_true (list_any (same c) (distinct come))
          (λ e.
          let found : (y : X) × Contains (distinct come) y × (same c y ≡ true) = any_of (same c) (distinct come) e in
          both_ways (le found.0 c) (none_below found.0 (come_from come found.0 found.1)) (and_parts (le c found.0) (le found.0 c) found.2).1)

      new_stays : stays (come ++ c ∷ []) c ≡ true
      new_stays =
          stays_more come c c
          ∙ and_from (stays come c) (not (less c c))
          (not_from_false (list_any (λ y. less y c) come) (false_from_ne_true (list_any (λ y. less y c) come)
          (λ e.
          let found : (y : X) × Contains come y × (less y c ≡ true) = any_of (λ y. less y c) come e in
          both_ways (le found.0 c) (none_below found.0 found.1) (and_parts (le found.0 c) (not (le c found.0)) found.2).0)))
          (not_from_false (less c c) (and_right (le c c) (not (le c c)) (not_from_true (le c c) (le_refl c))))

      fewer_stay : (x : X) → Contains (distinct come) x → stays (come ++ c ∷ []) x ≡ (stays come x && not (le c x))
      fewer_stay x there = stays_more come c x ∙ ap (λ b. stays come x && not b) (and_no (le c x) (le x c) (none_below x (come_from come x there)))

      more_least : least (come ++ c ∷ []) ≡ filter (λ j. not (le c j)) kept ++ c ∷ []
      more_least =
          ap (filter (stays (come ++ c ∷ []))) (fold_push (insert_key same) [] come c ∙ cond-false (list_any (same c) (distinct come)) (distinct come) (distinct come ++ c ∷ []) fresh)
          ∙ filter-append (stays (come ++ c ∷ [])) (distinct come) (c ∷ [])
          ∙ ap (λ b. filter (stays (come ++ c ∷ [])) (distinct come) ++ cond b (c ∷ []) []) new_stays
          ∙ ap (λ l. l ++ c ∷ [])
          (filter_agree_in (stays (come ++ c ∷ [])) (λ x. stays come x && not (le c x)) (distinct come) fewer_stay
          ∙ sym (filter_twice (stays come) (λ j. not (le c j)) (distinct come))
          ∙ ap (filter (λ j. not (le c j))) (sym known.is))

      new_kept : keep kept c ≡ filter (λ j. not (le c j)) kept ++ c ∷ []
      new_kept = cond-false (list_any (λ j. le j c) kept) kept (filter (λ j. not (le c j)) kept ++ c ∷ []) none

      below_more : (x : X) → Contains (come ++ c ∷ []) x → IsBelow (filter (λ j. not (le c j)) kept ++ c ∷ []) x
      below_more x there =
          elim (Contains-push_cases come c x there) [
            | inr this ↦ record { element = c; there = Contains-push (filter (λ j. not (le c j)) kept) c; below = subst (λ (z : X). le c z ≡ true) this (le_refl c) }
            | inl before ↦
                let b : IsBelow kept x = known.below x before in
                elim (cases_Bool (le c b.element)) [
                  | inl over ↦ record { element = c; there = Contains-push (filter (λ j. not (le c j)) kept) c; below = le_trans c b.element x over b.below }
                  | inr apart ↦ record {
                    element = b.element;
                    there = Contains-append_left (filter (λ j. not (le c j)) kept) (c ∷ []) b.element (filter_in (λ j. not (le c j)) kept b.element b.there (not_from_false (le c b.element) apart));
                    below = b.below;
                  }
                ]
          ]

      put_in : IsKept (come ++ c ∷ []) (keep kept c)
      put_in = subst (IsKept (come ++ c ∷ [])) (sym new_kept) (record { is = sym more_least; below = below_more })

    kept_more : IsKept (come ++ c ∷ []) (keep kept c)
    kept_more =
        elim (cases_Bool (list_any (λ j. le j c) kept)) [
          | inl there ↦
              let found : (y : X) × Contains kept y × (le y c ≡ true) = any_of (λ j. le j c) kept there in
              left_out (record { element = found.0; there = found.1; below = found.2 })
          | inr none ↦ put_in none
        ]

  kept_all : (come kept rest : List X) → IsKept come kept → IsKept (come ++ rest) (fold keep kept rest)
  kept_all come kept [] known = subst (λ (l : List X). IsKept l kept) (sym (append-nil come)) known
  kept_all come kept (c ∷ rest) known =
      subst (λ (l : List X). IsKept l (fold keep kept (c ∷ rest))) (append_assoc come (c ∷ []) rest)
      (kept_all (come ++ c ∷ []) (keep kept c) rest (kept_more come kept c known))

  -- what is kept once all have come: the least ones, and below each that came there is one
  pub kept : (come : List X) → IsKept come (fold keep [] come)
  kept come = kept_all [] [] come (record { is = refl; below = λ x none. absurd (Contains-none x none) })
