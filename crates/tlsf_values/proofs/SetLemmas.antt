-- Sets of numbers as lists that rise.
use Rattle.std.proofs.Common.{◌≡◌, ℕ, ◌<◌, ◌≤◌, inl, inr, Bool, true, false, List, length, get_or, Result, Ok, Err, ℤ, refl, sym, ap, subst, ◌∙◌, arith}
use Rattle.std.specs.Prelude.{is_ok}
use Rattle.std.specs.declared.cmp.Ordering.TheVariants.{Less, Equal, Greater}
use Rattle.std.specs.List.{Contains, dedup}
use Rattle.std.specs.List.Sorted.{IsBinarySearchResult, IsNonDecreasingBy, IsPermutation, IsSearchInRange, IsSorted}
use Rattle.std.specs.Ordering.{int_cmp, int_eq, is_eq, ordering_index}
use Rattle.std.proofs.lemmas.Bool.{cases_eq, cases_lt}
use Rattle.std.proofs.lemmas.Int.{ints}
use Rattle.std.proofs.lemmas.Grind.{common_steps}
use Rattle.std.proofs.lemmas.Cmp.{int_cmp_total, int_eq_equiv}
use Rattle.std.proofs.lemmas.List.Kept.{Contains-dedup, Contains-from_dedup, IsStrictlySortedBy-dedup}
use Rattle.std.proofs.lemmas.List.Sorted.{list_any-IsPermutation}
use Rattle.std.proofs.lemmas.Map.Keys.{Less-from_sorted}
use Rattle.std.proofs.lemmas.Map.Views.{Contains-from_any, list_any-from_Contains}
use Rattle.std.specs.Cmp.{both_ways}
use Rattle.tlsf_values.specs.Sets.{is_in, set_of}
use Rattle.tlsf_values.proofs.RisingLemmas.{Rises, rises-set_of, same_number, set_of_same}

-- a list that is the set of its numbers rises
pub rises_from : (xs : List ℤ) → set_of xs ≡ xs → Rises xs
rises_from xs is = subst Rises is (rises-set_of xs)

pub is_set_of : (xs : List ℤ) → Rises xs → set_of xs ≡ xs
is_set_of xs rises = set_of_same xs xs rises (λ z. refl)

pub is_in-dedup : (xs : List ℤ) (z : ℤ) → is_in (dedup int_eq xs) z ≡ is_in xs z
is_in-dedup xs z =
    both_ways (is_in (dedup int_eq xs) z) (is_in xs z)
    (λ h. list_any-from_Contains int_eq_equiv z xs (Contains-from_dedup int_eq xs z (Contains-from_any same_number z (dedup int_eq xs) h)))
    (λ h. list_any-from_Contains int_eq_equiv z (dedup int_eq xs) (Contains-dedup int_eq_equiv same_number xs z (Contains-from_any same_number z xs h)))

-- numbers that were sorted, and each of which was kept once, are the set of them
pub sorted_once : (xs ys zs : List ℤ) → IsPermutation xs ys → IsSorted int_cmp ys → zs ≡ dedup int_eq ys → zs ≡ set_of xs
sorted_once xs ys zs moved sorted is =
    is ∙ sym (set_of_same xs (dedup int_eq ys) (IsStrictlySortedBy-dedup int_cmp_total (λ x y. refl) ys sorted) (λ z. list_any-IsPermutation (int_eq z) xs ys moved ∙ sym (is_in-dedup ys z)))

pub set_again : (xs ys : List ℤ) → ys ≡ set_of xs → set_of ys ≡ ys
set_again xs ys is = ap set_of is ∙ is_set_of (set_of xs) (rises-set_of xs) ∙ sym is

ranked : (a b x : ℤ) → int_cmp a b ≡ Less → ordering_index (int_cmp a x) ≤ ordering_index (int_cmp b x)
ranked a b x less = grind (arith, ints, common_steps)

-- a list that rises can be searched
searchable : (xs : List ℤ) (x : ℤ) → Rises xs → IsNonDecreasingBy (λ y. ordering_index (int_cmp y x)) xs
searchable xs x rises i j d le within =
    elim (cases_eq i j) [
      | inl same ↦ let at : ordering_index (int_cmp (get_or xs i d) x) ≡ ordering_index (int_cmp (get_or xs j d) x) = ap (λ k. ordering_index (int_cmp (get_or xs k d) x)) same in omega arith
      | inr other ↦ ranked (get_or xs i d) (get_or xs j d) x (Less-from_sorted int_cmp xs i j d rises (omega (arith, other)) within)
    ]

-- a binary search in a list that rises tells whether the number is in it
pub found_in : (xs : List ℤ) (x : ℤ) (r : Result ℕ ℕ) → Rises xs → IsSearchInRange r (length xs) → IsBinarySearchResult (λ y. int_cmp y x) xs r → is_ok r ≡ is_in xs x
found_in xs x (Ok i) rises within at =
    let equal : int_cmp (get_or xs i x) x ≡ Equal = at x in
    let is : get_or xs i x ≡ x = same_number (get_or xs i x) x (ap is_eq equal) in
    sym (list_any-from_Contains int_eq_equiv x xs (i, within, is))
found_in xs x (Err i) rises within at = absent (is_in xs x) refl
  where
    absent : (b : Bool) → is_in xs x ≡ b → false ≡ b
    absent false h = refl
    absent true h =
        let there : Contains xs x = Contains-from_any same_number x xs h in
        absurd (nowhere there.0 there.1 there.2)
      where
        nowhere : (k : ℕ) → k < length xs → get_or xs k x ≡ x → ⊥
        nowhere k inside is =
            elim (cases_lt k i) [
              | inl before ↦ let less : int_cmp (get_or xs k x) x ≡ Less = (at (searchable xs x rises)).0 k x (omega arith) before in absurd (grind (arith, ints, common_steps))
              | inr after ↦ let greater : int_cmp (get_or xs k x) x ≡ Greater = (at (searchable xs x rises)).1 k x after inside in absurd (grind (arith, ints, common_steps))
            ]
