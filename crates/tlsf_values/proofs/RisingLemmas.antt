-- Lists of numbers that rise strictly are the same where the same numbers are in them.
use Rattle.std.proofs.Common.{◌≡◌, Bool, true, false, ◌||◌, ◌&&◌, List, [], ◌∷◌, filter, ℤ, refl, sym, ap, subst, ◌∙◌, arith}
use Rattle.std.specs.declared.cmp.Ordering.{Ordering}
use Rattle.std.specs.declared.cmp.Ordering.TheVariants.{Less, Equal, Greater}
use Rattle.std.specs.BTreeSet.{insert_key}
use Rattle.std.specs.Cmp.{int_cmp_is}
use Rattle.std.specs.List.{AllByRecursion}
use Rattle.std.specs.List.Sorted.{IsStrictlySortedBy}
use Rattle.std.specs.Ordering.{int_cmp, int_eq, is_eq, match_ordering, ordering_reverse}
use Rattle.std.proofs.lemmas.Bool.Decides.{Decides-int_eq}
use Rattle.std.proofs.lemmas.Grind.{common_steps}
use Rattle.std.proofs.lemmas.Int.{ints}
use Rattle.std.proofs.lemmas.Cmp.{int_cmp_total, int_eq_equiv}
use Rattle.std.proofs.lemmas.List.Kept.{IsStrictlySortedBy-filter}
use Rattle.std.proofs.lemmas.Map.Lookups.{exact_signed}
use Rattle.std.proofs.lemmas.Map.Made.{alike_from_same, is_member-filter}
use Rattle.tlsf_values.specs.Sets.{is_in, union, set_of}

abbrev pub Rises : List ℤ → Type 0
Rises xs = IsStrictlySortedBy int_cmp xs

abbrev pub Above : ℤ → List ℤ → Type 0
Above x ys = AllByRecursion (λ y. int_cmp x y ≡ Less) ys

cmp-self : (x : ℤ) → int_cmp x x ≡ Equal
cmp-self x = sym (int_cmp_is x x Equal refl)

pub eq-self : (x : ℤ) → int_eq x x ≡ true
eq-self x = ap is_eq (cmp-self x)

pub same_number : (x y : ℤ) → int_eq x y ≡ true → x ≡ y
same_number x y h = (Decides-int_eq x y).0 h

pub above-is_in : (x : ℤ) (ys : List ℤ) (z : ℤ) → Above x ys → is_in ys z ≡ true → int_cmp x z ≡ Less
above-is_in x [] z a h = absurd cc
above-is_in x (y ∷ ys) z a h = by (int_eq z y) refl (above-is_in x ys z a.1) h
  where
    by : (b : Bool) → int_eq z y ≡ b → (is_in ys z ≡ true → int_cmp x z ≡ Less) → (b || is_in ys z) ≡ true → int_cmp x z ≡ Less
    by true e further k = subst (λ w. int_cmp x w ≡ Less) (sym (same_number z y e)) a.0
    by false e further k = further k

pub above-not_in : (x : ℤ) (ys : List ℤ) → Above x ys → is_in ys x ≡ false
above-not_in x ys a = by (is_in ys x) refl
  where
    by : (b : Bool) → is_in ys x ≡ b → b ≡ false
    by true e = let less : int_cmp x x ≡ Less = above-is_in x ys x a e in absurd (grind (arith, ints, common_steps))
    by false e = refl

-- the first of the one isn't below the first of the other
not_below : (x y : ℤ) (xs ys : List ℤ) → Above y ys → is_in (x ∷ xs) x ≡ is_in (y ∷ ys) x → int_cmp x y ≡ Less → ⊥
not_below x y xs ys a same less = by (int_eq x y) refl (sym same ∙ ap (λ b. b || is_in xs x) (eq-self x))
  where
    by : (b : Bool) → int_eq x y ≡ b → (b || is_in ys x) ≡ true → ⊥
    by true e k = absurd (grind (arith, ints, common_steps))
    by false e k = let above : int_cmp y x ≡ Less = above-is_in y ys x a k in absurd (grind (arith, ints, common_steps))

pub same_rising : (xs ys : List ℤ) → Rises xs → Rises ys → ((z : ℤ) → is_in xs z ≡ is_in ys z) → xs ≡ ys
unfolding IsStrictlySortedBy
same_rising [] [] r s same = refl
same_rising [] (y ∷ ys) r s same = let there : (int_eq y y || is_in ys y) ≡ true = ap (λ b. b || is_in ys y) (eq-self y) in let absent : false ≡ (int_eq y y || is_in ys y) = same y in absurd cc
same_rising (x ∷ xs) [] r s same = let there : (int_eq x x || is_in xs x) ≡ true = ap (λ b. b || is_in xs x) (eq-self x) in let absent : (int_eq x x || is_in xs x) ≡ false = same x in absurd cc
same_rising (x ∷ xs) (y ∷ ys) r s same =
    let first : x ≡ y = by (int_cmp x y) refl in
    subst (λ w. x ∷ xs ≡ w ∷ ys) first (ap (λ l. x ∷ l) (same_rising xs ys r.1 s.1 (λ z. rest z first)))
  where
    by : (o : Ordering) → int_cmp x y ≡ o → x ≡ y
    by Less e = absurd (not_below x y xs ys s.0 (same x) e)
    by Equal e = exact_signed x y e
    by Greater e = absurd (not_below y x ys xs r.0 (sym (same y)) (int_cmp_total.antisymm y x ∙ ap ordering_reverse e))

    rest_by : (z : ℤ) (b : Bool) → int_eq z x ≡ b → x ≡ y → is_in xs z ≡ is_in ys z
    rest_by z true e first =
        let is_x : z ≡ x = same_number z x e in
        let is_y : z ≡ y = is_x ∙ first in
        ap (is_in xs) is_x ∙ above-not_in x xs r.0 ∙ sym (ap (is_in ys) is_y ∙ above-not_in y ys s.0)
    rest_by z false e first =
        let there : (int_eq z x || is_in xs z) ≡ (int_eq z y || is_in ys z) = same z in
        let other : int_eq z y ≡ false = ap (int_eq z) (sym first) ∙ e in
        sym (ap (λ b. b || is_in xs z) e) ∙ there ∙ ap (λ b. b || is_in ys z) other

    rest : (z : ℤ) → x ≡ y → is_in xs z ≡ is_in ys z
    rest z first = rest_by z (int_eq z x) refl first

or_again : (a b : Bool) → (a || b) ≡ (a || (a || b))
or_again a b = grind (arith, common_steps)

or_turn : (a b c : Bool) → (a || (b || c)) ≡ (b || (a || c))
or_turn a b c = grind (arith, common_steps)

is_in-insert_key : (xs : List ℤ) (k z : ℤ) → is_in (insert_key int_cmp xs k) z ≡ (int_eq z k || is_in xs z)
is_in-insert_key [] k z = refl
is_in-insert_key (x ∷ xs) k z = by (int_cmp k x) refl (is_in-insert_key xs k z)
  where
    by : (o : Ordering) → int_cmp k x ≡ o → is_in (insert_key int_cmp xs k) z ≡ (int_eq z k || is_in xs z)
        → is_in (match_ordering o (k ∷ x ∷ xs) (x ∷ xs) (x ∷ insert_key int_cmp xs k)) z ≡ (int_eq z k || (int_eq z x || is_in xs z))
    by Less e h = refl
    by Equal e h = or_again (int_eq z x) (is_in xs z) ∙ ap (λ w. int_eq z w || (int_eq z x || is_in xs z)) (sym (exact_signed k x e))
    by Greater e h = ap (λ b. int_eq z x || b) h ∙ or_turn (int_eq z x) (int_eq z k) (is_in xs z)

above-insert_key : (x : ℤ) (ys : List ℤ) (k : ℤ) → Above x ys → int_cmp x k ≡ Less → Above x (insert_key int_cmp ys k)
above-insert_key x [] k a h = (h, tt)
above-insert_key x (y ∷ ys) k a h = by (int_cmp k y) (above-insert_key x ys k a.1 h)
  where
    by : (o : Ordering) → Above x (insert_key int_cmp ys k) → Above x (match_ordering o (k ∷ y ∷ ys) (y ∷ ys) (y ∷ insert_key int_cmp ys k))
    by Less g = (h, a)
    by Equal g = a
    by Greater g = (a.0, g)

pub above-below : (x y : ℤ) (ys : List ℤ) → int_cmp x y ≡ Less → Above y ys → Above x ys
above-below x y [] h a = tt
above-below x y (z ∷ zs) h a = (int_cmp_total.trans x y z h a.0, above-below x y zs h a.1)

rises-insert_key : (xs : List ℤ) (k : ℤ) → Rises xs → Rises (insert_key int_cmp xs k)
unfolding IsStrictlySortedBy
rises-insert_key [] k r = (tt, tt)
rises-insert_key (x ∷ xs) k r = by (int_cmp k x) refl (rises-insert_key xs k r.1)
  where
    by : (o : Ordering) → int_cmp k x ≡ o → Rises (insert_key int_cmp xs k) → Rises (match_ordering o (k ∷ x ∷ xs) (x ∷ xs) (x ∷ insert_key int_cmp xs k))
    by Less e g = ((e, above-below k x xs e r.0), r)
    by Equal e g = r
    by Greater e g = (above-insert_key x xs k r.0 (int_cmp_total.antisymm x k ∙ ap ordering_reverse e), g)

pub is_in-union : (xs ys : List ℤ) (z : ℤ) → is_in (union xs ys) z ≡ (is_in xs z || is_in ys z)
is_in-union xs [] z = grind (arith, common_steps)
is_in-union xs (y ∷ ys) z =
    let more : is_in (union (insert_key int_cmp xs y) ys) z ≡ (is_in (insert_key int_cmp xs y) z || is_in ys z) = is_in-union (insert_key int_cmp xs y) ys z in
    let first : is_in (insert_key int_cmp xs y) z ≡ (int_eq z y || is_in xs z) = is_in-insert_key xs y z in
    rw (more, first) (grind (arith, common_steps))

pub rises-union : (xs ys : List ℤ) → Rises xs → Rises (union xs ys)
rises-union xs [] r = r
rises-union xs (y ∷ ys) r = rises-union (insert_key int_cmp xs y) ys (rises-insert_key xs y r)

pub is_in-set_of : (xs : List ℤ) (z : ℤ) → is_in (set_of xs) z ≡ is_in xs z
is_in-set_of xs z = is_in-union [] xs z

pub rises-set_of : (xs : List ℤ) → Rises (set_of xs)
unfolding IsStrictlySortedBy
rises-set_of xs = rises-union [] xs tt

pub is_in-filter : (p : ℤ → Bool) (xs : List ℤ) (z : ℤ) → is_in (filter p xs) z ≡ (is_in xs z && p z)
is_in-filter p xs z = is_member-filter int_eq_equiv p z (alike_from_same Decides-int_eq p z) xs

pub rises-filter : (p : ℤ → Bool) (xs : List ℤ) → Rises xs → Rises (filter p xs)
rises-filter p xs r = IsStrictlySortedBy-filter int_cmp p xs r

-- a list that rises is the set of any list that has the same numbers
pub set_of_same : (xs ys : List ℤ) → Rises ys → ((z : ℤ) → is_in xs z ≡ is_in ys z) → set_of xs ≡ ys
set_of_same xs ys r same = same_rising (set_of xs) ys (rises-set_of xs) r (λ z. is_in-set_of xs z ∙ same z)
