-- Elements of lists by their places.
use Rattle.std.proofs.Common.{◌≡◌, ◌≢◌, ℕ, suc, zero, ◌+◌, ◌-◌, ◌<◌, ◌≤◌, ◌⊎◌, inl, inr, List, [], ◌∷◌, ◌++◌, Some, take, drop, set, get_or, slice_get, replicate, length, length-append, Contains, All, refl, subst, ap, ◌∙◌, arith}
use Rattle.std.specs.Prelude.{AllPairs}
use Rattle.std.proofs.lemmas.List.{get_or_append_left, get_or-set_same, length-set, length_push, get_or_push, take_all}
use Rattle.std.proofs.lemmas.List.Elements.{Contains-append_left, Contains-append_right}
use Rattle.std.proofs.lemmas.Option.{slice_get_within, slice_get-get_or, get_or_from_slice_get}
use Rattle.std_lemmas.proofs.Lists.{Contains-slice_get}

pub slice_get-Contains : {X : Type 0} (xs : List X) (x : X) → Contains xs x → (i : ℕ) × (slice_get xs i ≡ Some x)
slice_get-Contains xs x h = (h.0, slice_get-get_or xs h.0 x h.1 ∙ ap Some h.2)

-- what holds of each element holds at a place
pub All-slice_get : {X : Type 0} (P : X → Type 0) (xs : List X) (i : ℕ) (x : X) → All P xs → slice_get xs i ≡ Some x → P x
All-slice_get P xs i x h e = subst P (get_or_from_slice_get xs i x x e) (h i x (slice_get_within xs i x e))

pub All-from_slice_get : {X : Type 0} (P : X → Type 0) (xs : List X) → ((i : ℕ) (x : X) → slice_get xs i ≡ Some x → P x) → All P xs
All-from_slice_get P xs h k d l = h k (get_or xs k d) (slice_get-get_or xs k d l)

pub AllPairs-slice_get : {X : Type 0} (R : X → X → Type 0) (xs : List X) (i j : ℕ) (x y : X) → AllPairs R xs → i < j → slice_get xs i ≡ Some x → slice_get xs j ≡ Some y → R x y
AllPairs-slice_get R xs i j x y h l p q =
    subst (λ z. R x z) (get_or_from_slice_get xs j y x q)
    (subst (λ z. R z (get_or xs j x)) (get_or_from_slice_get xs i x x p) (h i j x l (slice_get_within xs j y q)))

pub AllPairs-front : {X : Type 0} (R : X → X → Type 0) (xs ys : List X) → AllPairs R (xs ++ ys) → AllPairs R xs
AllPairs-front R xs ys h i j d l m =
    let len : length (xs ++ ys) ≡ length xs + length ys = length-append xs ys in
    let lt : i < length xs = omega arith in
    subst (λ z. R z (get_or xs j d)) (get_or_append_left xs ys d i lt)
    (subst (λ z. R (get_or (xs ++ ys) i d) z) (get_or_append_left xs ys d j m) (h i j d l (omega arith)))

-- each element of the front and the last one
pub AllPairs-last : {X : Type 0} (R : X → X → Type 0) (xs : List X) (y : X) → AllPairs R (xs ++ y ∷ []) → All (λ x. R x y) xs
AllPairs-last R xs y h k d l =
    let len : length (xs ++ y ∷ []) ≡ length xs + 1 = length_push xs y in
    subst (λ z. R z y) (get_or_append_left xs (y ∷ []) d k l)
    (subst (λ z. R (get_or (xs ++ y ∷ []) k d) z) (get_or_push xs y d (length xs) refl) (h k (length xs) d l (omega arith)))

-- the last element of a list with one more
pub slice_get-last : {X : Type 0} (xs : List X) (y : X) → slice_get (xs ++ y ∷ []) (length xs) ≡ Some y
slice_get-last [] y = refl
slice_get-last (x ∷ xs) y = slice_get-last xs y

-- a place of the front
pub slice_get-front : {X : Type 0} (xs ys : List X) (i : ℕ) → i < length xs → slice_get (xs ++ ys) i ≡ slice_get xs i
slice_get-front [] ys i h = absurd (omega arith)
slice_get-front (x ∷ xs) ys zero h = refl
slice_get-front (x ∷ xs) ys (suc i) h = slice_get-front xs ys i (omega arith)

-- after a write
pub slice_get-set_same : {X : Type 0} (xs : List X) (i : ℕ) (y : X) → i < length xs → slice_get (set xs i y) i ≡ Some y
slice_get-set_same xs i y h =
    let len : length (set xs i y) ≡ length xs = length-set xs i y in
    slice_get-get_or (set xs i y) i y (omega arith) ∙ ap Some (get_or-set_same xs i y y h)

pub slice_get-set_other : {X : Type 0} (xs : List X) (i j : ℕ) (y : X) → j ≢ i → slice_get (set xs i y) j ≡ slice_get xs j
slice_get-set_other [] i j y n = refl
slice_get-set_other (x ∷ xs) zero zero y n = absurd (n refl)
slice_get-set_other (x ∷ xs) zero (suc j) y n = refl
slice_get-set_other (x ∷ xs) (suc i) zero y n = refl
slice_get-set_other (x ∷ xs) (suc i) (suc j) y n = slice_get-set_other xs i j y (λ e. n (ap suc e))

pub slice_get-replicate : {X : Type 0} (n : ℕ) (y : X) (i : ℕ) (x : X) → slice_get (replicate n y) i ≡ Some x → x ≡ y
slice_get-replicate zero y i x h = absurd (cc)
slice_get-replicate (suc n) y zero x h = cc
slice_get-replicate (suc n) y (suc i) x h = slice_get-replicate n y i x h

pub All-to_end : {X : Type 0} (P : X → Type 0) (xs : List X) (i : ℕ) → length xs ≤ i → All P (take i xs) → All P xs
All-to_end P xs i h a = subst (All P) (take_all i xs h) a

-- a place of the first elements, and one of those behind them
pub slice_get-within_take : {X : Type 0} (n : ℕ) (xs : List X) (i : ℕ) (x : X) → i < n → slice_get xs i ≡ Some x → slice_get (take n xs) i ≡ Some x
slice_get-within_take zero xs i x lt h = absurd (omega arith)
slice_get-within_take (suc n) [] i x lt h = absurd (cc)
slice_get-within_take (suc n) (y ∷ xs) zero x lt h = h
slice_get-within_take (suc n) (y ∷ xs) (suc i) x lt h = slice_get-within_take n xs i x (omega arith) h

pub slice_get-within_drop : {X : Type 0} (n : ℕ) (xs : List X) (i : ℕ) (x : X) → n ≤ i → slice_get xs i ≡ Some x → slice_get (drop n xs) (i - n) ≡ Some x
slice_get-within_drop zero xs i x le h = let e : i - 0 ≡ i = omega arith in ap (slice_get xs) e ∙ h
slice_get-within_drop (suc n) [] i x le h = absurd (cc)
slice_get-within_drop (suc n) (y ∷ xs) zero x le h = absurd (omega arith)
slice_get-within_drop (suc n) (y ∷ xs) (suc i) x le h = let e : suc i - suc n ≡ i - n = omega arith in ap (slice_get (drop n xs)) e ∙ slice_get-within_drop n xs i x (omega arith) h

-- the same after a part is taken out
pub Contains-cut : {X : Type 0} (xs : List X) (from to i : ℕ) (x : X) → (i < from) ⊎ (to ≤ i) → slice_get xs i ≡ Some x → Contains (take from xs ++ drop to xs) x
Contains-cut xs from to i x (inl lt) h = Contains-append_left (take from xs) (drop to xs) x (Contains-slice_get (take from xs) i x (slice_get-within_take from xs i x lt h))
Contains-cut xs from to i x (inr le) h = Contains-append_right (take from xs) (drop to xs) x (Contains-slice_get (drop to xs) (i - to) x (slice_get-within_drop to xs i x le h))
