use Rattle.std.proofs.Common.{◌≡◌, ℕ, zero, suc, ◌+◌, ◌<◌, Bool, true, false, ◌⊎◌, inl, inr, Option, Some, List, [], ◌∷◌, ◌++◌, map, take, get_or, slice_get, length, length-append, Contains, All, refl, sym, subst, ap, ◌∙◌, arith, append_assoc}
use Rattle.std.specs.List.{list_any}
use Rattle.std.proofs.lemmas.Bool.{false≢true}
use Rattle.std.proofs.lemmas.List.{get_or-map, get_or_append_left, length-map}
use Rattle.std.proofs.lemmas.List.Folds.{list_any-from_Any}
use Rattle.std.proofs.lemmas.List.Elements.{All-head, All-tail, Contains-append_right, Contains-get_or}
use Rattle.std.proofs.lemmas.Option.{get_or_from_slice_get, slice_get_within}

-- ---- what is in a list

pub Contains-head : {X : Type 0} (x : X) (xs : List X) → Contains (x ∷ xs) x
Contains-head x xs = (0, omega arith, refl)

pub Contains-later : {X : Type 0} (x : X) (xs : List X) (y : X) → Contains xs y → Contains (x ∷ xs) y
Contains-later x xs y h = Contains-append_right (x ∷ []) xs y h

pub Contains-none : {X : Type 0} (y : X) → Contains [] y → ⊥
Contains-none y h = omega (arith, h.1)

pub Contains-cases : {X : Type 0} (x : X) (xs : List X) (y : X) → Contains (x ∷ xs) y → (x ≡ y) ⊎ Contains xs y
Contains-cases x xs y h = by h.0 h.1 h.2
  where
    by : (k : ℕ) → k < length (x ∷ xs) → get_or (x ∷ xs) k y ≡ y → (x ≡ y) ⊎ Contains xs y
    by zero l e = inl e
    by (suc k) l e = inr (k, omega arith, e)

-- a function of an element is in the list of its values
pub Contains-map : {X Y : Type 0} (f : X → Y) (xs : List X) (x : X) → Contains xs x → Contains (map f xs) (f x)
Contains-map f xs x there = (there.0, rw length-map there.1, get_or-map f xs there.0 x (f x) there.1 ∙ ap f there.2)

pub Contains-slice_get : {X : Type 0} (xs : List X) (i : ℕ) (x : X) → slice_get xs i ≡ Some x → Contains xs x
Contains-slice_get xs i x h = (i, slice_get_within xs i x h, get_or_from_slice_get xs i x x h)

-- a test that an element passes finds some
pub any_holds : {X : Type 0} (p : X → Bool) (xs : List X) (x : X) → Contains xs x → p x ≡ true → list_any p xs ≡ true
any_holds p xs x c e = list_any-from_Any p xs (c.0, x, c.1, c.2, e)

-- what holds of each contained element holds of all
pub All-from_contains : {X : Type 0} (P : X → Type 0) (xs : List X) → ((x : X) → Contains xs x → P x) → All P xs
All-from_contains P xs h k d l = h (get_or xs k d) (Contains-get_or xs k d l)

-- the front of a list keeps what holds of all
pub All-front : {X : Type 0} (P : X → Type 0) (xs ys : List X) → All P (xs ++ ys) → All P xs
All-front P xs ys h k d l =
    let len : length (xs ++ ys) ≡ length xs + length ys = length-append xs ys in
    subst P (get_or_append_left xs ys d k l) (h k d (omega arith))

-- functions that agree on each element give the same list
pub map-All : {X Y : Type 0} (f g : X → Y) (xs : List X) → All (λ x. f x ≡ g x) xs → map f xs ≡ map g xs
map-All f g [] same = refl
map-All f g (x ∷ xs) same =
    let first : f x ≡ g x = All-head (λ x. f x ≡ g x) x xs same in
    let others : map f xs ≡ map g xs = map-All f g xs (All-tail (λ x. f x ≡ g x) x xs same) in
    λ i. first i ∷ others i

-- ---- places

-- an element keeps its place when the list grows
pub slice_get-append : {X : Type 0} (xs ys : List X) (i : ℕ) (x : X) → slice_get xs i ≡ Some x → slice_get (xs ++ ys) i ≡ Some x
slice_get-append [] ys i x h = absurd (cc)
slice_get-append (a ∷ xs) ys zero x h = h
slice_get-append (a ∷ xs) ys (suc i) x h = slice_get-append xs ys i x h

-- a place of a list with one more element is an old one or the last
pub slice_get-push : {X : Type 0} (xs : List X) (y : X) (i : ℕ) (x : X) → slice_get (xs ++ y ∷ []) i ≡ Some x
    → (slice_get xs i ≡ Some x) ⊎ ((i ≡ length xs) × (y ≡ x))
slice_get-push [] y zero x h = inr (refl, cc)
slice_get-push [] y (suc i) x h = absurd (cc)
slice_get-push (a ∷ xs) y zero x h = inl h
slice_get-push (a ∷ xs) y (suc i) x h =
    elim (slice_get-push xs y i x h) [ inl e ↦ inl e | inr p ↦ inr (ap suc p.0, p.1) ]

-- a place among the first ones
pub slice_get-take : {X : Type 0} (n : ℕ) (xs : List X) (i : ℕ) (x : X) → slice_get (take n xs) i ≡ Some x → slice_get xs i ≡ Some x
slice_get-take zero xs i x h = absurd (cc)
slice_get-take (suc n) [] i x h = absurd (cc)
slice_get-take (suc n) (y ∷ xs) zero x h = h
slice_get-take (suc n) (y ∷ xs) (suc i) x h = slice_get-take n xs i x h

-- where a flag is set there is one
pub flag_within : (flags : List Bool) (q : ℕ) → get_or flags q false ≡ true → q < length flags
flag_within [] q e = absurd (false≢true e)
flag_within (b ∷ flags) zero e = omega arith
flag_within (b ∷ flags) (suc q) e = let h : q < length flags = flag_within flags q e in omega arith

-- ---- counts and parts

-- as many places as names, where each place has its name
pub as_many : {X : Type 0} (places : List (Option X)) (names : List X) (n : ℕ) → length places ≡ n → places ≡ map Some names → n ≡ length names
as_many places names n count same = sym count ∙ ap length same ∙ length-map names Some

-- what is written part by part behind something
pub two_parts : {X : Type 0} (old a b first second : List X) → first ≡ old ++ a → second ≡ first ++ b → second ≡ old ++ (a ++ b)
two_parts {X} old a b first second e f = f ∙ ap (λ (t : List X). t ++ b) e ∙ append_assoc old a b

pub three_parts : {X : Type 0} (old a b d first second third : List X) → first ≡ old ++ a → second ≡ first ++ b → third ≡ second ++ d → third ≡ old ++ (a ++ (b ++ d))
three_parts {X} old a b d first second third e f g =
    g ∙ ap (λ (t : List X). t ++ d) (two_parts old a b first second e f) ∙ append_assoc old (a ++ b) d
    ∙ ap (λ (t : List X). old ++ t) (append_assoc a b d)
