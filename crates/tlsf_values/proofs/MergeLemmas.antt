-- What an operator keeps of two lists that rise, one number after the other.
use Rattle.std.proofs.Common.{◌≡◌, Bool, true, false, cond, ◌||◌, ◌&&◌, List, [], ◌∷◌, ◌++◌, Some, ℤ, refl, sym, ap, subst, ◌∙◌, arith}
use Rattle.std.specs.Prelude.{if◌then◌else◌, int_lt}
use Rattle.std.specs.declared.cmp.Ordering.{Ordering}
use Rattle.std.specs.declared.cmp.Ordering.TheVariants.{Less, Equal, Greater}
use Rattle.std.specs.List.Sorted.{IsStrictlySortedBy}
use Rattle.std.specs.Ordering.{int_cmp, int_eq, is_eq}
use Rattle.std.proofs.lemmas.Int.{ints}
use Rattle.std.proofs.lemmas.Grind.{common_steps}
use Rattle.std.proofs.lemmas.List.{append_assoc}
use Rattle.std.proofs.lemmas.Bool.{or_right}
use Rattle.tlsf_values.specs.declared.set_operation.SetOperation.{SetOperation}
use Rattle.tlsf_values.specs.declared.set_operation.SetOperation.TheVariants.{Join, Meet, Difference}
use Rattle.tlsf_values.specs.SetOperations.{behind, combined, first_of, is_first, keeps}
use Rattle.tlsf_values.specs.Sets.{is_in}
use Rattle.tlsf_values.proofs.RisingLemmas.{Above, Rises, above-below, above-is_in, above-not_in, eq-self, is_in-filter, is_in-union, rises-filter, rises-union, same_number, same_rising}

is_in-combined : (o : SetOperation) (xs ys : List ℤ) (z : ℤ) → is_in (combined o xs ys) z ≡ keeps o (is_in xs z) (is_in ys z)
is_in-combined Join xs ys z = is_in-union xs ys z
is_in-combined Meet xs ys z = is_in-filter _ xs z
is_in-combined Difference xs ys z = is_in-filter _ xs z

pub rises-combined : (o : SetOperation) (xs ys : List ℤ) → Rises xs → Rises (combined o xs ys)
rises-combined Join xs ys r = rises-union xs ys r
rises-combined Meet xs ys r = rises-filter _ xs r
rises-combined Difference xs ys r = rises-filter _ xs r

-- the number isn't above the first one
abbrev AtMost : ℤ → List ℤ → Type 0
AtMost z [] = Unit {0}
AtMost z (x ∷ xs) = int_lt x z ≡ false

at_most : (xs ys : List ℤ) (z : ℤ) → first_of xs ys ≡ Some z → AtMost z xs × AtMost z ys
at_most [] [] z is = absurd cc
at_most (x ∷ xs) [] z is = (grind (arith, ints, common_steps), tt)
at_most [] (y ∷ ys) z is = (tt, grind (arith, ints, common_steps))
at_most (x ∷ xs) (y ∷ ys) z is = (grind (arith, ints, common_steps), grind (arith, ints, common_steps))

-- what is left behind the number is above it
above-behind : (z : ℤ) (xs : List ℤ) → Rises xs → AtMost z xs → Above z (behind z xs)
unfolding IsStrictlySortedBy
above-behind z [] r h = tt
above-behind z (x ∷ xs) r h = by (int_cmp z x) refl
  where
    by : (o : Ordering) → int_cmp z x ≡ o → Above z (if is_eq o then xs else x ∷ xs)
    by Less e = (e, above-below z x xs e r.0)
    by Equal e = subst (λ w. Above w xs) (sym (same_number z x (ap is_eq e))) r.0
    by Greater e = absurd (grind (arith, ints, common_steps))

pub rises-behind : (z : ℤ) (xs : List ℤ) → Rises xs → Rises (behind z xs)
unfolding IsStrictlySortedBy
rises-behind z [] r = r
rises-behind z (x ∷ xs) r = by (int_eq z x)
  where
    by : (b : Bool) → Rises (if b then xs else x ∷ xs)
    by true = r.1
    by false = r

is_in-behind : (z : ℤ) (xs : List ℤ) (w : ℤ) → is_in xs w ≡ ((is_first z xs && int_eq w z) || is_in (behind z xs) w)
is_in-behind z [] w = refl
is_in-behind z (x ∷ xs) w = by (int_eq z x) refl
  where
    by : (b : Bool) → int_eq z x ≡ b → (int_eq w x || is_in xs w) ≡ ((b && int_eq w z) || is_in (if b then xs else x ∷ xs) w)
    by true e = ap (λ y. int_eq w y || is_in xs w) (sym (same_number z x e))
    by false e = refl

-- whether a number is kept, by whether it is the first one (e), and whether the rests have it (p and q)
keeps-first : (o : SetOperation) (a b e p q : Bool) → (e ≡ true → p ≡ false) → (e ≡ true → q ≡ false) → keeps o ((a && e) || p) ((b && e) || q) ≡ ((keeps o a b && e) || keeps o p q)
keeps-first o a b false p q f g = by o a b
  where
    by : (o : SetOperation) (a b : Bool) → keeps o ((a && false) || p) ((b && false) || q) ≡ ((keeps o a b && false) || keeps o p q)
    by Join a b = grind (arith, common_steps)
    by Meet a b = grind (arith, common_steps)
    by Difference a b = grind (arith, common_steps)
keeps-first o a b true p q f g = rw (f refl, g refl) (by o a b)
  where
    by : (o : SetOperation) (a b : Bool) → keeps o ((a && true) || false) ((b && true) || false) ≡ ((keeps o a b && true) || keeps o false false)
    by Join a b = grind (arith, common_steps)
    by Meet a b = grind (arith, common_steps)
    by Difference a b = grind (arith, common_steps)

above-all : (z : ℤ) (ys : List ℤ) → ((w : ℤ) → is_in ys w ≡ true → int_cmp z w ≡ Less) → Above z ys
above-all z [] f = tt
above-all z (y ∷ ys) f = (f y (ap (λ b. b || is_in ys y) (eq-self y)), above-all z ys (λ w h. f w (or_right (int_eq w y) (is_in ys w) h)))

above-combined : (o : SetOperation) (z : ℤ) (xs ys : List ℤ) → Above z xs → Above z ys → Above z (combined o xs ys)
above-combined o z xs ys a b = above-all z (combined o xs ys) (λ w h. by w o (is_in xs w) (is_in ys w) refl refl (sym (is_in-combined o xs ys w) ∙ h))
  where
    by : (w : ℤ) (o : SetOperation) (p q : Bool) → is_in xs w ≡ p → is_in ys w ≡ q → keeps o p q ≡ true → int_cmp z w ≡ Less
    by w o true q e f h = above-is_in z xs w a e
    by w o false true e f h = above-is_in z ys w b f
    by w Join false false e f h = absurd cc
    by w Meet false false e f h = absurd cc
    by w Difference false false e f h = absurd cc

-- the first number is kept or not, and then those behind it
combined_step : (o : SetOperation) (xs ys : List ℤ) (z : ℤ) → Rises xs → Rises ys → first_of xs ys ≡ Some z
    → combined o xs ys ≡ cond (keeps o (is_first z xs) (is_first z ys)) (z ∷ []) [] ++ combined o (behind z xs) (behind z ys)
unfolding IsStrictlySortedBy
combined_step o xs ys z r s is = same_rising (combined o xs ys) (cond keep (z ∷ []) [] ++ rest) (rises-combined o xs ys r) (rising keep) same
  where
    first : AtMost z xs × AtMost z ys
    first = at_most xs ys z is

    keep : Bool
    keep = keeps o (is_first z xs) (is_first z ys)

    rest : List ℤ
    rest = combined o (behind z xs) (behind z ys)

    above_left : Above z (behind z xs)
    above_left = above-behind z xs r first.0

    above_right : Above z (behind z ys)
    above_right = above-behind z ys s first.1

    rising : (k : Bool) → Rises (cond k (z ∷ []) [] ++ rest)
    rising true = (above-combined o z (behind z xs) (behind z ys) above_left above_right, rises-combined o (behind z xs) (behind z ys) (rises-behind z xs r))
    rising false = rises-combined o (behind z xs) (behind z ys) (rises-behind z xs r)

    absent : (l : List ℤ) → Above z l → (w : ℤ) → int_eq w z ≡ true → is_in l w ≡ false
    absent l a w e = ap (is_in l) (same_number w z e) ∙ above-not_in z l a

    chosen : (k : Bool) (w : ℤ) → is_in (cond k (z ∷ []) [] ++ rest) w ≡ ((k && int_eq w z) || is_in rest w)
    chosen true w = refl
    chosen false w = refl

    same : (w : ℤ) → is_in (combined o xs ys) w ≡ is_in (cond keep (z ∷ []) [] ++ rest) w
    same w =
        is_in-combined o xs ys w
        ∙ (λ i. keeps o (is_in-behind z xs w i) (is_in-behind z ys w i))
        ∙ keeps-first o (is_first z xs) (is_first z ys) (int_eq w z) (is_in (behind z xs) w) (is_in (behind z ys) w) (absent (behind z xs) above_left w) (absent (behind z ys) above_right w)
        ∙ ap (λ b. (keep && int_eq w z) || b) (sym (is_in-combined o (behind z xs) (behind z ys) w))
        ∙ sym (chosen keep w)

pub kept_step : (o : SetOperation) (whole kept more xs ys : List ℤ) (z : ℤ) → Rises xs → Rises ys → first_of xs ys ≡ Some z → whole ≡ kept ++ combined o xs ys
    → more ≡ kept ++ cond (keeps o (is_first z xs) (is_first z ys)) (z ∷ []) [] → whole ≡ more ++ combined o (behind z xs) (behind z ys)
kept_step o whole kept more xs ys z r s is was e =
    was ∙ ap (λ l. kept ++ l) (combined_step o xs ys z r s is) ∙ sym (append_assoc kept (cond (keeps o (is_first z xs) (is_first z ys)) (z ∷ []) []) (combined o (behind z xs) (behind z ys)))
    ∙ ap (λ l. l ++ combined o (behind z xs) (behind z ys)) (sym e)
