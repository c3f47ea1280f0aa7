-- The parts of a decoded machine: moves, letters and numbers.
use Rattle.std.proofs.Common.{◌≡◌, ℕ, zero, suc, ◌+◌, ◌-◌, ◌*◌, ◌^◌, ◌<◌, inl, inr, Bool, true, false, List, [], ◌∷◌, ◌++◌, Option, Some, None, length, get_or, refl, sym, ap, ◌∙◌, subst, arith, cond}
use Rattle.std.specs.Prelude.{◌==◌, ◌||◌}
use Rattle.std.specs.List.{list_any}
use Rattle.std.proofs.Math.Nat.{two-pow-succ}
use Rattle.std.proofs.lemmas.Bool.{cases_eq, cases_lt}
use Rattle.std.proofs.lemmas.List.{get_or_append_left, get_or_push, length_push}
use Rattle.std.proofs.lemmas.List.Folds.{list_any-append}
use Rattle.std.proofs.lemmas.Nat.Bits.{bit_at_cat_high, bit_at_cat_low}
use Rattle.propositional_logic.specs.Literal.{Literal}
use Rattle.propositional_logic.specs.Truth.{value_of}
use Rattle.letters_and_lassos.specs.Signals.{has}
use Rattle.letters_and_lassos.proofs.Sets.{has-past}
use Rattle.machine_model.specs.declared.machines.Row.{Row}
use Rattle.machine_model.specs.declared.problems.Problem.{Problem}
use Rattle.machine_model.proofs.Tables.{no_row}
use Rattle.annotation_encode.specs.BaseClauses.{each_below}
use Rattle.machine_decode.specs.Written.{AreRows, IsRow, greatest_from, letter_from}

-- a number below n for which a test passes
pub record Passes (n : ℕ) (test : ℕ → Bool) : Type 0 where
  pub at : ℕ
  pub below : at < n
  pub here : test at ≡ true

pub some_passes : (test : Literal → Bool) (n : ℕ) (f : ℕ → Literal) → list_any test (each_below n (λ k. f k ∷ [])) ≡ true → Passes n (λ k. test (f k))
some_passes test zero f h = absurd (let no : false ≡ true = h in cc)
some_passes test (suc n) f h =
    by_front (list_any test (each_below n (λ k. f k ∷ []))) refl (some_passes test n f) (sym (list_any-append test (each_below n (λ k. f k ∷ [])) (f n ∷ [])) ∙ h)
  where
    by_front : (b : Bool) → list_any test (each_below n (λ k. f k ∷ [])) ≡ b → (list_any test (each_below n (λ k. f k ∷ [])) ≡ true → Passes n (λ k. test (f k))) → (list_any test (each_below n (λ k. f k ∷ [])) || (test (f n) || false)) ≡ true → Passes (suc n) (λ k. test (f k))
    by_front true e front all = let before : Passes n (λ k. test (f k)) = front e in record { at = before.at; below = (let l : before.at < n = before.below in omega arith); here = before.here }
    by_front false e front all = record { at = n; below = omega arith; here = alone (test (f n)) (ap (λ b. b || (test (f n) || false)) (sym e) ∙ all) }
      where
        alone : (b : Bool) → (b || false) ≡ true → b ≡ true
        alone true x = refl
        alone false x = x

-- one more row
pub more_rows : (p : Problem) (values : List Bool) (n : ℕ) (old new : List Row) (row : Row) → new ≡ old ++ row ∷ [] → AreRows p values n old → IsRow p values n row → AreRows p values (n + 1) new
more_rows p values n old new row pushed before here =
    let places : length old ≡ n = before.places in
    subst (AreRows p values (n + 1)) (sym pushed) (record {
      places = length_push old row ∙ ap (λ k. k + 1) places;
      each = λ place h. elim (cases_lt place n) [
        | inl less ↦
            let inside : place < length old = omega (arith, places, less) in
            subst (IsRow p values place) (sym (get_or_append_left old (row ∷ []) no_row place inside)) (before.each place less)
        | inr last ↦
            let same : n ≡ place = omega (arith, last, h) in
            subst (λ k. IsRow p values k (get_or (old ++ row ∷ []) k no_row)) same (subst (IsRow p values n) (sym (get_or_push old row no_row n places)) here)
      ];
    })

-- letters
pub letter_small : (values : List Bool) (first n : ℕ) → letter_from values first n < 2 ^ n
letter_small values first zero = omega arith
letter_small values first (suc n) =
    let before : letter_from values first n < 2 ^ n = letter_small values first n in
    let twice : 2 ^ suc n ≡ 2 ^ n + 2 ^ n = two-pow-succ n in
    go (value_of values (first + n)) before twice
  where
    go : (b : Bool) → letter_from values first n < 2 ^ n → 2 ^ suc n ≡ 2 ^ n + 2 ^ n → letter_from values first n + cond b (2 ^ n) 0 < 2 ^ suc n
    go true before twice = omega (arith, before, twice)
    go false before twice = omega (arith, before, twice)

low_signal : (x n s : ℕ) → s < n → has (x + 2 ^ n) s ≡ has x s
low_signal x n s h = let e : x + 2 ^ n ≡ 1 * 2 ^ n + x = omega arith in ap (λ k. has k s) e ∙ ap (λ b. b == 1) (bit_at_cat_low 1 n x s h)

top_signal : (x n : ℕ) → x < 2 ^ n → has (x + 2 ^ n) n ≡ true
top_signal x n h =
    let e : x + 2 ^ n ≡ 1 * 2 ^ n + x = omega arith in
    let z : n - n ≡ 0 = omega arith in
    ap (λ k. has k n) e ∙ ap (λ b. b == 1) (bit_at_cat_high 1 n x n h (omega arith)) ∙ ap (has 1) z

no_signal : (x n : ℕ) → x < 2 ^ n → has x n ≡ false
no_signal x n h = go (has x n) refl
  where
    go : (b : Bool) → has x n ≡ b → b ≡ false
    go true e = absurd (has-past x n n h (omega arith) e)
    go false e = refl

pub letter_has : (values : List Bool) (first n s : ℕ) → s < n → has (letter_from values first n) s ≡ value_of values (first + s)
letter_has values first zero s h = absurd (omega arith)
letter_has values first (suc n) s h =
    elim (cases_eq s n) [
      | inl e ↦ subst (λ k. has (letter_from values first n + cond (value_of values (first + n)) (2 ^ n) 0) k ≡ value_of values (first + k)) (sym e) (last (value_of values (first + n)) refl)
      | inr ne ↦
          let less : s < n = omega (arith, h, ne) in
          before (value_of values (first + n)) less ∙ letter_has values first n s less
    ]
  where
    last : (b : Bool) → value_of values (first + n) ≡ b → has (letter_from values first n + cond b (2 ^ n) 0) n ≡ b
    last true e = top_signal (letter_from values first n) n (letter_small values first n)
    last false e = let z : letter_from values first n + 0 ≡ letter_from values first n = omega arith in ap (λ k. has k n) z ∙ no_signal (letter_from values first n) n (letter_small values first n)

    before : (b : Bool) → s < n → has (letter_from values first n + cond b (2 ^ n) 0) s ≡ has (letter_from values first n) s
    before true less = low_signal (letter_from values first n) n s less
    before false less = let z : letter_from values first n + 0 ≡ letter_from values first n = omega arith in ap (λ k. has k s) z

-- the greatest number
abbrev pub IsGreatest : List Bool → ℕ → ℕ → Option ℕ → Type 0
IsGreatest values first n None = (c : ℕ) → c < n → value_of values (first + c) ≡ false
IsGreatest values first n (Some k) = (k < n) × (value_of values (first + k) ≡ true) × ((c : ℕ) → k < c → c < n → value_of values (first + c) ≡ false)

pub greatest_is : (values : List Bool) (first n : ℕ) → IsGreatest values first n (greatest_from values first n)
greatest_is values first zero = λ c h. absurd (omega arith)
greatest_is values first (suc n) = by_last (value_of values (first + n)) refl (greatest_is values first n)
  where
    later : (o : Option ℕ) → IsGreatest values first n o → value_of values (first + n) ≡ false → IsGreatest values first (suc n) o
    later None none e = λ c h. elim (cases_eq c n) [
      | inl same ↦ ap (λ k. value_of values (first + k)) same ∙ e
      | inr ne ↦ none c (omega (arith, h, ne))
    ]
    later (Some k) some e = (
      (let l : k < n = some.0 in omega arith),
      some.1,
      λ c above h. elim (cases_eq c n) [
        | inl same ↦ ap (λ k. value_of values (first + k)) same ∙ e
        | inr ne ↦ some.2 c above (omega (arith, h, ne))
      ],
    )

    by_last : (b : Bool) → value_of values (first + n) ≡ b → IsGreatest values first n (greatest_from values first n) → IsGreatest values first (suc n) (cond b (Some n) (greatest_from values first n))
    by_last true e before = (omega arith, e, λ c above h. absurd (omega (arith, above, h)))
    by_last false e before = later (greatest_from values first n) before e

-- steps of the loops
pub no_rows : (p : Problem) (values : List Bool) (table : List Row) → table ≡ [] → AreRows p values 0 table
no_rows p values table none = record { places = ap length none; each = λ place h. absurd (omega arith) }

pub letter_more : (values : List Bool) (first n : ℕ) → letter_from values first (n + 1) ≡ letter_from values first n + cond (value_of values (first + n)) (2 ^ n) 0
letter_more values first n = let e : n + 1 ≡ suc n = omega arith in ap (letter_from values first) e

pub greatest_more : (values : List Bool) (first n : ℕ) → greatest_from values first (n + 1) ≡ cond (value_of values (first + n)) (Some n) (greatest_from values first n)
greatest_more values first n = let e : n + 1 ≡ suc n = omega arith in ap (greatest_from values first) e
