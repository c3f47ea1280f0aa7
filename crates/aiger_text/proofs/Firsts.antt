use Rattle.std.proofs.Common.{◌≡◌, ℕ, ◌<◌, ◌≤◌, Bool, true, false, cond, ltb, Option, Some, None, List, length, get_or, refl, sym, ap, ◌∙◌, arith}
use Rattle.std.specs.List.{position_from, position_or_len}
use Rattle.std.proofs.lemmas.Bool.{lt-ltb, le-ltb, ltb-false}
use Rattle.std.proofs.lemmas.List.Sums.{position_or_len_is, fails_before_first}
use Rattle.std.proofs.lemmas.Iterator.Adapters.{position_from-zero}
use Rattle.aiger_text.specs.CircuitFile.{found_from}

-- the first element that passes, and that none does
pub first_is : {X : Type 0} (p : X → Bool) (xs : List X) (i : ℕ) (d : X) → i < length xs → ((k : ℕ) → k < i → p (get_or xs k d) ≡ false) → p (get_or xs i d) ≡ true
    → Some i ≡ position_from p 0 xs
first_is p xs i d within before here =
    let place : position_or_len p xs ≡ i = position_or_len_is p xs i d (omega arith) before (λ _. here) in
    let there : ltb i (length xs) ≡ true = lt-ltb i (length xs) within in
    ap (λ b. cond b (Some i) None) (sym there) ∙ ap (λ n. cond (ltb n (length xs)) (Some n) None) (sym place) ∙ position_from-zero p xs

pub none_is : {X : Type 0} (p : X → Bool) (xs : List X) (i : ℕ) (d : X) → length xs ≤ i → ((k : ℕ) → k < i → p (get_or xs k d) ≡ false) → None ≡ position_from p 0 xs
none_is p xs i d past before =
    let place : position_or_len p xs ≡ length xs = position_or_len_is p xs (length xs) d (omega arith) (λ k h. before k (omega arith)) (λ h. absurd (omega arith)) in
    let past : ltb (length xs) (length xs) ≡ false = le-ltb (length xs) (length xs) (omega arith) in
    ap (λ b. cond b (Some (length xs)) None) (sym past) ∙ ap (λ n. cond (ltb n (length xs)) (Some n) None) (sym place) ∙ position_from-zero p xs

-- where none is found, each fails
fails_by : {X : Type 0} (p : X → Bool) (xs : List X) (b : Bool) → ltb (position_or_len p xs) (length xs) ≡ b → position_from p 0 xs ≡ None → (k : ℕ) (d : X) → k < length xs → p (get_or xs k d) ≡ false
fails_by p xs true e is k d h =
    let never : ◌≡◌ {A = Option ℕ} (Some (position_or_len p xs)) None = ap (λ b. cond b (Some (position_or_len p xs)) None) (sym e) ∙ position_from-zero p xs ∙ is in
    absurd (cc)
fails_by p xs false e is k d h =
    let past : length xs ≤ position_or_len p xs = ltb-false (position_or_len p xs) (length xs) e in
    fails_before_first p xs k d (omega arith)

pub each_fails : {X : Type 0} (p : X → Bool) (xs : List X) → position_from p 0 xs ≡ None → (k : ℕ) (d : X) → k < length xs → p (get_or xs k d) ≡ false
each_fails p xs is k d h = fails_by p xs (ltb (position_or_len p xs) (length xs)) refl is k d h

-- nothing is found in either of two parts
pub found_none : (first : ℕ) (a b : Option ℕ) → found_from first a b ≡ None → (a ≡ None) × (b ≡ None)
found_none first (Some place) b e = absurd (cc)
found_none first None b e = (refl, e)
