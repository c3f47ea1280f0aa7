-- Lists that are joined from the pieces below a number.
use Rattle.std.proofs.Common.{◌≡◌, ℕ, zero, suc, ◌+◌, ◌*◌, ◌<◌, Bool, true, false, List, [], ◌∷◌, ◌++◌, length, refl, sym, ap, ◌∙◌, subst, arith, inl, inr}
use Rattle.std.specs.Prelude.{All, Contains, ◌&&◌, ◌||◌}
use Rattle.std.specs.List.{flat_map, list_any}
use Rattle.std.proofs.lemmas.Bool.{cases_eq}
use Rattle.std.proofs.lemmas.List.{append_assoc, length-append}
use Rattle.std.proofs.lemmas.List.Elements.{All-append, Contains-append_left, Contains-append_right}
use Rattle.propositional_logic.proofs.Members.{Contains-cases, Contains-head, Contains-later, Contains-none}
use Rattle.std.proofs.lemmas.List.Folds.{list_any-append}
use mathlib.Core.Bool.{and-false, or-true}
use Rattle.annotation_encode.specs.BaseClauses.{each_below}
use Rattle.letters_and_lassos.specs.Below.{all_below}

pub each_below-more : {A : Type 0} (n : ℕ) (f : ℕ → List A) → each_below (n + 1) f ≡ each_below n f ++ f n
each_below-more n f = let e : n + 1 ≡ suc n = omega arith in ap (λ k. each_below k f) e

-- a step of a loop that adds a piece
pub each_more : {A : Type 0} (start old new : List A) (f : ℕ → List A) (n : ℕ) → old ≡ start ++ each_below n f → new ≡ old ++ f n
    → new ≡ start ++ each_below (n + 1) f
each_more start old new f n before step =
    step ∙ ap (λ xs. xs ++ f n) before ∙ append_assoc start (each_below n f) (f n) ∙ ap (λ xs. start ++ xs) (sym (each_below-more n f))

-- what holds of each piece holds of all
pub All-each_below : {A : Type 0} (P : A → Type 0) (n : ℕ) (f : ℕ → List A) → ((k : ℕ) → k < n → All P (f k)) → All P (each_below n f)
All-each_below P zero f each = λ k d h. absurd (omega arith)
All-each_below P (suc n) f each =
    All-append P (each_below n f) (f n) (All-each_below P n f (λ k h. each k (omega arith))) (each n (omega arith))

-- pieces of one length
pub length-each_below : {A : Type 0} (n w : ℕ) (f : ℕ → List A) → ((k : ℕ) → k < n → length (f k) ≡ w) → length (each_below n f) ≡ n * w
length-each_below zero w f each = let e : 0 ≡ 0 * w = omega arith in e
length-each_below (suc n) w f each =
    let before : length (each_below n f) ≡ n * w = length-each_below n w f (λ k h. each k (omega arith)) in
    let here : length (f n) ≡ w = each n (omega arith) in
    let both : length (each_below n f ++ f n) ≡ length (each_below n f) + length (f n) = length-append (each_below n f) (f n) in
    let rows : suc n * w ≡ n * w + w = omega arith in
    omega (arith, before, here, both, rows)

-- tests at each number below n
pub all_below-more : (n : ℕ) (test : ℕ → Bool) → all_below n test ≡ true → test n ≡ true → all_below (n + 1) test ≡ true
all_below-more n test before here =
    let e : n + 1 ≡ suc n = omega arith in
    ap (λ k. all_below k test) e ∙ (λ i. before i && here i)

pub all_below-fails : (n k : ℕ) (test : ℕ → Bool) → k < n → test k ≡ false → all_below n test ≡ false
all_below-fails zero k test h fails = absurd (omega arith)
all_below-fails (suc n) k test h fails =
    elim (cases_eq k n) [
      | inl e ↦ ap (λ b. all_below n test && b) (ap test (sym e) ∙ fails) ∙ and-false (all_below n test)
      | inr ne ↦ ap (λ b. b && test n) (all_below-fails n k test (omega (arith, h, ne)) fails)
    ]

pub all_below-each : (n k : ℕ) (test : ℕ → Bool) → all_below n test ≡ true → k < n → test k ≡ true
all_below-each n k test all h = go (test k) refl
  where
    go : (b : Bool) → test k ≡ b → b ≡ true
    go true e = refl
    go false e = let no : true ≡ false = sym all ∙ all_below-fails n k test h e in cc

-- what holds of what each element gives holds of all
pub All-flat_map : {A B : Type 0} (P : B → Type 0) (f : A → List B) (xs : List A) → ((x : A) → Contains xs x → All P (f x)) → All P (flat_map f xs)
All-flat_map P f [] each = λ k d h. absurd (omega arith)
All-flat_map P f (x ∷ xs) each =
    All-append P (f x) (flat_map f xs) (each x (Contains-head x xs)) (All-flat_map P f xs (λ y there. each y (Contains-later x xs y there)))

-- a test that passes in some piece
pub any-each_below : {A : Type 0} (test : A → Bool) (n k : ℕ) (f : ℕ → List A) → k < n → list_any test (f k) ≡ true → list_any test (each_below n f) ≡ true
any-each_below test zero k f h here = absurd (omega arith)
any-each_below test (suc n) k f h here =
    list_any-append test (each_below n f) (f n)
    ∙ elim (cases_eq k n) [
      | inl e ↦ ap (λ b. list_any test (each_below n f) || b) (ap (λ j. list_any test (f j)) (sym e) ∙ here) ∙ or-true (list_any test (each_below n f))
      | inr ne ↦ ap (λ b. b || list_any test (f n)) (any-each_below test n k f (omega (arith, h, ne)) here)
    ]

-- and in none
pub none-each_below : {A : Type 0} (test : A → Bool) (n k : ℕ) (f : ℕ → List A) → list_any test (each_below n f) ≡ false → k < n → list_any test (f k) ≡ false
none-each_below test n k f none h = go (list_any test (f k)) refl
  where
    go : (b : Bool) → list_any test (f k) ≡ b → b ≡ false
    go false e = refl
    go true e = let no : true ≡ false = sym (any-each_below test n k f h e) ∙ none in absurd (let x : true ≡ false = no in cc)

-- four lists, added one after the other to an empty one
pub joined_parts : {A : Type 0} (rows : List A) (x : A) (mid end : List A) → rows ++ x ∷ [] ++ mid ++ end ≡ rows ++ (x ∷ (mid ++ end))
joined_parts rows x mid end = append_assoc (rows ++ x ∷ []) mid end ∙ append_assoc rows (x ∷ []) (mid ++ end)

pub none-from : {A : Type 0} (test : A → Bool) (n : ℕ) (f : ℕ → List A) → ((k : ℕ) → k < n → list_any test (f k) ≡ false) → list_any test (each_below n f) ≡ false
none-from test zero f each = refl
none-from test (suc n) f each = list_any-append test (each_below n f) (f n) ∙ (λ i. none-from test n f (λ k h. each k (omega arith)) i || each n (omega arith) i)

-- an element of a piece is one of all
pub in_each : {A : Type 0} (n k : ℕ) (f : ℕ → List A) (x : A) → k < n → Contains (f k) x → Contains (each_below n f) x
in_each zero k f x h there = absurd (omega arith)
in_each (suc n) k f x h there =
    elim (cases_eq k n) [
      | inl e ↦ Contains-append_right (each_below n f) (f n) x (subst (λ j. Contains (f j) x) e there)
      | inr ne ↦ Contains-append_left (each_below n f) (f n) x (in_each n k f x (omega (arith, h, ne)) there)
    ]

pub in_flat_map : {A B : Type 0} (f : A → List B) (xs : List A) (y : A) (x : B) → Contains xs y → Contains (f y) x → Contains (flat_map f xs) x
in_flat_map f [] y x there here = absurd (Contains-none y there)
in_flat_map f (z ∷ zs) y x there here =
    elim (Contains-cases z zs y there) [
      | inl e ↦ Contains-append_left (f z) (flat_map f zs) x (subst (λ a. Contains (f a) x) (sym e) here)
      | inr later ↦ Contains-append_right (f z) (flat_map f zs) x (in_flat_map f zs y x later here)
    ]
