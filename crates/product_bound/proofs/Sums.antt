-- Sums of a function over the numbers below n, and lists that hold each number that counts at most once.
use Rattle.std.proofs.Common.{◌≡◌, ℕ, zero, suc, ◌+◌, ◌*◌, ◌%◌, ◌<◌, ◌≤◌, inl, inr, List, [], ◌∷◌, length, refl, sym, ap, ◌∙◌, subst, arith, Bool, false, cond, eqb, get_or}
use Rattle.std.specs.Prelude.{Contains, count_by}
use Rattle.std.proofs.lemmas.Bool.{cases_eq, cond-true, cond-false, eq-eqb, ne_eqb}
use Rattle.std.proofs.lemmas.List.Sums.{sum_by-cons}
use Rattle.std.proofs.lemmas.Nat.{mod-mul-add}

-- f 0 + .. + f (n - 1)
abbrev pub sum_below : ℕ → (ℕ → ℕ) → ℕ
sum_below zero f = 0
sum_below (suc n) f = sum_below n f + f n

pub sum_below-same : (n : ℕ) (f g : ℕ → ℕ) → ((v : ℕ) → v < n → f v ≡ g v) → sum_below n f ≡ sum_below n g
sum_below-same zero f g same = refl
sum_below-same (suc n) f g same =
    let front : sum_below n f ≡ sum_below n g = sum_below-same n f g (λ v h. same v (omega arith)) in
    let here : f n ≡ g n = same n (omega arith) in
    omega arith

pub sum_below-le : (n : ℕ) (f g : ℕ → ℕ) → ((v : ℕ) → v < n → f v ≤ g v) → sum_below n f ≤ sum_below n g
sum_below-le zero f g least = omega arith
sum_below-le (suc n) f g least =
    let front : sum_below n f ≤ sum_below n g = sum_below-le n f g (λ v h. least v (omega arith)) in
    let here : f n ≤ g n = least n (omega arith) in
    omega (arith, front, here)

-- where one function is nowhere less than another, and at x by k more
pub sum_below-more : (n : ℕ) (f g : ℕ → ℕ) (x k : ℕ) → x < n → ((v : ℕ) → v < n → f v ≤ g v) → f x + k ≤ g x → sum_below n f + k ≤ sum_below n g
sum_below-more zero f g x k h least more = absurd (omega arith)
sum_below-more (suc n) f g x k h least more =
    elim (cases_eq x n) [
      | inl e ↦
          let front : sum_below n f ≤ sum_below n g = sum_below-le n f g (λ v below. least v (omega arith)) in
          let here : f n + k ≤ g n = subst (λ v. f v + k ≤ g v) e more in
          omega (arith, front, here)
      | inr ne ↦
          let front : sum_below n f + k ≤ sum_below n g = sum_below-more n f g x k (omega (arith, ne)) (λ v below. least v (omega arith)) more in
          let here : f n ≤ g n = least n (omega arith) in
          omega (arith, front, here)
    ]

pub sum_below-most : (n b : ℕ) (f : ℕ → ℕ) → ((v : ℕ) → v < n → f v ≤ b) → sum_below n f ≤ n * b
sum_below-most zero b f small = omega arith
sum_below-most (suc n) b f small =
    let front : sum_below n f ≤ n * b = sum_below-most n b f (λ v h. small v (omega arith)) in
    let here : f n ≤ b = small n (omega arith) in
    let e : suc n * b ≡ n * b + b = omega arith in
    omega arith

pub sum_below-front : (n : ℕ) (f : ℕ → ℕ) → sum_below (suc n) f ≡ f 0 + sum_below n (λ v. f (suc v))
sum_below-front zero f = omega arith
sum_below-front (suc n) f =
    let front : sum_below (suc n) f ≡ f 0 + sum_below n (λ v. f (suc v)) = sum_below-front n f in
    omega (arith, front)

pub sum_below-add : (a k : ℕ) (f : ℕ → ℕ) → sum_below (a + k) f ≡ sum_below a f + sum_below k (λ v. f (a + v))
sum_below-add a zero f = let e : a + 0 ≡ a = omega arith in rw e (omega arith)
sum_below-add a (suc k) f =
    let front : sum_below (a + k) f ≡ sum_below a f + sum_below k (λ v. f (a + v)) = sum_below-add a k f in
    let e : a + suc k ≡ suc (a + k) = omega arith in
    rw e (omega (arith, front))

-- f with another value at v
abbrev pub with_value : (ℕ → ℕ) → ℕ → ℕ → ℕ → ℕ
with_value f v c x = cond (eqb x v) c (f x)

pub with_value-same : (f : ℕ → ℕ) (v c : ℕ) → with_value f v c v ≡ c
with_value-same f v c = cond-true (eqb v v) c (f v) (eq-eqb v v refl)

pub with_value-other : (f : ℕ → ℕ) (v c x : ℕ) → (x ≡ v → ⊥) → with_value f v c x ≡ f x
with_value-other f v c x ne = cond-false (eqb x v) c (f x) (ne_eqb x v ne)

pub sum_below-with_value : (n : ℕ) (f : ℕ → ℕ) (v c : ℕ) → v < n → sum_below n (with_value f v c) + f v ≡ sum_below n f + c
sum_below-with_value zero f v c h = absurd (omega arith)
sum_below-with_value (suc n) f v c h =
    elim (cases_eq v n) [
      | inl e ↦
          let front : sum_below n (with_value f v c) ≡ sum_below n f = sum_below-same n (with_value f v c) f (λ x below. with_value-other f v c x (λ same. omega arith)) in
          let here : with_value f v c n ≡ c = rw (← e) (with_value-same f v c) in
          let same : f v ≡ f n = ap f e in
          omega (arith, front, here, same)
      | inr ne ↦
          let small : v < n = omega (arith, ne) in
          let front : sum_below n (with_value f v c) + f v ≡ sum_below n f + c = sum_below-with_value n f v c small in
          let here : with_value f v c n ≡ f n = with_value-other f v c n (λ same. ne (sym same)) in
          omega (arith, front, here)
    ]

-- the sum of r over a list
abbrev pub total : (ℕ → ℕ) → List ℕ → ℕ
total r [] = 0
total r (x ∷ xs) = r x + total r xs

-- all numbers are below n, and none that counts comes again
abbrev pub Once : ℕ → (ℕ → ℕ) → List ℕ → Type 0
Once n r [] = Unit {0}
Once n r (x ∷ xs) = (x < n) × ((0 < r x → Contains xs x → ⊥) × Once n r xs)

Contains-cons : (xs : List ℕ) (y x : ℕ) → Contains xs x → Contains (y ∷ xs) x
Contains-cons xs y x (k, h, e) = (suc k, omega arith, e)

total-without : (r : ℕ → ℕ) (v : ℕ) (xs : List ℕ) → (Contains xs v → ⊥) → total (with_value r v 0) xs ≡ total r xs
total-without r v [] none = refl
total-without r v (x ∷ xs) none =
    let rest : total (with_value r v 0) xs ≡ total r xs = total-without r v xs (λ there. none (Contains-cons xs x v there)) in
    let here : with_value r v 0 x ≡ r x = with_value-other r v 0 x (λ same. none (0, omega arith, same)) in
    omega (arith, rest, here)

Once-without : (n : ℕ) (r : ℕ → ℕ) (v : ℕ) (xs : List ℕ) → Once n r xs → Once n (with_value r v 0) xs
Once-without n r v [] once = tt
Once-without n r v (x ∷ xs) once = (
  once.0,
  (
    λ counts there. elim (cases_eq x v) [
      | inl e ↦
          let z : with_value r v 0 x ≡ 0 = rw e (with_value-same r v 0) in
          omega (arith, counts, z)
      | inr ne ↦ once.1.0 (rw (with_value-other r v 0 x ne) at counts) there
    ],
    Once-without n r v xs once.1.1,
  ),
)

pub total-once : (n : ℕ) (r : ℕ → ℕ) (xs : List ℕ) → Once n r xs → total r xs ≤ sum_below n r
total-once n r [] once = omega arith
total-once n r (x ∷ xs) once =
    elim (cases_eq (r x) 0) [
      | inl e ↦
          let rest : total r xs ≤ sum_below n r = total-once n r xs once.1.1 in
          omega (arith, rest, e)
      | inr ne ↦
          let counts : 0 < r x = omega (arith, ne) in
          let same : total (with_value r x 0) xs ≡ total r xs = total-without r x xs (once.1.0 counts) in
          let rest : total (with_value r x 0) xs ≤ sum_below n (with_value r x 0) = total-once n (with_value r x 0) xs (Once-without n r x xs once.1.1) in
          let removed : sum_below n (with_value r x 0) + r x ≡ sum_below n r + 0 = sum_below-with_value n r x 0 once.0 in
          omega (arith, same, rest, removed)
    ]

-- over n blocks of a function of the remainder
pub sum_below-blocks : (n w : ℕ) (g : ℕ → ℕ) → sum_below (n * w) (λ v. g (v % w)) ≡ n * sum_below w g
sum_below-blocks zero w g = let e : 0 * w ≡ 0 = omega arith in rw e (omega arith)
sum_below-blocks (suc n) w g =
    let e : suc n * w ≡ n * w + w = omega arith in
    let front : sum_below (n * w) (λ v. g (v % w)) ≡ n * sum_below w g = sum_below-blocks n w g in
    let split : sum_below (n * w + w) (λ v. g (v % w)) ≡ sum_below (n * w) (λ v. g (v % w)) + sum_below w (λ v. g ((n * w + v) % w)) = sum_below-add (n * w) w (λ v. g (v % w)) in
    let back : sum_below w (λ v. g ((n * w + v) % w)) ≡ sum_below w g = sum_below-same w (λ v. g ((n * w + v) % w)) g (λ v h. ap g (mod-mul-add n w v h)) in
    let more : suc n * sum_below w g ≡ n * sum_below w g + sum_below w g = omega arith in
    rw e (split ∙ omega (arith, front, back, more))

-- a count over a list of truths, as a sum over its places
pub sum_below-count : (xs : List Bool) → sum_below (length xs) (λ q. cond (get_or xs q false) 1 0) ≡ count_by (λ is. is) xs
sum_below-count [] = refl
sum_below-count (x ∷ xs) =
    let front : sum_below (suc (length xs)) (λ q. cond (get_or (x ∷ xs) q false) 1 0) ≡ cond x 1 0 + sum_below (length xs) (λ q. cond (get_or xs q false) 1 0) = sum_below-front (length xs) (λ q. cond (get_or (x ∷ xs) q false) 1 0) in
    let rest : sum_below (length xs) (λ q. cond (get_or xs q false) 1 0) ≡ count_by (λ is. is) xs = sum_below-count xs in
    let step : count_by (λ is. is) (x ∷ xs) ≡ cond x 1 0 + count_by (λ is. is) xs = sum_by-cons (λ is. cond is 1 0) x xs in
    front ∙ ap (λ n. cond x 1 0 + n) rest ∙ sym step
