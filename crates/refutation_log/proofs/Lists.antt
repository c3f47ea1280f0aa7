-- Lists that grow at their end.
use Rattle.std.proofs.Common.{◌≡◌, ℕ, suc, zero, ◌≤◌, List, [], ◌∷◌, ◌++◌, take, length, refl, ap, arith}

-- the first elements of a list stay when it grows
pub take-append : {X : Type 0} (n : ℕ) (xs ys : List X) → n ≤ length xs → take n (xs ++ ys) ≡ take n xs
take-append zero xs ys h = refl
take-append (suc n) [] ys h = absurd (omega arith)
take-append (suc n) (x ∷ xs) ys h = ap (λ l. x ∷ l) (take-append n xs ys (omega arith))

pub take-append_all : {X : Type 0} (xs ys : List X) → take (length xs) (xs ++ ys) ≡ xs
take-append_all [] ys = refl
take-append_all (x ∷ xs) ys = ap (λ l. x ∷ l) (take-append_all xs ys)

pub take_drop : {X : Type 0} (n : ℕ) (xs : List X) → (rest : List X) × (xs ≡ take n xs ++ rest)
take_drop zero xs = (xs, refl)
take_drop (suc n) [] = ([], refl)
take_drop (suc n) (x ∷ xs) = let k = take_drop n xs in (k.0, ap (λ l. x ∷ l) k.1)
