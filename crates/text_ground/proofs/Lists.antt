-- Lists and options, of which something holds.
use Rattle.std.proofs.Common.{◌≡◌, ℕ, suc, ◌≤◌, ◌⊎◌, inl, inr, List, All, Option, Some, IfSome, subst, arith}

pub some_of : {A : Type 0} (P : A → Type 0) (o : Option A) (x : A) → IfSome o P → o ≡ Some x → P x
some_of P o x h e = let Q : Option _ → Type 0 = λ v. IfSome v P in subst Q e h

pub all_map : {A : Type 0} (P Q : A → Type 0) → ((x : A) → P x → Q x) → (xs : List A) → All P xs → All Q xs
all_map P Q f xs all = λ k d h. f _ (all k d h)

pub all_both : {A : Type 0} (P Q R : A → Type 0) → ((x : A) → P x → Q x → R x) → (xs : List A) → All P xs → All Q xs → All R xs
all_both P Q R f xs a b = λ k d h. f _ (a k d h) (b k d h)

pub all_three : {A : Type 0} (P Q R S : A → Type 0) → ((x : A) → P x → Q x → R x → S x) → (xs : List A) → All P xs → All Q xs → All R xs → All S xs
all_three P Q R S f xs a b c = λ k d h. f _ (a k d h) (b k d h) (c k d h)

pub le_cases : (k n : ℕ) → k ≤ suc n → (k ≤ n) ⊎ (k ≡ suc n)
le_cases k n h = grind (arith, h)
