-- Lists that others begin with.
use Rattle.std.proofs.Common.{◌≡◌, List, [], ◌++◌, sym, ap, ◌∙◌, append_assoc, append-nil, ℕ, zero, suc, ◌∷◌, Some, slice_get}
use Rattle.names_and_numbers.specs.Prefix.{IsPrefix}

pub IsPrefix-refl : {X : Type 0} (xs : List X) → IsPrefix xs xs
IsPrefix-refl xs = ([], sym (append-nil xs))

pub IsPrefix-trans : {X : Type 0} (xs ys zs : List X) → IsPrefix xs ys → IsPrefix ys zs → IsPrefix xs zs
IsPrefix-trans xs ys zs a b = (a.0 ++ b.0, b.1 ∙ ap (λ l. l ++ b.0) a.1 ∙ append_assoc xs a.0 b.0)

-- an element that stands at a place stands there when more follows
pub slice_get-append : {X : Type 0} (xs ys : List X) (i : ℕ) (x : X) → slice_get xs i ≡ Some x → slice_get (xs ++ ys) i ≡ Some x
slice_get-append [] ys i x h = absurd (cc)
slice_get-append (a ∷ xs) ys zero x h = h
slice_get-append (a ∷ xs) ys (suc i) x h = slice_get-append xs ys i x h
