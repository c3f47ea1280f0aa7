-- The sizes of a side from 1 up to a number.
use Rattle.std.proofs.Common.{◌≡◌, ℕ, suc, ◌+◌, ◌≤◌, List, [], ◌∷◌, ◌++◌, sym, ap, subst, ◌∙◌, arith, append_assoc}
use Rattle.std.specs.Prelude.{All}
use Rattle.std.proofs.lemmas.List.Elements.{All-push}
use Rattle.letters_and_lassos.specs.declared.kinds.Side.{Side}
use Rattle.document_text.specs.declared.order.Place.{Place}
use Rattle.document_check.specs.Facts.{sizes_to}
use Rattle.document_check.specs.Shown.{IsSize}

pub one_size_more : (side : Side) (old so_far new : List Place) (n : ℕ) → so_far ≡ old ++ sizes_to side n → new ≡ so_far ++ record { side = side; size = n + 1 } ∷ []
    → new ≡ old ++ sizes_to side (n + 1)
one_size_more side old so_far new n before here =
    let e : n + 1 ≡ suc n = omega arith in
    here ∙ ap (λ (xs : List Place). xs ++ record { side = side; size = n + 1 } ∷ []) before
    ∙ append_assoc old (sizes_to side n) (record { side = side; size = n + 1 } ∷ [])
    ∙ ap (λ (m : ℕ). old ++ (sizes_to side n ++ record { side = side; size = m } ∷ [])) e
    ∙ ap (λ (m : ℕ). old ++ sizes_to side m) (sym e)

pub one_size_fits : (side : Side) (so_far new : List Place) (n : ℕ) → n + 1 ≤ 8 → All IsSize so_far → new ≡ so_far ++ record { side = side; size = n + 1 } ∷ [] → All IsSize new
one_size_fits side so_far new n few all here =
    subst (λ (xs : List Place). All IsSize xs) (sym here)
    (All-push IsSize so_far (record { side = side; size = n + 1 }) all (record { some = omega arith; few = few }))
