-- What a sink gained by the pieces of a list, one after another.
use Rattle.std.proofs.Common.{◌≡◌, ℕ, ◌+◌, ◌<◌, List, [], ◌∷◌, ◌++◌, length, take, drop, flat_map, Option, Result, Ok, Err, OnErr, arith, refl, sym, ap, ◌∙◌, take-append-drop, slice_index_or}
use Rattle.std.proofs.lemmas.Grind.{common_steps, flat_map-append}
use Rattle.input_output.specs.Bytes.{Gains, GainsFront}
use Rattle.input_output.proofs.GainLemmas.{front_more, gains_nothing}

-- nothing is a front of what is to be written
pub nothing_yet : {T E : Type 0} (r : Result T E) (a : Option (List ℕ)) (bytes : List ℕ) → OnErr r (GainsFront a a bytes)
nothing_yet (Ok x) a bytes = tt
nothing_yet (Err e) a bytes = record { front = []; rest = bytes; whole = refl; gained = gains_nothing a a refl }

module _ {X : Type 0} (f : X → List ℕ) (xs : List X) where
  rest_piece : (i : ℕ) (d : X) → i < length xs → drop i xs ≡ slice_index_or xs i d ∷ drop (i + 1) xs
  rest_piece i d l = grind (arith, common_steps)

  pub pieces_front : (a b c : Option (List ℕ)) (i : ℕ) (d : X) → i < length xs → Gains a b (flat_map f (take i xs)) → GainsFront b c (f (slice_index_or xs i d)) →
      GainsFront a c (flat_map f xs)
  pieces_front a b c i d l before piece =
      let x = slice_index_or xs i d in
      let rest : f x ++ flat_map f (drop (i + 1) xs) ≡ flat_map f (drop i xs) = ap (flat_map f) (sym (rest_piece i d l)) in
      let whole : flat_map f (take i xs) ++ flat_map f (drop i xs) ≡ flat_map f xs =
      sym (flat_map-append f (take i xs) (drop i xs)) ∙ ap (flat_map f) (take-append-drop i xs) in
      front_more a b c (flat_map f (take i xs)) (f x) (flat_map f (drop (i + 1) xs)) (flat_map f (drop i xs)) (flat_map f xs) before piece rest whole
