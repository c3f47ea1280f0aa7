-- A list cut at the first element that passes a test.
use Rattle.std.proofs.Common.{◌≡◌, ℕ, ◌+◌, ◌-◌, ◌<◌, Bool, List, [], ◌∷◌, length, take, drop, Some, None, position, nat_lt, arith, cond, true, false, ap, ◌∙◌, refl}
use Rattle.std.specs.List.{slice_split, position_or_len}
use Rattle.std.proofs.lemmas.List.Splits.{slice_split_first, slice_split_none}
use Rattle.std.proofs.lemmas.List.Sums.{fails_before_first}
use Rattle.std.proofs.lemmas.Grind.{common_steps}

module _ {X : Type 0} (p : X → Bool) where
  -- a place that is found is the first one, and stands in the list
  found_first : (xs : List X) (end : ℕ) → position p xs ≡ Some end → (position_or_len p xs ≡ end) × (end < length xs)
  found_first xs end found = by (nat_lt (position_or_len p xs) (length xs)) refl found
    where
      by : (b : Bool) → nat_lt (position_or_len p xs) (length xs) ≡ b → cond b (Some (position_or_len p xs)) None ≡ Some end → (position_or_len p xs ≡ end) × (end < length xs)
      by true before same = let there : position_or_len p xs ≡ end = cc in (there, grind (arith, common_steps))
      by false before same = cc

  pub cut_where_found : (xs : List X) (end : ℕ) (d : X) → position p xs ≡ Some end → slice_split p xs ≡ take end xs ∷ slice_split p (take (length xs - (end + 1)) (drop (end + 1) xs))
  cut_where_found xs end d found =
      let first = found_first xs end found in
      let cut : slice_split p xs ≡ take end xs ∷ slice_split p (drop (end + 1) xs) = rw (← first.0) (slice_split_first p xs d (grind arith)) in
      let rest : drop (end + 1) xs ≡ take (length xs - (end + 1)) (drop (end + 1) xs) = grind (arith, common_steps) in
      cut ∙ ap (λ ys. take end xs ∷ slice_split p ys) rest

  pub whole_where_none : (xs : List X) → position p xs ≡ None → slice_split p xs ≡ xs ∷ []
  whole_where_none xs none = by (nat_lt (position_or_len p xs) (length xs)) refl none
    where
      by : (b : Bool) → nat_lt (position_or_len p xs) (length xs) ≡ b → cond b (Some (position_or_len p xs)) None ≡ None → slice_split p xs ≡ xs ∷ []
      by true before same = cc
      by false before same = slice_split_none p xs (λ k d l. fails_before_first p xs k d (grind (arith, common_steps)))
