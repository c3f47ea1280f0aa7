-- Numbers below a bound, and lists without repetition.
use Rattle.std.proofs.Common.{◌≡◌, ◌≢◌, ℕ, ◌<◌, ◌≤◌, ◌⊎◌, List, length, get_or, sym, ap, ◌∙◌, arith, inl, inr}
use Rattle.std.specs.Prelude.{Contains}
use Rattle.std.proofs.lemmas.Bool.{cases_lt}
use Rattle.std.proofs.lemmas.List.{get_or_default}
use Rattle.machine_model.proofs.Pigeonhole.{IsRepeated, pigeonhole}

-- different elements of a list are no more than those of a list that has them all
module _ {X : Type 0} (xs ys : List X) (d : X) (there : (k : ℕ) → k < length ys → Contains xs (get_or ys k d))
    (apart : (i k : ℕ) → i < k → k < length ys → get_or ys i d ≢ get_or ys k d) where
  place_by : (k : ℕ) → (k < length ys) ⊎ (length ys ≤ k) → ℕ
  place_by k (inl h) = (there k h).0
  place_by k (inr past) = 0

  pub record StandsFor (k place : ℕ) : Type 0 where
    pub within : place < length xs
    pub same : get_or xs place d ≡ get_or ys k d

  stands_by : (k : ℕ) (found : (k < length ys) ⊎ (length ys ≤ k)) → k < length ys → StandsFor k (place_by k found)
  unfolding place_by
  stands_by k (inl h) inside = record { within = (there k h).1; same = get_or_default xs (there k h).0 d (get_or ys k d) (there k h).1 ∙ (there k h).2 }
  stands_by k (inr past) inside = absurd (omega (arith, past, inside))

  place : ℕ → ℕ
  place k = place_by k (cases_lt k (length ys))

  stands : (k : ℕ) → k < length ys → StandsFor k (place k)
  unfolding place
  stands k h = stands_by k (cases_lt k (length ys)) h

  pub no_more : length ys ≤ length xs
  no_more = elim (cases_lt (length xs) (length ys)) [
    | inr few ↦ few
    | inl many ↦
        let too_many : length xs < length ys = many in
        let twice : IsRepeated place (length xs) =
        pigeonhole (length xs) place (λ k h. (stands k (omega (arith, h, too_many))).within) in
        let within : twice.second ≤ length xs = twice.within in
        let before : twice.first < twice.second = twice.before in
        absurd (apart twice.first twice.second twice.before (omega (arith, within, too_many))
        (sym (stands twice.first (omega (arith, before, within, too_many))).same ∙ ap (λ k. get_or xs k d) twice.same
        ∙ (stands twice.second (omega (arith, within, too_many))).same))
  ]
