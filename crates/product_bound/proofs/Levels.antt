-- Levels that are closed under the arrows of a finite graph. A node's level is 0 where no number was found for it yet, else
-- one more than its number. Where no number passes b, raising levels as long as an arrow wants it comes to an end. An arrow
-- may show V in place of a number.
use Rattle.std.proofs.Common.{◌≡◌, ℕ, zero, suc, ◌+◌, ◌-◌, ◌*◌, ◌<◌, ◌≤◌, ◌⊎◌, inl, inr, sym, ap, ◌∙◌, subst, arith}
use Rattle.std.proofs.lemmas.Bool.{cases_eq}
use Rattle.product_bound.proofs.Sums.{sum_below, sum_below-most, sum_below-with_value, with_value, with_value-same, with_value-other}

-- an arrow that wants a higher level
pub record Wants (r : ℕ → ℕ) (Arrow : ℕ → ℕ → Type 0) (f : ℕ → ℕ) : Type 0 where
  pub from : ℕ
  pub to : ℕ
  pub arrow : Arrow from to
  pub has : 0 < f from
  pub low : f to < f from + r to

-- levels that are numbers found, for the start at least its own
pub record Sound (r : ℕ → ℕ) (Found : ℕ → ℕ → Type 0) (f : ℕ → ℕ) : Type 0 where
  pub found : (v c : ℕ) → f v ≡ suc c → Found v c
  pub start : suc (r 0) ≤ f 0

abbrev pub IsClosed : (ℕ → ℕ) → (ℕ → ℕ → Type 0) → (ℕ → ℕ) → Type 0
IsClosed r Arrow f = (u v : ℕ) → Arrow u v → 0 < f u → f u + r v ≤ f v

pub record ClosedLevels (r : ℕ → ℕ) (Arrow : ℕ → ℕ → Type 0) (Found : ℕ → ℕ → Type 0) : Type 0 where
  pub level : ℕ → ℕ
  pub sound : Sound r Found level
  pub closed : IsClosed r Arrow level

module _ (n b : ℕ) (r : ℕ → ℕ) (Arrow : ℕ → ℕ → Type 0) (Found : ℕ → ℕ → Type 0) (start : Found 0 (r 0)) (V : Type 0) (along : (u v c : ℕ) → Arrow u v → Found u c → Found v (c + r v) ⊎ V) (within : (v c : ℕ) → Found v c → v < n) (bounded : (v c : ℕ) → Found v c → c ≤ b) (look : (f : ℕ → ℕ) → IsClosed r Arrow f ⊎ Wants r Arrow f) where
  raised : (f : ℕ → ℕ) → Sound r Found f → (w : Wants r Arrow f) → Found w.to ((f w.from - 1) + r w.to) → Sound r Found (with_value f w.to (f w.from + r w.to))
  raised f sound w there = record {
    found = λ v c e. elim (cases_eq v w.to) [
      | inl same ↦
          let level : with_value f w.to (f w.from + r w.to) v ≡ f w.from + r w.to = rw same (with_value-same f w.to (f w.from + r w.to)) in
          let has : 0 < f w.from = w.has in
          let is : (f w.from - 1) + r w.to ≡ c = omega (arith, level, e) in
          subst (λ k. Found v k) is (subst (λ k. Found k ((f w.from - 1) + r w.to)) (sym same) there)
      | inr ne ↦ sound.found v c (sym (with_value-other f w.to (f w.from + r w.to) v ne) ∙ e)
    ];
    start = elim (cases_eq 0 w.to) [
      | inl same ↦
          let level : with_value f w.to (f w.from + r w.to) 0 ≡ f w.from + r w.to = rw same (with_value-same f w.to (f w.from + r w.to)) in
          let low : f w.to < f w.from + r w.to = w.low in
          let was : suc (r 0) ≤ f 0 = sound.start in
          let at : f 0 ≡ f w.to = ap f same in
          omega (arith, level, low, was, at)
      | inr ne ↦ rw (with_value-other f w.to (f w.from + r w.to) 0 ne) sound.start
    ];
  }

  level_small : (f : ℕ → ℕ) → Sound r Found f → (v : ℕ) → f v ≤ suc b
  level_small f sound v =
      elim (cases_eq (f v) 0) [
        | inl e ↦ omega (arith, e)
        | inr ne ↦
            let is : f v ≡ suc (f v - 1) = omega (arith, ne) in
            let small : f v - 1 ≤ b = bounded v (f v - 1) (sound.found v (f v - 1) is) in
            omega arith
      ]

  raise : (fuel : ℕ) (f : ℕ → ℕ) → Sound r Found f → n * suc b < sum_below n f + fuel → ClosedLevels r Arrow Found ⊎ V
  raise zero f sound enough =
      let most : sum_below n f ≤ n * suc b = sum_below-most n (suc b) f (λ v _. level_small f sound v) in
      absurd (omega (arith, most, enough))
  raise (suc fuel) f sound enough =
      elim (look f) [
        | inl closed ↦ inl (record { level = f; sound = sound; closed = closed })
        | inr w ↦
            let has : 0 < f w.from = w.has in
            elim (along w.from w.to (f w.from - 1) w.arrow (sound.found w.from (f w.from - 1) (omega arith))) [
              | inr v ↦ inr v
              | inl number ↦
                  let new : Sound r Found (with_value f w.to (f w.from + r w.to)) = raised f sound w number in
                  let more : sum_below n (with_value f w.to (f w.from + r w.to)) + f w.to ≡ sum_below n f + (f w.from + r w.to) = sum_below-with_value n f w.to (f w.from + r w.to) (within w.to ((f w.from - 1) + r w.to) number) in
                  let low : f w.to < f w.from + r w.to = w.low in
                  raise fuel (with_value f w.to (f w.from + r w.to)) new (omega (arith, more, low, enough))
            ]
      ]

  only_start : ℕ → ℕ
  only_start = with_value (λ _. 0) 0 (suc (r 0))

  start_sound : Sound r Found only_start
  unfolding only_start
  start_sound = record {
    found = λ v c e. elim (cases_eq v 0) [
      | inl same ↦
          let level : with_value (λ _. 0) 0 (suc (r 0)) v ≡ suc (r 0) = rw same (with_value-same (λ _. 0) 0 (suc (r 0))) in
          let is : r 0 ≡ c = omega (arith, level, e) in
          subst (λ k. Found v k) is (subst (λ k. Found k (r 0)) (sym same) start)
      | inr ne ↦
          let level : with_value (λ _. 0) 0 (suc (r 0)) v ≡ 0 = with_value-other (λ _. 0) 0 (suc (r 0)) v ne in
          absurd (omega (arith, level, e))
    ];
    start = omega (arith, with_value-same (λ _. 0) 0 (suc (r 0)));
  }

  pub closed_levels : ClosedLevels r Arrow Found ⊎ V
  closed_levels = raise (suc (n * suc b)) only_start start_sound (omega arith)
