use Rattle.std.proofs.Common.{◌≡◌, ℕ, zero, suc, ◌+◌, ◌-◌, ◌<◌, ◌≤◌, Bool, true, ◌&&◌, ◌||◌, inl, inr, length, sym, ap, subst, ◌∙◌, arith}
use Rattle.std.specs.Prelude.{not}
use Rattle.std.proofs.lemmas.Bool.{and_parts, and_from, or_cases, or_left, or_right, cases_eq, cases_lt}
use Rattle.std.specs.Cmp.{both_ways}
use Rattle.letters_and_lassos.specs.Word.{Word, HasRing, lasso_len, next, after}
use Rattle.letters_and_lassos.proofs.Positions.{next-last, next-inner, next_within, after_within, after-add, after_forward, after_round}
use Rattle.ltl_formula.specs.Truth.{until_within, until_at, release_at}
use Rattle.letters_and_lassos.specs.Below.{all_below}
use Rattle.letters_and_lassos.proofs.Below.{all_below-from, all_below-gives}
use Rattle.ltl_formula.specs.Laws.{ComesAt, Comes}
use Rattle.ltl_formula.proofs.Tests.{some_below-from, some_below-gives, not-or-not}

module _ (w : Word) (a b : ℕ → Bool) where
  pub until_within-gives : (n i : ℕ) → until_within w a b n i ≡ true → (j : ℕ) × ((j < n) × ComesAt w a b i j)
  until_within-gives n i h =
      let test : ℕ → Bool = λ j. b (after w i j) && all_below j (λ k. a (after w i k)) in
      let found : (j : ℕ) × ((j < n) × (test j ≡ true)) = some_below-gives n test h in
      let parts : (b (after w i found.0) ≡ true) × (all_below found.0 (λ k. a (after w i k)) ≡ true) = and_parts (b (after w i found.0)) (all_below found.0 (λ k. a (after w i k))) found.1.1 in
      (found.0, (found.1.0, record { comes = parts.0; before = all_below-gives found.0 (λ k. a (after w i k)) parts.1 }))

  pub until_within-from : (n i j : ℕ) → j < n → ComesAt w a b i j → until_within w a b n i ≡ true
  until_within-from n i j within at =
      some_below-from n (λ j. b (after w i j) && all_below j (λ k. a (after w i k))) j within
      (and_from (b (after w i j)) (all_below j (λ k. a (after w i k))) at.comes (all_below-from j (λ k. a (after w i k)) at.before))

  -- one step: it comes here, or a holds here and it comes from the next position on
  pub until_within-suc : (n i : ℕ) → until_within w a b (suc n) i ≡ (b i || (a i && until_within w a b n (next w i)))
  until_within-suc n i = both_ways _ _ to from
    where
      to : until_within w a b (suc n) i ≡ true → (b i || (a i && until_within w a b n (next w i))) ≡ true
      to h =
          let found : (j : ℕ) × ((j < suc n) × ComesAt w a b i j) = until_within-gives (suc n) i h in
          step found.0 found.1.0 found.1.1
        where
          step : (j : ℕ) → j < suc n → ComesAt w a b i j → (b i || (a i && until_within w a b n (next w i))) ≡ true
          step zero within at = or_left (b i) (a i && until_within w a b n (next w i)) at.comes
          step (suc j) within at =
              or_right (b i) (a i && until_within w a b n (next w i))
              (and_from (a i) (until_within w a b n (next w i)) (at.before 0 (omega arith))
              (until_within-from n (next w i) j (omega arith) (record { comes = at.comes; before = λ k h. at.before (suc k) (omega arith) })))

      from : (b i || (a i && until_within w a b n (next w i))) ≡ true → until_within w a b (suc n) i ≡ true
      from h =
          elim (or_cases (b i) (a i && until_within w a b n (next w i)) h) [
            | inl here ↦ until_within-from (suc n) i 0 (omega arith) (record { comes = here; before = λ k none. absurd (omega arith) })
            | inr later ↦
                let parts : (a i ≡ true) × (until_within w a b n (next w i) ≡ true) = and_parts (a i) (until_within w a b n (next w i)) later in
                let found : (j : ℕ) × ((j < n) × ComesAt w a b (next w i) j) = until_within-gives n (next w i) parts.1 in
                let within : found.0 < n = found.1.0 in
                until_within-from (suc n) i (suc found.0) (omega arith) (record {
                  comes = found.1.1.comes;
                  before = first parts.0 found.0 found.1.1.before;
                })
          ]
        where
          first : a i ≡ true → (j : ℕ) → ((k : ℕ) → k < j → a (after w (next w i) k) ≡ true) → (k : ℕ) → k < suc j → a (after w i k) ≡ true
          first here j rest zero within = here
          first here j rest (suc k) within = rest k (omega arith)

-- the ring is never left
next_in_ring : (w : Word) (i : ℕ) → length w.stem ≤ i → length w.stem ≤ next w i
next_in_ring w i h =
    elim (cases_eq (i + 1) (lasso_len w)) [
      | inl last ↦ rw (next-last w i last) (omega arith)
      | inr inner ↦ rw (next-inner w i inner) (omega arith)
    ]

after_in_ring : (w : Word) (i j : ℕ) → length w.stem ≤ i → length w.stem ≤ after w i j
after_in_ring w i zero h = h
after_in_ring w i (suc j) h = after_in_ring w (next w i) j (next_in_ring w i h)

-- after as many steps as the stem is long the ring is reached
reaches_ring : (w : Word) (i : ℕ) → HasRing w → i < lasso_len w → length w.stem ≤ after w i (length w.stem)
reaches_ring w i ring within =
    elim (cases_lt i (length w.stem)) [
      | inr past ↦ after_in_ring w i (length w.stem) past
      | inl before ↦
          let m : ℕ = length w.stem - i in
          let split : length w.stem ≡ m + i = omega arith in
          let there : after w i m ≡ length w.stem = after_forward w i m (omega arith) ∙ (let e : i + m ≡ length w.stem = omega arith in e) in
          let on : after w i (length w.stem) ≡ after w (after w i m) i = ap (after w i) split ∙ after-add w i m i in
          rw (on, there) (after_in_ring w (length w.stem) i (let e : length w.stem ≤ length w.stem = omega arith in e))
    ]

-- what comes at all comes within any number of steps that goes once round the ring
module _ (w : Word) (a b : ℕ → Bool) (i n : ℕ) (ring : HasRing w) (within : i < lasso_len w) (room : length w.ring ≤ n)
    (inside : length w.stem ≤ after w i (n - length w.ring)) where
  sooner_by : (fuel j : ℕ) → j ≤ fuel → ComesAt w a b i j → (k : ℕ) × ((k < n) × ComesAt w a b i k)
  sooner_by zero j small at = (j, (omega arith, at))
  sooner_by (suc fuel) j small at =
      elim (cases_lt j n) [
        | inl before ↦ (j, (before, at))
        | inr past ↦
            let back : ℕ = j - length w.ring in
            let rest : ℕ = back - (n - length w.ring) in
            let split : (n - length w.ring) + rest ≡ back = omega arith in
            let round : back + length w.ring ≡ j = omega arith in
            let here : length w.stem ≤ after w i back =
            subst (λ m. length w.stem ≤ after w i m) split
            (rw (after-add w i (n - length w.ring) rest) (after_in_ring w (after w i (n - length w.ring)) rest inside)) in
            let same : after w i j ≡ after w i back =
            ap (after w i) (sym round) ∙ after-add w i back (length w.ring) ∙ after_round w (after w i back) ring here (after_within w i back ring within) in
            sooner_by fuel back (omega arith) (record {
              comes = subst (λ p. b p ≡ true) same at.comes;
              before = λ k h. at.before k (omega arith);
            })
      ]

  pub sooner : (j : ℕ) → ComesAt w a b i j → (k : ℕ) × ((k < n) × ComesAt w a b i k)
  sooner j at = sooner_by j j (omega arith) at

  pub until_within-comes : Comes w a b i → until_within w a b n i ≡ true
  until_within-comes (j, at) =
      let found : (k : ℕ) × ((k < n) × ComesAt w a b i k) = sooner j at in
      until_within-from w a b n i found.0 found.1.0 found.1.1

-- `until_at` reads as: b comes at some time, and a holds until then
pub until_at-from : (w : Word) (a b : ℕ → Bool) (i : ℕ) → HasRing w → i < lasso_len w → Comes w a b i → until_at w a b i ≡ true
until_at-from w a b i ring within comes =
    let e : lasso_len w - length w.ring ≡ length w.stem = omega arith in
    until_within-comes w a b i (lasso_len w) ring within (omega arith) (rw e (reaches_ring w i ring within)) comes

pub until_at-gives : (w : Word) (a b : ℕ → Bool) (i : ℕ) → until_at w a b i ≡ true → Comes w a b i
until_at-gives w a b i h =
    let found : (j : ℕ) × ((j < lasso_len w) × ComesAt w a b i j) = until_within-gives w a b (lasso_len w) i h in
    (found.0, found.1.1)

-- from the ring's first position one trip round decides
pub until_at-ring : (w : Word) (a b : ℕ → Bool) → HasRing w → until_within w a b (length w.ring) (length w.stem) ≡ until_at w a b (length w.stem)
until_at-ring w a b ring = both_ways _ _ to from
  where
    s : ℕ
    s = length w.stem

    to : until_within w a b (length w.ring) (length w.stem) ≡ true → until_at w a b (length w.stem) ≡ true
    to h =
        let found : (j : ℕ) × ((j < length w.ring) × ComesAt w a b (length w.stem) j) = until_within-gives w a b (length w.ring) (length w.stem) h in
        until_at-from w a b (length w.stem) ring (omega arith) (found.0, found.1.1)

    from : until_at w a b (length w.stem) ≡ true → until_within w a b (length w.ring) (length w.stem) ≡ true
    from h =
        let none : length w.ring - length w.ring ≡ 0 = omega arith in
        until_within-comes w a b (length w.stem) (length w.ring) ring (omega arith) (omega arith)
        (rw none (let e : length w.stem ≤ length w.stem = omega arith in e)) (until_at-gives w a b (length w.stem) h)

-- until and release at a position unfold into the position and the next
pub until_at-unfold : (w : Word) (a b : ℕ → Bool) (i : ℕ) → HasRing w → i < lasso_len w → until_at w a b i ≡ (b i || (a i && until_at w a b (next w i)))
until_at-unfold w a b i ring within = both_ways _ _ to from
  where
    to : until_at w a b i ≡ true → (b i || (a i && until_at w a b (next w i))) ≡ true
    to h = step (until_at-gives w a b i h)
      where
        step : Comes w a b i → (b i || (a i && until_at w a b (next w i))) ≡ true
        step (zero, at) = or_left (b i) (a i && until_at w a b (next w i)) at.comes
        step (suc j, at) =
            or_right (b i) (a i && until_at w a b (next w i))
            (and_from (a i) (until_at w a b (next w i)) (at.before 0 (omega arith))
            (until_at-from w a b (next w i) ring (next_within w i ring within)
            (j, record { comes = at.comes; before = λ k h. at.before (suc k) (omega arith) })))

    from : (b i || (a i && until_at w a b (next w i))) ≡ true → until_at w a b i ≡ true
    from h =
        elim (or_cases (b i) (a i && until_at w a b (next w i)) h) [
          | inl here ↦ until_at-from w a b i ring within (0, record { comes = here; before = λ k none. absurd (omega arith) })
          | inr later ↦
              let parts : (a i ≡ true) × (until_at w a b (next w i) ≡ true) = and_parts (a i) (until_at w a b (next w i)) later in
              let found : Comes w a b (next w i) = until_at-gives w a b (next w i) parts.1 in
              until_at-from w a b i ring within (suc found.0, record { comes = found.1.comes; before = first parts.0 found.0 found.1.before })
        ]
      where
        first : a i ≡ true → (j : ℕ) → ((k : ℕ) → k < j → a (after w (next w i) k) ≡ true) → (k : ℕ) → k < suc j → a (after w i k) ≡ true
        first here j rest zero within = here
        first here j rest (suc k) within = rest k (omega arith)

pub release_at-unfold : (w : Word) (a b : ℕ → Bool) (i : ℕ) → HasRing w → i < lasso_len w → release_at w a b i ≡ (b i && (a i || release_at w a b (next w i)))
release_at-unfold w a b i ring within =
    ap not (until_at-unfold w (λ k. not (a k)) (λ k. not (b k)) i ring within)
    ∙ not-or-not (b i) (a i) (until_at w (λ k. not (a k)) (λ k. not (b k)) (next w i))
