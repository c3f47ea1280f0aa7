-- How many rejecting states are counted, and where the numbers of a pair begin.
use Rattle.std.proofs.Common.{◌≡◌, ℕ, zero, suc, ◌+◌, ◌*◌, ◌<◌, ◌≤◌, Bool, true, false, not, List, [], ◌∷◌, length, refl, ap, ◌∙◌, arith, cond, inl, inr}
use Rattle.std.specs.Prelude.{◌&&◌, count_by}
use Rattle.std.proofs.lemmas.Bool.{cases_eq, cases_lt, cond-true, cond-false}
use Rattle.std.proofs.lemmas.List.{length-append}
use Rattle.std.proofs.lemmas.List.Sums.{sum_by-cons}
use mathlib.Core.Bool.{and-false}
use Rattle.text_limits.specs.declared.TheConstants.{SMALL_LIMITS}
use Rattle.machine_model.specs.Automaton.{AutomatonModel, IsAutomaton, states_of}
use Rattle.machine_model.specs.Components.{ComponentsClass, local_before, local_count}
use Rattle.machine_model.specs.Problem.{automaton_of, counts_locally}
use Rattle.machine_model.specs.declared.automata.Edge.{Edge}
use Rattle.machine_model.specs.declared.problems.Problem.{Problem}
use Rattle.machine_model.proofs.Classes.{joined_self}
use Rattle.product_bound.specs.Annotation.{bound_at, leaves, number_after, rejecting_at, rejecting_count, rise_at}
use Rattle.annotation_encode.specs.BaseClauses.{each_below, step_count}
use Rattle.annotation_encode.specs.Variables.{WholeNumbers, counted_before, number_count, numbers_before, state_numbers, sum_first}

-- sums
pub sum_first-same : (f g : ℕ → ℕ) (n : ℕ) → ((k : ℕ) → k < n → f k ≡ g k) → sum_first f n ≡ sum_first g n
unfolding sum_first
sum_first-same f g zero same = refl
sum_first-same f g (suc n) same = λ i. sum_first-same f g n (λ k h. same k (omega arith)) i + same n (omega arith) i

pub sum_first-times : (w : ℕ) (f : ℕ → ℕ) (n : ℕ) → sum_first (λ k. w * f k) n ≡ w * sum_first f n
unfolding sum_first
sum_first-times w f zero = omega arith
sum_first-times w f (suc n) = let before : sum_first (λ k. w * f k) n ≡ w * sum_first f n = sum_first-times w f n in omega (arith, before)

pub sum_first-most : (f : ℕ → ℕ) (n most : ℕ) → ((k : ℕ) → k < n → f k ≤ most) → sum_first f n ≤ most * n
unfolding sum_first
sum_first-most f zero most each = omega arith
sum_first-most f (suc n) most each =
    let before : sum_first f n ≤ most * n = sum_first-most f n most (λ k h. each k (omega arith)) in
    let here : f n ≤ most = each n (omega arith) in
    let more : most * suc n ≡ most * n + most = omega arith in
    omega (arith, before, here, more)

constant_sum : (w n : ℕ) → sum_first (λ _. w) n ≡ n * w
unfolding sum_first
constant_sum w zero = omega arith
constant_sum w (suc n) = let before : sum_first (λ _. w) n ≡ n * w = constant_sum w n in omega (arith, before)

-- pieces whose lengths are known
pub length-each_sum : {A : Type 0} (n : ℕ) (f : ℕ → List A) (size : ℕ → ℕ) → ((k : ℕ) → k < n → length (f k) ≡ size k) → length (each_below n f) ≡ sum_first size n
unfolding sum_first
length-each_sum zero f size each = refl
length-each_sum (suc n) f size each =
    length-append (each_below n f) (f n) ∙ (λ i. length-each_sum n f size (λ k h. each k (omega arith)) i + each n (omega arith) i)

sum_is_before : (a : AutomatonModel) (q : ℕ) → sum_first (local_count a) q ≡ local_before a q
unfolding sum_first local_before
sum_is_before a zero = refl
sum_is_before a (suc q) = ap (λ n. n + local_count a q) (sum_is_before a q)

pub local_counted : (p : Problem) (q : ℕ) → counts_locally p ≡ true → rejecting_at p q ≡ local_count (automaton_of p) q
local_counted p q local = cond-true (counts_locally p) (local_count (automaton_of p) q) (rejecting_count (automaton_of p)) local

pub whole_counted : (p : Problem) (q : ℕ) → counts_locally p ≡ false → rejecting_at p q ≡ rejecting_count (automaton_of p)
whole_counted p q whole = cond-false (counts_locally p) (local_count (automaton_of p) q) (rejecting_count (automaton_of p)) whole

pub local_sum : (p : Problem) (q : ℕ) → counts_locally p ≡ true → counted_before p q ≡ local_before (automaton_of p) q
local_sum p q local = sum_first-same (rejecting_at p) (local_count (automaton_of p)) q (λ k _. local_counted p k local) ∙ sum_is_before (automaton_of p) q

pub whole_sum : (p : Problem) (q : ℕ) → counts_locally p ≡ false → counted_before p q ≡ q * rejecting_count (automaton_of p)
whole_sum p q whole =
    sum_first-same (rejecting_at p) (λ _. rejecting_count (automaton_of p)) q (λ k _. whole_counted p k whole) ∙ constant_sum (rejecting_count (automaton_of p)) q

pub whole_numbers : WholeNumbers
whole_numbers p q whole = ap (λ n. p.size * n + q) (whole_sum p q whole) ∙ (let e : p.size * (q * rejecting_count (automaton_of p)) + q ≡ q * (p.size * rejecting_count (automaton_of p) + 1) = omega arith in e)

-- no more are counted than there are states
counted_most : (xs : List Bool) → count_by (λ x. x) xs ≤ length xs
counted_most [] = omega arith
counted_most (x ∷ xs) =
    let step : count_by (λ is. is) (x ∷ xs) ≡ cond x 1 0 + count_by (λ is. is) xs = sum_by-cons (λ is. cond is 1 0) x xs in
    let rest : count_by (λ is. is) xs ≤ length xs = counted_most xs in
    let one : cond x 1 0 ≤ 1 = small x in
    omega (arith, step, rest, one)
  where
    small : (b : Bool) → cond b 1 0 ≤ 1
    small true = omega arith
    small false = omega arith

pub whole_few : (p : Problem) → rejecting_count (automaton_of p) ≤ states_of (automaton_of p)
whole_few p = counted_most (automaton_of p).rejecting

pub few_at : (p : Problem) (q : ℕ) → ComponentsClass → IsAutomaton (automaton_of p) → states_of (automaton_of p) ≤ SMALL_LIMITS.automaton.states → rejecting_at p q ≤ SMALL_LIMITS.automaton.states
few_at p q classes made few = go (counts_locally p)
  where
    local : local_count (automaton_of p) q ≤ states_of (automaton_of p)
    local = (classes (automaton_of p) made).few q

    whole : rejecting_count (automaton_of p) ≤ states_of (automaton_of p)
    whole = whole_few p

    go : (b : Bool) → cond b (local_count (automaton_of p) q) (rejecting_count (automaton_of p)) ≤ SMALL_LIMITS.automaton.states
    go true = omega (arith, local, few)
    go false = omega (arith, whole, few)

pub few_before : (p : Problem) (q : ℕ) → ComponentsClass → IsAutomaton (automaton_of p) → states_of (automaton_of p) ≤ SMALL_LIMITS.automaton.states → counted_before p q ≤ SMALL_LIMITS.automaton.states * q
few_before p q classes made few = sum_first-most (rejecting_at p) q SMALL_LIMITS.automaton.states (λ k _. few_at p k classes made few)

-- where the numbers of a state begin
pub numbers_step : (p : Problem) (q : ℕ) → numbers_before p (suc q) ≡ numbers_before p q + number_count p q
unfolding sum_first
numbers_step p q = omega arith

pub numbers_rise : (p : Problem) (q r : ℕ) → q < r → numbers_before p q + number_count p q ≤ numbers_before p r
numbers_rise p q zero h = absurd (omega arith)
numbers_rise p q (suc r) h =
    let step : numbers_before p (suc r) ≡ numbers_before p r + number_count p r = numbers_step p r in
    elim (cases_eq q r) [
      | inl e ↦ let same : numbers_before p q + number_count p q ≡ numbers_before p r + number_count p r = ap (λ k. numbers_before p k + number_count p k) e in omega (arith, step, same)
      | inr ne ↦ let before : numbers_before p q + number_count p q ≤ numbers_before p r = numbers_rise p q r (omega (arith, h, ne)) in omega (arith, before, step)
    ]

pub number_within : (p : Problem) (q c : ℕ) → q < states_of (automaton_of p) → c ≤ bound_at p q → numbers_before p q + c < state_numbers p
number_within p q c hq hc = let end : numbers_before p q + number_count p q ≤ state_numbers p = numbers_rise p q (states_of (automaton_of p)) hq in omega (arith, end, hc)

pub same_number : (p : Problem) (q c r d : ℕ) → c ≤ bound_at p q → d ≤ bound_at p r → numbers_before p q + c ≡ numbers_before p r + d → (q ≡ r) × (c ≡ d)
same_number p q c r d hc hd e =
    elim (cases_lt q r) [
      | inl less ↦ absurd (let end : numbers_before p q + number_count p q ≤ numbers_before p r = numbers_rise p q r less in omega (arith, end, hc, e))
      | inr ge ↦ elim (cases_lt r q) [
        | inl more ↦ absurd (let end : numbers_before p r + number_count p r ≤ numbers_before p q = numbers_rise p r q more in omega (arith, end, hd, e))
        | inr le ↦
            let same : q ≡ r = omega (arith, ge, le) in
            let begin : numbers_before p q ≡ numbers_before p r = ap (numbers_before p) same in
            (same, omega (arith, begin, e))
      ]
    ]

pub stays : (p : Problem) (q : ℕ) → leaves p q q ≡ false
stays p q = ap (λ b. counts_locally p && not b) (joined_self (automaton_of p) q) ∙ and-false (counts_locally p)

-- numbers behind an edge
pub after_stays : (p : Problem) (q r c : ℕ) → leaves p q r ≡ false → number_after p q r c ≡ c + rise_at (automaton_of p) r
after_stays p q r c h = cond-false (leaves p q r) 0 (c + rise_at (automaton_of p) r) h

pub after_rises : (p : Problem) (q r c d : ℕ) → c ≤ d → number_after p q r c ≤ number_after p q r d
after_rises p q r c d h = go (leaves p q r)
  where
    go : (b : Bool) → cond b 0 (c + rise_at (automaton_of p) r) ≤ cond b 0 (d + rise_at (automaton_of p) r)
    go true = omega arith
    go false = omega (arith, h)

pub step_within : (p : Problem) (e : Edge) (c : ℕ) → c < step_count p e → c ≤ bound_at p e.from
step_within p e c h = go (leaves p e.from e.to) h
  where
    go : (b : Bool) → c < cond b 1 (number_count p e.from) → c ≤ bound_at p e.from
    go true less = omega (arith, less)
    go false less = omega (arith, less)
