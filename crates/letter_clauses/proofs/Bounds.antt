-- How many letters, rows and numbers there are at most.
use Rattle.std.proofs.Common.{◌≡◌, ℕ, zero, suc, ◌+◌, ◌-◌, ◌*◌, ◌^◌, ◌<◌, ◌≤◌, inl, inr, true, List, length, get_or, subst, arith}
use Rattle.std.specs.Prelude.{All, AllPairs}
use Rattle.std.proofs.Math.Nat.{mul-le-mul, pow-le-pow_right}
use Rattle.std.proofs.lemmas.Bool.{cases_eq}
use Rattle.letters_and_lassos.specs.declared.kinds.Side.{Side}
use Rattle.letters_and_lassos.specs.declared.kinds.Side.TheVariants.{Environment, System}
use Rattle.machine_model.specs.Automaton.{IsAutomaton, states_of}
use Rattle.machine_model.specs.Components.{ComponentsClass, local_count}
use Rattle.machine_model.specs.Problem.{automaton_of, reads_of, writes_of, counts_locally}
use Rattle.machine_model.specs.declared.problems.Problem.{Problem}
use Rattle.product_bound.specs.Annotation.{rejecting_at}
use Rattle.annotation_encode.specs.Variables.{counted_before, state_numbers, sum_first}
use Rattle.annotation_encode.proofs.Counted.{local_counted, sum_first-most}
use Rattle.letter_clauses.specs.Letters.{IsLetterProblem, IsSmallSize}
use Rattle.letter_clauses.specs.Variables.{move_count, row_count}

-- a list that rises has at each place a number that is no less
at_least : (letters : List ℕ) → AllPairs (λ a b. a < b) letters → (k : ℕ) → k < length letters → k ≤ get_or letters k 0
at_least letters rising zero h = omega arith
at_least letters rising (suc k) h =
    let before : k ≤ get_or letters k 0 = at_least letters rising k (omega arith) in
    let step : get_or letters k 0 < get_or letters (suc k) 0 = rising k (suc k) 0 (omega arith) h in
    omega (arith, before, step)

pub few_letters : (letters : List ℕ) (most : ℕ) → All (λ a. a < most) letters → AllPairs (λ a b. a < b) letters → length letters ≤ most
few_letters letters most small rising = elim (cases_eq (length letters) 0) [
  | inl none ↦ omega (arith, none)
  | inr some ↦
      let last : length letters - 1 < length letters = omega (arith, some) in
      let least : length letters - 1 ≤ get_or letters (length letters - 1) 0 = at_least letters rising (length letters - 1) last in
      let below : get_or letters (length letters - 1) 0 < most = small (length letters - 1) 0 last in
      omega (arith, least, below, some)
]

side_small : (side : Side) (a b : ℕ) → a ≤ 16 → b ≤ 16 → elim side [ System ↦ a | Environment ↦ b ] ≤ 16
side_small System a b x y = x
side_small Environment a b x y = y

module _ (p : Problem) (letters : List ℕ) (problem : IsLetterProblem p letters) where
  pub reads_small : reads_of p ≤ 16
  reads_small = side_small p.side p.inputs p.outputs problem.within.inputs problem.within.outputs

  pub writes_small : writes_of p ≤ 16
  writes_small = side_small p.side p.outputs p.inputs problem.within.outputs problem.within.inputs

  pub letters_small : length letters ≤ 65536
  letters_small =
      let all : length letters ≤ 2 ^ reads_of p = few_letters letters (2 ^ reads_of p) problem.list.below problem.list.rising in
      let most : 2 ^ reads_of p ≤ 2 ^ 16 = pow-le-pow_right {n = 2} (omega arith) reads_small in
      omega (arith, all, most)

  pub rows_small : row_count p letters ≤ 1048576
  rows_small =
      let size : p.size ≤ 16 = problem.within.size in
      let b : row_count p letters ≤ 16 * 65536 = mul-le-mul size letters_small in
      omega (arith, b)

  pub moves_small : move_count p letters ≤ 16777216
  moves_small =
      let size : p.size ≤ 16 = problem.within.size in
      let b : move_count p letters ≤ 1048576 * 16 = mul-le-mul rows_small size in
      omega (arith, b)

-- sums over more states are no smaller
pub counted_rise : (p : Problem) (q r : ℕ) → q ≤ r → counted_before p q ≤ counted_before p r
unfolding sum_first
counted_rise p q zero h = let e : q ≡ 0 = omega (arith, h) in subst (λ k. counted_before p q ≤ counted_before p k) e (omega arith)
counted_rise p q (suc r) h = elim (cases_eq q (suc r)) [
  | inl e ↦ subst (λ k. counted_before p q ≤ counted_before p k) e (omega arith)
  | inr ne ↦ let before : counted_before p q ≤ counted_before p r = counted_rise p q r (omega (arith, h, ne)) in omega (arith, before)
]

pub few_at : (p : Problem) (q : ℕ) → ComponentsClass → IsAutomaton (automaton_of p) → counts_locally p ≡ true → states_of (automaton_of p) ≤ 20000 → rejecting_at p q ≤ 20000
few_at p q classes made counts few =
    let local : local_count (automaton_of p) q ≤ states_of (automaton_of p) = (classes (automaton_of p) made).few q in
    let same : rejecting_at p q ≡ local_count (automaton_of p) q = local_counted p q counts in
    omega (arith, local, same, few)

pub few_before : (p : Problem) (q : ℕ) → ComponentsClass → IsAutomaton (automaton_of p) → counts_locally p ≡ true → states_of (automaton_of p) ≤ 20000 → counted_before p q ≤ 20000 * q
few_before p q classes made counts few = sum_first-most (rejecting_at p) q 20000 (λ k _. few_at p k classes made counts few)

module _ (p : Problem) (letters : List ℕ) (small : IsSmallSize p letters) where
  numbers_small : p.size * counted_before p (states_of (automaton_of p)) ≤ 4000000
  numbers_small =
      let some : 1 ≤ p.size = small.problem.within.some in
      let few : p.size * (p.size * counted_before p (states_of (automaton_of p))) ≤ 4000000 = small.few in
      let more : 1 * (p.size * counted_before p (states_of (automaton_of p))) ≤ p.size * (p.size * counted_before p (states_of (automaton_of p)))
      = mul-le-mul some (let same : p.size * counted_before p (states_of (automaton_of p)) ≤ p.size * counted_before p (states_of (automaton_of p)) = omega arith in same) in
      omega (arith, few, more)

  pub before_small : (q : ℕ) → q ≤ states_of (automaton_of p) → p.size * counted_before p q ≤ 4000000
  before_small q h =
      let all : p.size * counted_before p (states_of (automaton_of p)) ≤ 4000000 = numbers_small in
      let more : p.size * counted_before p q ≤ p.size * counted_before p (states_of (automaton_of p))
      = mul-le-mul (let same : p.size ≤ p.size = omega arith in same) (counted_rise p q (states_of (automaton_of p)) h) in
      omega (arith, all, more)

  pub all_numbers_small : p.size * state_numbers p ≤ 4320000
  all_numbers_small =
      let few : p.size * (p.size * counted_before p (states_of (automaton_of p))) ≤ 4000000 = small.few in
      let states : p.size * states_of (automaton_of p) ≤ 16 * 20000 = mul-le-mul small.problem.within.size small.problem.within.states in
      parts p.size (p.size * counted_before p (states_of (automaton_of p))) (states_of (automaton_of p)) few states
    where
      parts : (n x y : ℕ) → n * x ≤ 4000000 → n * y ≤ 16 * 20000 → n * (x + y) ≤ 4320000
      parts n x y a b = let e : n * (x + y) ≡ n * x + n * y = omega arith in omega (arith, a, b, e)
