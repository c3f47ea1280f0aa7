-- How many base clauses there are.
use Rattle.std.proofs.Common.{◌≡◌, ℕ, zero, suc, ◌+◌, ◌-◌, ◌*◌, ◌^◌, ◌<◌, ◌≤◌, inl, inr, Bool, true, false, not, List, [], ◌∷◌, ◌++◌, Some, None, length, get_or, take, refl, sym, ap, ◌∙◌, arith, cond}
use Rattle.std.specs.Prelude.{◌==◌, ◌&&◌, nat_le}
use Rattle.std.specs.List.{flat_map}
use Rattle.std.proofs.Math.Nat.{two-pow-succ}
use Rattle.std.proofs.lemmas.Bool.{cases_eq, cond-true, cond-false, eq-eqb, ne_eqb, not-true, not-false}
use Rattle.std.proofs.lemmas.Bool.Decides.{leb_tells}
use Rattle.std.proofs.lemmas.List.{append-nil, length-append, take_all, take_more}
use Rattle.std.proofs.lemmas.List.Concat.{flat_map-append}
use Rattle.std.proofs.lemmas.List.Folds.{length-flat_map-take}
use Rattle.std.proofs.lemmas.Nat.Bits.{bit_at_cat_high}
use mathlib.Core.Bool.{and-true, and-false}
use Rattle.propositional_logic.specs.Literal.{Literal}
use Rattle.letters_and_lassos.specs.Signals.{has}
use Rattle.letters_and_lassos.specs.declared.cubes.Cube.{Cube}
use Rattle.letters_and_lassos.proofs.Sets.{has-past}
use Rattle.machine_model.specs.Automaton.{rejects, states_of}
use Rattle.machine_model.specs.Problem.{automaton_of, counts_locally, numbers_states, reads_of}
use Rattle.machine_model.specs.declared.automata.Edge.{Edge}
use Rattle.machine_model.specs.declared.problems.Problem.{Problem}
use Rattle.product_bound.specs.Annotation.{bound_at, rejecting_at}
use Rattle.annotation_encode.specs.BaseClauses.{base_clauses, chain_clause, chain_clauses, each_below, edge_clauses, fits_read, is_idle, letter_clauses, order_clause, order_clauses, pair_chains, read_signal, row_clause, row_clauses, row_count, row_orders, signal_fits, start_clause, state_chains, state_clauses, step_clause, step_clauses, step_count}
use Rattle.letters_and_lassos.specs.Below.{all_below}
use Rattle.annotation_encode.specs.Count.{chain_count, count_of, free_below, is_free, most_clauses, order_count, passing, target_count}
use Rattle.annotation_encode.specs.Variables.{counted_before, letter_count}
use Rattle.annotation_encode.proofs.Counted.{length-each_sum, sum_first-times}
use Rattle.annotation_encode.proofs.Lists.{length-each_below}
use Rattle.annotation_encode.proofs.Letters.{low_signal}

-- pieces that have one length where a test passes, and else none
length-each_if : {A : Type 0} (n w : ℕ) (test : ℕ → Bool) (f : ℕ → List A) → ((k : ℕ) → k < n → test k ≡ true → length (f k) ≡ w) → ((k : ℕ) → k < n → test k ≡ false → length (f k) ≡ 0)
    → length (each_below n f) ≡ passing n test * w
length-each_if zero w test f yes' no' = let e : 0 ≡ 0 * w = omega arith in e
length-each_if (suc n) w test f yes' no' =
    let before : length (each_below n f) ≡ passing n test * w = length-each_if n w test f (λ k h. yes' k (omega arith)) (λ k h. no' k (omega arith)) in
    let both : length (each_below n f ++ f n) ≡ length (each_below n f) + length (f n) = length-append (each_below n f) (f n) in
    go (test n) refl before both
  where
    go : (b : Bool) → test n ≡ b → length (each_below n f) ≡ passing n test * w → length (each_below n f ++ f n) ≡ length (each_below n f) + length (f n)
        → length (each_below n f ++ f n) ≡ (passing n test + cond (test n) 1 0) * w
    go true e before both =
        let here : length (f n) ≡ w = yes' n (omega arith) e in
        let one : (passing n test + 1) * w ≡ passing n test * w + w = omega arith in
        both ∙ omega (arith, before, here, one) ∙ ap (λ b. (passing n test + cond b 1 0) * w) (sym e)
    go false e before both =
        let here : length (f n) ≡ 0 = no' n (omega arith) e in
        let none : (passing n test + 0) * w ≡ passing n test * w = omega arith in
        both ∙ omega (arith, before, here, none) ∙ ap (λ b. (passing n test + cond b 1 0) * w) (sym e)

pub passing-same : (n : ℕ) (f g : ℕ → Bool) → ((k : ℕ) → k < n → f k ≡ g k) → passing n f ≡ passing n g
passing-same zero f g same = refl
passing-same (suc n) f g same = λ i. passing-same n f g (λ k h. same k (omega arith)) i + cond (same n (omega arith) i) 1 0

passing-none : (n : ℕ) (f : ℕ → Bool) → ((k : ℕ) → k < n → f k ≡ false) → passing n f ≡ 0
passing-none zero f none = refl
passing-none (suc n) f none =
    let before : passing n f ≡ 0 = passing-none n f (λ k h. none k (omega arith)) in
    (λ i. before i + cond (none n (omega arith) i) 1 0)

pub passing-all : (n : ℕ) (f : ℕ → Bool) → ((k : ℕ) → k < n → f k ≡ true) → passing n f ≡ n
passing-all zero f all = refl
passing-all (suc n) f all =
    let before : passing n f ≡ n = passing-all n f (λ k h. all k (omega arith)) in
    (λ i. before i + cond (all n (omega arith) i) 1 0) ∙ (let e : n + 1 ≡ suc n = omega arith in e)

passing-add : (a b : ℕ) (f : ℕ → Bool) → passing (a + b) f ≡ passing a f + passing b (λ k. f (a + k))
passing-add a zero f = let e : a + 0 ≡ a = omega arith in ap (λ n. passing n f) e ∙ (let z : passing a f ≡ passing a f + 0 = omega arith in z)
passing-add a (suc b) f =
    let e : a + suc b ≡ suc (a + b) = omega arith in
    let before : passing (a + b) f ≡ passing a f + passing b (λ k. f (a + k)) = passing-add a b f in
    ap (λ n. passing n f) e ∙ ap (λ n. n + cond (f (a + b)) 1 0) before
    ∙ (let z : passing a f + passing b (λ k. f (a + k)) + cond (f (a + b)) 1 0 ≡ passing a f + (passing b (λ k. f (a + k)) + cond (f (a + b)) 1 0) = omega arith in z)

abbrev weight : Bool → ℕ
weight b = cond (not (b && true)) 1 0

-- a test that passes everywhere but at t
pub passing-but : (n t : ℕ) → t < n → passing n (λ k. not ((t == k) && true)) + 1 ≡ n
passing-but zero t h = absurd (omega arith)
passing-but (suc n) t h =
    elim (cases_eq t n) [
      | inl e ↦
          let here : (t == n) ≡ true = eq-eqb t n e in
          let before : passing n (λ k. not ((t == k) && true)) ≡ n = passing-all n (λ k. not ((t == k) && true)) (λ k less. let apart : (t == k) ≡ false = ne_eqb t k (λ s. omega (arith, e, s, less)) in ap (λ b. not (b && true)) apart) in
          let last : weight (t == n) ≡ 0 = ap weight here in
          omega (arith, before, last)
      | inr ne ↦
          let here : (t == n) ≡ false = ne_eqb t n ne in
          let before : passing n (λ k. not ((t == k) && true)) + 1 ≡ n = passing-but n t (omega (arith, h, ne)) in
          let last : weight (t == n) ≡ 1 = ap weight here in
          omega (arith, before, last)
    ]

set_bit : (k b : ℕ) → b < 2 ^ k → has (1 * 2 ^ k + b) k ≡ true
set_bit k b h = let e : k - k ≡ 0 = omega arith in ap (λ n. n == 1) (bit_at_cat_high 1 k b k h (omega arith)) ∙ ap (has 1) e

no_bit : (k b : ℕ) → b < 2 ^ k → has b k ≡ false
no_bit k b h = go (has b k) refl
  where
    go : (x : Bool) → has b k ≡ x → x ≡ false
    go true e = absurd (has-past b k k h (omega arith) e)
    go false e = refl

all_below-same : (n : ℕ) (f g : ℕ → Bool) → ((k : ℕ) → k < n → f k ≡ g k) → all_below n f ≡ all_below n g
all_below-same zero f g same = refl
all_below-same (suc n) f g same = λ i. all_below-same n f g (λ k h. same k (omega arith)) i && same n (omega arith) i

module _ (p : Problem) (cube : Cube) where
  fits_first : ℕ → ℕ → Bool
  fits_first n i = all_below n (λ s. signal_fits cube (read_signal p s) (has i s))

  -- with one more signal, which isn't set or is
  low_half : (n i : ℕ) → i < 2 ^ n → fits_first (suc n) i ≡ (fits_first n i && not (has cube.must (read_signal p n)))
  unfolding fits_first
  low_half n i h = ap (λ b. fits_first n i && signal_fits cube (read_signal p n) b) (no_bit n i h)

  high_half : (n i : ℕ) → i < 2 ^ n → fits_first (suc n) (2 ^ n + i) ≡ (fits_first n i && not (has cube.not (read_signal p n)))
  unfolding fits_first
  high_half n i h =
      let e : 2 ^ n + i ≡ 1 * 2 ^ n + i = omega arith in
      ap (fits_first (suc n)) e
      ∙ (λ j. all_below-same n (λ s. signal_fits cube (read_signal p s) (has (1 * 2 ^ n + i) s)) (λ s. signal_fits cube (read_signal p s) (has i s))
      (λ s less. ap (signal_fits cube (read_signal p s)) (low_signal 1 n i s less)) j
      && signal_fits cube (read_signal p n) (set_bit n i h j))

  halves : (n : ℕ) → passing (2 ^ suc n) (fits_first (suc n))
      ≡ passing (2 ^ n) (λ i. fits_first n i && not (has cube.must (read_signal p n))) + passing (2 ^ n) (λ i. fits_first n i && not (has cube.not (read_signal p n)))
  halves n =
      ap (λ k. passing k (fits_first (suc n))) (two-pow-succ n)
      ∙ passing-add (2 ^ n) (2 ^ n) (fits_first (suc n))
      ∙ (λ j. passing-same (2 ^ n) (fits_first (suc n)) (λ i. fits_first n i && not (has cube.must (read_signal p n))) (low_half n) j
      + passing-same (2 ^ n) (λ i. fits_first (suc n) (2 ^ n + i)) (λ i. fits_first n i && not (has cube.not (read_signal p n))) (high_half n) j)

  with_test : (n : ℕ) (b : Bool) → passing (2 ^ n) (λ i. fits_first n i && b) ≡ cond b (passing (2 ^ n) (fits_first n)) 0
  with_test n true = passing-same (2 ^ n) (λ i. fits_first n i && true) (fits_first n) (λ i h. and-true (fits_first n i))
  with_test n false = passing-none (2 ^ n) (λ i. fits_first n i && false) (λ i h. and-false (fits_first n i))

  fitting : (n : ℕ) → passing (2 ^ n) (fits_first n) ≡ 2 ^ free_below p cube n
  unfolding fits_first
  fitting zero = refl
  fitting (suc n) =
      let before : passing (2 ^ n) (fits_first n) ≡ 2 ^ free_below p cube n = fitting n in
      halves n
      ∙ (λ j. with_test n (not (has cube.must (read_signal p n))) j + with_test n (not (has cube.not (read_signal p n))) j)
      ∙ by_signal (has cube.must (read_signal p n)) (has cube.not (read_signal p n)) refl refl before
    where
      free_is : (must none : Bool) → has cube.must (read_signal p n) ≡ must → has cube.not (read_signal p n) ≡ none → is_free cube (read_signal p n) ≡ (not must && not none)
      free_is must none a b = λ j. not (a j) && not (b j)

      by_signal : (must none : Bool) → has cube.must (read_signal p n) ≡ must → has cube.not (read_signal p n) ≡ none → passing (2 ^ n) (fits_first n) ≡ 2 ^ free_below p cube n
          → cond (not (has cube.must (read_signal p n))) (passing (2 ^ n) (fits_first n)) 0 + cond (not (has cube.not (read_signal p n))) (passing (2 ^ n) (fits_first n)) 0
          ≡ 2 ^ (free_below p cube n + cond (is_free cube (read_signal p n)) 1 0)
      by_signal true true a b before = absurd (cube.apart (read_signal p n) a b)
      by_signal true false a b before =
          (λ j. cond (not (a j)) (passing (2 ^ n) (fits_first n)) 0 + cond (not (b j)) (passing (2 ^ n) (fits_first n)) 0)
          ∙ (let z : 0 + passing (2 ^ n) (fits_first n) ≡ passing (2 ^ n) (fits_first n) = omega arith in z)
          ∙ before
          ∙ ap (λ k. 2 ^ k) (let z : free_below p cube n ≡ free_below p cube n + 0 = omega arith in z)
          ∙ (λ j. 2 ^ (free_below p cube n + cond (sym (free_is true false a b) j) 1 0))
      by_signal false true a b before =
          (λ j. cond (not (a j)) (passing (2 ^ n) (fits_first n)) 0 + cond (not (b j)) (passing (2 ^ n) (fits_first n)) 0)
          ∙ (let z : passing (2 ^ n) (fits_first n) + 0 ≡ passing (2 ^ n) (fits_first n) = omega arith in z)
          ∙ before
          ∙ ap (λ k. 2 ^ k) (let z : free_below p cube n ≡ free_below p cube n + 0 = omega arith in z)
          ∙ (λ j. 2 ^ (free_below p cube n + cond (sym (free_is false true a b) j) 1 0))
      by_signal false false a b before =
          (λ j. cond (not (a j)) (before j) 0 + cond (not (b j)) (before j) 0)
          ∙ sym (two-pow-succ (free_below p cube n))
          ∙ ap (λ k. 2 ^ k) (let z : suc (free_below p cube n) ≡ free_below p cube n + 1 = omega arith in z)
          ∙ (λ j. 2 ^ (free_below p cube n + cond (sym (free_is false false a b) j) 1 0))

length-steps : (p : Problem) (e : Edge) (t i to : ℕ) (idle : Bool) → is_idle p e t to ≡ idle → length (step_clauses p e t i to) ≡ cond idle 0 (step_count p e)
length-steps p e t i to true h = ap length (cond-true (is_idle p e t to) [] (each_below (step_count p e) (λ c. step_clause p e t i to c ∷ [])) h)
length-steps p e t i to false h =
    ap length (cond-false (is_idle p e t to) [] (each_below (step_count p e) (λ c. step_clause p e t i to c ∷ [])) h)
    ∙ length-each_below (step_count p e) 1 (λ c. step_clause p e t i to c ∷ []) (λ c less. refl)
    ∙ (let z : step_count p e * 1 ≡ step_count p e = omega arith in z)

pub targets : (p : Problem) (e : Edge) (t : ℕ) → t < p.size → passing p.size (λ to. not (is_idle p e t to)) ≡ target_count p e
targets p e t ht = go ((e.from == e.to) && not (rejects (automaton_of p) e.to)) refl
  where
    go : (calm : Bool) → ((e.from == e.to) && not (rejects (automaton_of p) e.to)) ≡ calm
        → passing p.size (λ to. not (is_idle p e t to)) ≡ cond ((e.from == e.to) && not (rejects (automaton_of p) e.to)) (p.size - 1) p.size
    go true h =
        let but : passing p.size (λ to. not ((t == to) && true)) + 1 ≡ p.size = passing-but p.size t ht in
        ap (λ b. passing p.size (λ to. not ((t == to) && b))) h
        ∙ (let z : passing p.size (λ to. not ((t == to) && true)) ≡ p.size - 1 = omega (arith, but) in z)
        ∙ sym (cond-true ((e.from == e.to) && not (rejects (automaton_of p) e.to)) (p.size - 1) p.size h)
    go false h =
        ap (λ b. passing p.size (λ to. not ((t == to) && b))) h
        ∙ passing-all p.size (λ to. not ((t == to) && false)) (λ k less. ap not (and-false (t == k)))
        ∙ sym (cond-false ((e.from == e.to) && not (rejects (automaton_of p) e.to)) (p.size - 1) p.size h)

length-targets : (p : Problem) (e : Edge) (t i : ℕ) → t < p.size → length (each_below p.size (λ to. step_clauses p e t i to)) ≡ target_count p e * step_count p e
length-targets p e t i ht =
    length-each_if p.size (step_count p e) (λ to. not (is_idle p e t to)) (λ to. step_clauses p e t i to)
    (λ to less busy. length-steps p e t i to false (not-true (is_idle p e t to) busy))
    (λ to less idle. length-steps p e t i to true (not-false (is_idle p e t to) idle))
    ∙ ap (λ n. n * step_count p e) (targets p e t ht)

length-letters : (p : Problem) (e : Edge) (t : ℕ) → t < p.size → length (state_clauses p e t) ≡ 2 ^ free_below p e.cube (reads_of p) * (target_count p e * step_count p e)
unfolding fits_first
length-letters p e t ht =
    length-each_if (letter_count p) (target_count p e * step_count p e) (λ i. fits_read p e.cube i) (λ i. letter_clauses p e t i)
    (λ i less fits. ap length (cond-true (fits_read p e.cube i) (each_below p.size (λ to. step_clauses p e t i to)) [] fits) ∙ length-targets p e t i ht)
    (λ i less misses. ap length (cond-false (fits_read p e.cube i) (each_below p.size (λ to. step_clauses p e t i to)) [] misses))
    ∙ ap (λ n. n * (target_count p e * step_count p e)) (fitting p e.cube (reads_of p))

pub length-edge : (p : Problem) (e : Edge) → length (edge_clauses p e) ≡ p.size * (2 ^ free_below p e.cube (reads_of p) * (target_count p e * step_count p e))
length-edge p e = length-each_below p.size (2 ^ free_below p e.cube (reads_of p) * (target_count p e * step_count p e)) (λ t. state_clauses p e t) (λ t ht. length-letters p e t ht)

-- the other clauses
pub length-rows : (p : Problem) → length (row_clauses p) ≡ row_count p
length-rows p = length-each_below (row_count p) 1 (λ place. row_clause p place ∷ []) (λ place less. refl) ∙ (let z : row_count p * 1 ≡ row_count p = omega arith in z)

length-pair_chains : (p : Problem) (t q : ℕ) → length (pair_chains p t q) ≡ p.size * rejecting_at p q
length-pair_chains p t q = length-each_below (bound_at p q) 1 (λ c. chain_clause p t q c ∷ []) (λ c less. refl) ∙ (let z : bound_at p q * 1 ≡ bound_at p q = omega arith in z)

length-state_chains : (p : Problem) (t : ℕ) → length (state_chains p t) ≡ p.size * counted_before p (states_of (automaton_of p))
length-state_chains p t =
    length-each_sum (states_of (automaton_of p)) (λ q. pair_chains p t q) (λ q. p.size * rejecting_at p q) (λ q less. length-pair_chains p t q)
    ∙ sum_first-times p.size (rejecting_at p) (states_of (automaton_of p))

pub length-chains : (p : Problem) → length (chain_clauses p) ≡ chain_count p
length-chains p = go (counts_locally p) refl
  where
    go : (b : Bool) → counts_locally p ≡ b → length (cond (counts_locally p) (each_below p.size (λ t. state_chains p t)) [])
        ≡ cond (counts_locally p) (p.size * (p.size * counted_before p (states_of (automaton_of p)))) 0
    go true h =
        ap length (cond-true (counts_locally p) (each_below p.size (λ t. state_chains p t)) [] h)
        ∙ length-each_below p.size (p.size * counted_before p (states_of (automaton_of p))) (λ t. state_chains p t) (λ t less. length-state_chains p t)
        ∙ sym (cond-true (counts_locally p) (p.size * (p.size * counted_before p (states_of (automaton_of p)))) 0 h)
    go false h =
        ap length (cond-false (counts_locally p) (each_below p.size (λ t. state_chains p t)) [] h)
        ∙ sym (cond-false (counts_locally p) (p.size * (p.size * counted_before p (states_of (automaton_of p)))) 0 h)

pub length-orders : (p : Problem) → length (order_clauses p) ≡ order_count p
length-orders p = go (numbers_states p) refl
  where
    go : (b : Bool) → numbers_states p ≡ b
        → length (cond (numbers_states p) (each_below (row_count p) (λ place. row_orders p place)) []) ≡ cond (numbers_states p) (row_count p * (p.size - 2)) 0
    go true h =
        ap length (cond-true (numbers_states p) (each_below (row_count p) (λ place. row_orders p place)) [] h)
        ∙ length-each_below (row_count p) (p.size - 2) (λ place. row_orders p place)
        (λ place less. length-each_below (p.size - 2) 1 (λ k. order_clause p place (k + 2) ∷ []) (λ k less. refl) ∙ (let z : (p.size - 2) * 1 ≡ p.size - 2 = omega arith in z))
        ∙ sym (cond-true (numbers_states p) (row_count p * (p.size - 2)) 0 h)
    go false h =
        ap length (cond-false (numbers_states p) (each_below (row_count p) (λ place. row_orders p place)) [] h)
        ∙ sym (cond-false (numbers_states p) (row_count p * (p.size - 2)) 0 h)

-- how many base clauses are about no edge
abbrev pub beside_edges : Problem → ℕ
beside_edges p = row_count p + 1 + chain_count p + order_count p

pub length-base : (p : Problem) → length (base_clauses p) ≡ beside_edges p + length (flat_map (edge_clauses p) (automaton_of p).edges)
length-base p =
    let steps : List (List Literal) = flat_map (edge_clauses p) (automaton_of p).edges in
    let more : List (List Literal) = chain_clauses p ++ order_clauses p in
    let all : length (row_clauses p ++ (start_clause p ∷ (steps ++ more))) ≡ length (row_clauses p) + length (start_clause p ∷ (steps ++ more)) = length-append (row_clauses p) (start_clause p ∷ (steps ++ more)) in
    let rest : length (steps ++ more) ≡ length steps + length more = length-append steps more in
    let last : length more ≡ length (chain_clauses p) + length (order_clauses p) = length-append (chain_clauses p) (order_clauses p) in
    let rows : length (row_clauses p) ≡ row_count p = length-rows p in
    let chains : length (chain_clauses p) ≡ chain_count p = length-chains p in
    let orders : length (order_clauses p) ≡ order_count p = length-orders p in
    omega (arith, all, rest, last, rows, chains, orders)

-- the answers of `count`
pub count_none : (p : Problem) → most_clauses p < length (base_clauses p) → None ≡ count_of p
count_none p h = go (nat_le (length (base_clauses p)) (most_clauses p)) refl
  where
    go : (b : Bool) → nat_le (length (base_clauses p)) (most_clauses p) ≡ b → None ≡ cond b (Some (length (base_clauses p))) None
    go false e = refl
    go true e = elim (leb_tells (length (base_clauses p)) (most_clauses p)) [
      | inl le ↦ absurd (let most : length (base_clauses p) ≤ most_clauses p = le.1 in omega (arith, most, h))
      | inr gt ↦ absurd (let x : true ≡ false = sym e ∙ gt.0 in cc)
    ]

pub too_many : (p : Problem) → most_clauses p < beside_edges p → None ≡ count_of p
too_many p many =
    let base : length (base_clauses p) ≡ beside_edges p + length (flat_map (edge_clauses p) (automaton_of p).edges) = length-base p in
    count_none p (omega (arith, base, many))

pub count_some : (p : Problem) (n : ℕ) → n ≡ length (base_clauses p) → n ≤ most_clauses p → Some n ≡ count_of p
count_some p n same small = go (nat_le (length (base_clauses p)) (most_clauses p)) refl
  where
    go : (b : Bool) → nat_le (length (base_clauses p)) (most_clauses p) ≡ b → Some n ≡ cond b (Some (length (base_clauses p))) None
    go true e = ap Some same
    go false e = elim (leb_tells (length (base_clauses p)) (most_clauses p)) [
      | inl le ↦ absurd (let x : true ≡ false = sym le.0 ∙ e in cc)
      | inr gt ↦ absurd (let less : most_clauses p < length (base_clauses p) = gt.1 in omega (arith, less, same, small))
    ]

-- one more edge
length-more : (f : Edge → List (List Literal)) (xs : List Edge) (i : ℕ) (x : Edge) → i < length xs → x ≡ get_or xs i x
    → length (flat_map f (take (i + 1) xs)) ≡ length (flat_map f (take i xs)) + length (f x)
length-more f xs i x h is =
    let more : take (i + 1) xs ≡ take i xs ++ get_or xs i x ∷ [] = take_more xs i x h in
    ap (λ ys. length (flat_map f ys)) (more ∙ ap (λ y. take i xs ++ y ∷ []) (sym is))
    ∙ ap length (flat_map-append f (take i xs) (x ∷ []))
    ∙ length-append (flat_map f (take i xs)) (f x ++ [])
    ∙ ap (λ ys. length (flat_map f (take i xs)) + length ys) (append-nil (f x))

-- the steps of `count`
pub count_goes : (p : Problem) (xs : List Edge) (total i : ℕ) (x : Edge) → i < length xs → x ≡ get_or xs i x
    → total ≡ beside_edges p + length (flat_map (edge_clauses p) (take i xs))
    → total + length (edge_clauses p x) ≡ beside_edges p + length (flat_map (edge_clauses p) (take (i + 1) xs))
count_goes p xs total i x h is sum =
    let more : length (flat_map (edge_clauses p) (take (i + 1) xs)) ≡ length (flat_map (edge_clauses p) (take i xs)) + length (edge_clauses p x) = length-more (edge_clauses p) xs i x h is in
    omega (arith, sum, more)

pub count_stops : (p : Problem) (xs : List Edge) (total i : ℕ) (x : Edge) → xs ≡ (automaton_of p).edges → i < length xs → x ≡ get_or xs i x
    → total ≡ beside_edges p + length (flat_map (edge_clauses p) (take i xs)) → most_clauses p < total + length (edge_clauses p x) → None ≡ count_of p
count_stops p xs total i x e h is sum many =
    let some : length (flat_map (edge_clauses p) (take i xs)) + length (edge_clauses p (get_or xs i x)) ≤ length (flat_map (edge_clauses p) xs) = length-flat_map-take (edge_clauses p) xs i x h in
    let here : length (edge_clauses p x) ≡ length (edge_clauses p (get_or xs i x)) = ap (λ y. length (edge_clauses p y)) is in
    let all : length (flat_map (edge_clauses p) xs) ≡ length (flat_map (edge_clauses p) (automaton_of p).edges) = ap (λ ys. length (flat_map (edge_clauses p) ys)) e in
    let base : length (base_clauses p) ≡ beside_edges p + length (flat_map (edge_clauses p) (automaton_of p).edges) = length-base p in
    count_none p (omega (arith, some, here, all, base, sum, many))

pub count_ends : (p : Problem) (xs : List Edge) (total i : ℕ) → xs ≡ (automaton_of p).edges → length xs ≤ i
    → total ≡ beside_edges p + length (flat_map (edge_clauses p) (take i xs)) → total ≤ most_clauses p → Some total ≡ count_of p
count_ends p xs total i e h sum small =
    let taken : length (flat_map (edge_clauses p) (take i xs)) ≡ length (flat_map (edge_clauses p) (automaton_of p).edges) = ap (λ ys. length (flat_map (edge_clauses p) ys)) (take_all i xs h ∙ e) in
    let base : length (base_clauses p) ≡ beside_edges p + length (flat_map (edge_clauses p) (automaton_of p).edges) = length-base p in
    count_some p total (omega (arith, taken, base, sum)) small
