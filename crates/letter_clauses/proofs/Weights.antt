-- How many base clauses there are, and how many literals they have: sums of weights of clauses.
use Rattle.std.proofs.Common.{◌≡◌, ℕ, zero, suc, ◌+◌, ◌-◌, ◌*◌, ◌/◌, ◌<◌, ◌≤◌, ◌⊎◌, inl, inr, min, Bool, true, false, not, List, [], ◌∷◌, ◌++◌, Some, None, length, get_or, take, refl, sym, ap, ◌∙◌, subst, arith, cond}
use Rattle.std.specs.Prelude.{◌&&◌, ◌||◌, nat_le, nat_lt}
use Rattle.std.specs.List.{flat_map, sum_by}
use Rattle.std.proofs.Math.Nat.{mul_assoc, mul-div_cancel}
use Rattle.std.proofs.lemmas.Bool.{and_parts, cases_lt, cond-true, cond-false, le-leb, leb-true, lt-leb, not-true, not-false}
use Rattle.std.proofs.lemmas.Bool.Decides.{Decides-ltb}
use Rattle.std.proofs.lemmas.List.{append-nil, length-append, take_all, take_more}
use Rattle.std.proofs.lemmas.List.Concat.{flat_map-append}
use Rattle.std.proofs.lemmas.List.Sums.{sum_by-append, sum_by-cons}
use mathlib.Core.Bool.{and-false}
use Rattle.propositional_logic.specs.Literal.{Literal}
use Rattle.letters_and_lassos.specs.Signals.{has}
use Rattle.letters_and_lassos.specs.declared.cubes.Cube.{Cube}
use Rattle.machine_model.specs.Automaton.{rejects, states_of}
use Rattle.machine_model.specs.Problem.{automaton_of, reads_of, writes_of}
use Rattle.machine_model.specs.declared.automata.Edge.{Edge}
use Rattle.machine_model.specs.declared.problems.Problem.{Problem}
use Rattle.product_bound.specs.Annotation.{bound_at, leaves, number_after, rejecting_at, rise_at}
use Rattle.annotation_encode.specs.BaseClauses.{each_below, fits_read, is, is_idle, isnt, order_clause, row_clause, row_move, row_orders, step_count, written_signal}
use Rattle.annotation_encode.specs.Count.{passing, target_count}
use Rattle.annotation_encode.specs.Variables.{counted_before, sum_first}
use Rattle.annotation_encode.proofs.ClauseCount.{passing-all, passing-same, targets}
use Rattle.annotation_encode.proofs.Counted.{after_stays, sum_first-times}
use Rattle.annotation_encode.proofs.Lists.{length-each_below}
use Rattle.letter_clauses.specs.BaseClauses.{base_clauses, chain_clause, chain_clauses, count_literals, edge_clauses, letter_clauses, order_clauses, pair_chains, row_clauses, start_clause, state_chains, state_clauses, step_clause, step_clauses, write_literal, write_literals}
use Rattle.letter_clauses.specs.Count.{allowed_count, chain_count, clauses_beside, count_of, fitting_letters, is_allowed, is_named, is_short_or_whole, literals_beside, literals_of, most_clauses, most_literals, named_signals, order_count, order_literals, step_literals, steps_of}
use Rattle.letter_clauses.specs.Letters.{IsLetterProblem, IsSmallSize, letter_at}
use Rattle.letter_clauses.specs.Variables.{row_count, var_count, var_write}

-- the weight that counts
one : List Literal → ℕ
one clause = 1

one_is : (clause : List Literal) → one clause ≡ 1
unfolding one
one_is clause = refl

ones : (clauses : List (List Literal)) → sum_by one clauses ≡ length clauses
unfolding one
ones [] = refl
ones (c ∷ cs) = let e : sum_by one (c ∷ cs) ≡ 1 + sum_by one cs = sum_by-cons one c cs in let rest : sum_by one cs ≡ length cs = ones cs in omega (arith, e, rest)

-- sums that go on, pass a limit and begin with more than it
goes : (c b l m e s : ℕ) → c ≡ b + l → m ≡ l + e → e ≡ s → c + s ≡ b + m
goes c b l m e s x y z = omega (arith, x, y, z)

passes : (c b l m t most : ℕ) → c ≡ b + l → l ≤ m → t ≡ b + m → most < c → most < t
passes c b l m t most x y z u = omega (arith, x, y, z, u)

begins : (t b f most : ℕ) → t ≡ b + f → most < b → most < t
begins t b f most x y = omega (arith, x, y)

abbrev one_if : Bool → ℕ
one_if b = cond b 1 0

below : ℕ → ℕ → ℕ → ℕ
below bound rise c = cond (nat_le (c + rise) bound) 1 0

below-is : (bound rise c : ℕ) → below bound rise c ≡ cond (nat_le (c + rise) bound) 1 0
unfolding below
below-is bound rise c = refl

below-yes : (bound rise c : ℕ) → c + rise ≤ bound → below bound rise c ≡ 1
unfolding below
below-yes bound rise c h = cond-true (nat_le (c + rise) bound) 1 0 (le-leb (c + rise) bound h)

below-no : (bound rise c : ℕ) → bound < c + rise → below bound rise c ≡ 0
unfolding below
below-no bound rise c h = ap one_if (lt-leb (c + rise) bound h)

-- numbers that rise to at most a bound
passing-below : (n bound rise : ℕ) → rise ≤ bound + 1 → passing n (λ c. nat_le (c + rise) bound) ≡ min n (bound + 1 - rise)
passing-below zero bound rise h = omega arith
passing-below (suc n) bound rise h =
    let before : passing n (λ c. nat_le (c + rise) bound) ≡ min n (bound + 1 - rise) = passing-below n bound rise h in
    let here : below bound rise n ≡ cond (nat_le (n + rise) bound) 1 0 = below-is bound rise n in
    ap (λ k. passing n (λ c. nat_le (c + rise) bound) + k) (sym here)
    ∙ elim (cases_lt bound (n + rise)) [
      | inl over ↦ let none : below bound rise n ≡ 0 = below-no bound rise n over in omega (arith, before, none, over, h)
      | inr fits ↦ let some : below bound rise n ≡ 1 = below-yes bound rise n fits in omega (arith, before, some, fits, h)
    ]

-- sums
triangle : (n : ℕ) → sum_first (λ k. k + 1) n * 2 ≡ n * (n + 1)
unfolding sum_first
triangle zero = omega arith
triangle (suc n) =
    let before : sum_first (λ k. k + 1) n * 2 ≡ n * (n + 1) = triangle n in
    let more : suc n * (suc n + 1) ≡ n * (n + 1) + (n + 1) * 2 = omega arith in
    omega (arith, before, more)

half_triangle : (n : ℕ) → sum_first (λ k. k + 1) n ≡ n * (n + 1) / 2
half_triangle n =
    let two : 0 < 2 = omega arith in
    sym (mul-div_cancel (sum_first (λ k. k + 1) n) two) ∙ ap (λ m. m / 2) (triangle n)

constant : (n w : ℕ) → sum_first (λ _. w) n ≡ n * w
unfolding sum_first
constant zero w = omega arith
constant (suc n) w = let before : sum_first (λ _. w) n ≡ n * w = constant n w in omega (arith, before)

sum_and_tests : (n w : ℕ) (test : ℕ → Bool) → sum_first (λ c. w + cond (test c) 1 0) n ≡ n * w + passing n test
unfolding sum_first
sum_and_tests zero w test = omega arith
sum_and_tests (suc n) w test = let before : sum_first (λ c. w + cond (test c) 1 0) n ≡ n * w + passing n test = sum_and_tests n w test in omega (arith, before)

-- weights of pieces
module _ (w : List Literal → ℕ) where
  weigh-single : (c : List Literal) → sum_by w (c ∷ []) ≡ w c
  weigh-single c = sum_by-cons w c [] ∙ (let e : w c + 0 ≡ w c = omega arith in e)

  weigh-sum : (n : ℕ) (f : ℕ → List (List Literal)) (size : ℕ → ℕ) → ((k : ℕ) → k < n → sum_by w (f k) ≡ size k) → sum_by w (each_below n f) ≡ sum_first size n
  unfolding sum_first
  weigh-sum zero f size each = refl
  weigh-sum (suc n) f size each = sum_by-append w (each_below n f) (f n) ∙ (λ i. weigh-sum n f size (λ k h. each k (omega arith)) i + each n (omega arith) i)

  weigh-each : (n x : ℕ) (f : ℕ → List (List Literal)) → ((k : ℕ) → k < n → sum_by w (f k) ≡ x) → sum_by w (each_below n f) ≡ n * x
  weigh-each n x f each = weigh-sum n f (λ _. x) each ∙ constant n x

  -- pieces that have one weight where a test passes, and else none
  weigh-if : (n x : ℕ) (test : ℕ → Bool) (f : ℕ → List (List Literal)) → ((k : ℕ) → k < n → test k ≡ true → sum_by w (f k) ≡ x) → ((k : ℕ) → k < n → test k ≡ false → sum_by w (f k) ≡ 0)
      → sum_by w (each_below n f) ≡ passing n test * x
  weigh-if zero x test f yes' no' = let e : 0 ≡ 0 * x = omega arith in e
  weigh-if (suc n) x test f yes' no' =
      let before : sum_by w (each_below n f) ≡ passing n test * x = weigh-if n x test f (λ k h. yes' k (omega arith)) (λ k h. no' k (omega arith)) in
      let both : sum_by w (each_below n f ++ f n) ≡ sum_by w (each_below n f) + sum_by w (f n) = sum_by-append w (each_below n f) (f n) in
      go (test n) refl before both
    where
      go : (b : Bool) → test n ≡ b → sum_by w (each_below n f) ≡ passing n test * x → sum_by w (each_below n f ++ f n) ≡ sum_by w (each_below n f) + sum_by w (f n)
          → sum_by w (each_below n f ++ f n) ≡ (passing n test + cond (test n) 1 0) * x
      go true e before both =
          let here : sum_by w (f n) ≡ x = yes' n (omega arith) e in
          let more : (passing n test + 1) * x ≡ passing n test * x + x = omega arith in
          both ∙ omega (arith, before, here, more) ∙ ap (λ b. (passing n test + cond b 1 0) * x) (sym e)
      go false e before both =
          let here : sum_by w (f n) ≡ 0 = no' n (omega arith) e in
          let more : (passing n test + 0) * x ≡ passing n test * x = omega arith in
          both ∙ omega (arith, before, here, more) ∙ ap (λ b. (passing n test + cond b 1 0) * x) (sym e)

  -- edges, one after the other
  weigh-more : (f : Edge → List (List Literal)) (xs : List Edge) (i : ℕ) (x : Edge) → i < length xs → x ≡ get_or xs i x
      → sum_by w (flat_map f (take (i + 1) xs)) ≡ sum_by w (flat_map f (take i xs)) + sum_by w (f x)
  weigh-more f xs i x h is =
      let more : take (i + 1) xs ≡ take i xs ++ get_or xs i x ∷ [] = take_more xs i x h in
      ap (λ ys. sum_by w (flat_map f ys)) (more ∙ ap (λ y. take i xs ++ y ∷ []) (sym is))
      ∙ ap (sum_by w) (flat_map-append f (take i xs) (x ∷ []))
      ∙ sum_by-append w (flat_map f (take i xs)) (f x ++ [])
      ∙ ap (λ ys. sum_by w (flat_map f (take i xs)) + sum_by w ys) (append-nil (f x))

  weigh-take : (f : Edge → List (List Literal)) (xs : List Edge) (i : ℕ) → sum_by w (flat_map f (take i xs)) ≤ sum_by w (flat_map f xs)
  weigh-take f [] zero = omega arith
  weigh-take f [] (suc i) = omega arith
  weigh-take f (x ∷ xs) zero = omega arith
  weigh-take f (x ∷ xs) (suc i) =
      let rest : sum_by w (flat_map f (take i xs)) ≤ sum_by w (flat_map f xs) = weigh-take f xs i in
      let some : sum_by w (f x ++ flat_map f (take i xs)) ≡ sum_by w (f x) + sum_by w (flat_map f (take i xs)) = sum_by-append w (f x) (flat_map f (take i xs)) in
      let all : sum_by w (f x ++ flat_map f xs) ≡ sum_by w (f x) + sum_by w (flat_map f xs) = sum_by-append w (f x) (flat_map f xs) in
      omega (arith, rest, some, all)

  module _ (p : Problem) (letters : List ℕ) (e : Edge) (x : ℕ) (each : (t k to : ℕ) → sum_by w (each_below (step_count p e) (λ c. step_clause p letters e t k to c ∷ [])) ≡ x) where
    weigh-steps : (t k to : ℕ) (idle : Bool) → is_idle p e t to ≡ idle → sum_by w (step_clauses p letters e t k to) ≡ cond idle 0 x
    weigh-steps t k to true h = ap (sum_by w) (cond-true (is_idle p e t to) [] (each_below (step_count p e) (λ c. step_clause p letters e t k to c ∷ [])) h)
    weigh-steps t k to false h = ap (sum_by w) (cond-false (is_idle p e t to) [] (each_below (step_count p e) (λ c. step_clause p letters e t k to c ∷ [])) h) ∙ each t k to

    weigh-targets : (t k : ℕ) → t < p.size → sum_by w (each_below p.size (λ to. step_clauses p letters e t k to)) ≡ target_count p e * x
    weigh-targets t k ht =
        weigh-if p.size x (λ to. not (is_idle p e t to)) (λ to. step_clauses p letters e t k to)
        (λ to less busy. weigh-steps t k to false (not-true (is_idle p e t to) busy))
        (λ to less idle. weigh-steps t k to true (not-false (is_idle p e t to) idle))
        ∙ ap (λ n. n * x) (targets p e t ht)

    weigh-letters : (t : ℕ) → t < p.size → sum_by w (state_clauses p letters e t) ≡ fitting_letters p letters e.cube * (target_count p e * x)
    weigh-letters t ht =
        weigh-if (length letters) (target_count p e * x) (λ k. fits_read p e.cube (letter_at letters k)) (λ k. letter_clauses p letters e t k)
        (λ k less fits. ap (sum_by w) (cond-true (fits_read p e.cube (letter_at letters k)) (each_below p.size (λ to. step_clauses p letters e t k to)) [] fits) ∙ weigh-targets t k ht)
        (λ k less misses. ap (sum_by w) (cond-false (fits_read p e.cube (letter_at letters k)) (each_below p.size (λ to. step_clauses p letters e t k to)) [] misses))

    pub weigh-edge : sum_by w (edge_clauses p letters e) ≡ steps_of p letters e * x
    weigh-edge =
        weigh-each p.size (fitting_letters p letters e.cube * (target_count p e * x)) (λ t. state_clauses p letters e t) (λ t ht. weigh-letters t ht)
        ∙ ap (λ n. p.size * n) (sym (mul_assoc (fitting_letters p letters e.cube) (target_count p e) x))
        ∙ sym (mul_assoc p.size (fitting_letters p letters e.cube * target_count p e) x)

  -- all of them
  weigh-base : (p : Problem) (letters : List ℕ) → sum_by w (base_clauses p letters)
      ≡ sum_by w (row_clauses p letters) + (w (start_clause p letters) + (sum_by w (flat_map (edge_clauses p letters) (automaton_of p).edges) + (sum_by w (chain_clauses p letters) + sum_by w (order_clauses p letters))))
  weigh-base p letters =
      let steps : List (List Literal) = flat_map (edge_clauses p letters) (automaton_of p).edges in
      sum_by-append w (row_clauses p letters) (start_clause p letters ∷ (steps ++ (chain_clauses p letters ++ order_clauses p letters)))
      ∙ ap (λ n. sum_by w (row_clauses p letters) + n) (sum_by-cons w (start_clause p letters) (steps ++ (chain_clauses p letters ++ order_clauses p letters)))
      ∙ ap (λ n. sum_by w (row_clauses p letters) + (w (start_clause p letters) + n)) (sum_by-append w steps (chain_clauses p letters ++ order_clauses p letters))
      ∙ ap (λ n. sum_by w (row_clauses p letters) + (w (start_clause p letters) + (sum_by w steps + n))) (sum_by-append w (chain_clauses p letters) (order_clauses p letters))

  weigh-rows : (p : Problem) (letters : List ℕ) (x : ℕ) → ((place : ℕ) → w (row_clause p place) ≡ x) → sum_by w (row_clauses p letters) ≡ row_count p letters * x
  weigh-rows p letters x each = weigh-each (row_count p letters) x (λ place. row_clause p place ∷ []) (λ place less. weigh-single (row_clause p place) ∙ each place)

  weigh-chains : (p : Problem) (letters : List ℕ) (x : ℕ) → ((t q c : ℕ) → w (chain_clause p letters t q c) ≡ x) → sum_by w (chain_clauses p letters) ≡ x * chain_count p
  weigh-chains p letters x each =
      weigh-each p.size (x * (p.size * counted_before p (states_of (automaton_of p)))) (λ t. state_chains p letters t) (λ t less. of_state t)
      ∙ swapped p.size x (p.size * counted_before p (states_of (automaton_of p)))
    where
      of_pair : (t q : ℕ) → sum_by w (pair_chains p letters t q) ≡ (x * p.size) * rejecting_at p q
      of_pair t q =
          weigh-each (bound_at p q) x (λ c. chain_clause p letters t q c ∷ []) (λ c less. weigh-single (chain_clause p letters t q c) ∙ each t q c)
          ∙ (let e : (p.size * rejecting_at p q) * x ≡ (x * p.size) * rejecting_at p q = omega arith in e)

      of_state : (t : ℕ) → sum_by w (state_chains p letters t) ≡ x * (p.size * counted_before p (states_of (automaton_of p)))
      of_state t =
          weigh-sum (states_of (automaton_of p)) (λ q. pair_chains p letters t q) (λ q. (x * p.size) * rejecting_at p q) (λ q less. of_pair t q)
          ∙ sum_first-times (x * p.size) (rejecting_at p) (states_of (automaton_of p))
          ∙ mul_assoc x p.size (counted_before p (states_of (automaton_of p)))

      swapped : (n x y : ℕ) → n * (x * y) ≡ x * (n * y)
      swapped n x y = omega arith

-- the clauses
clause_steps : (p : Problem) (letters : List ℕ) (e : Edge) (t k to : ℕ) → sum_by one (each_below (step_count p e) (λ c. step_clause p letters e t k to c ∷ [])) ≡ step_count p e
clause_steps p letters e t k to =
    ones (each_below (step_count p e) (λ c. step_clause p letters e t k to c ∷ []))
    ∙ length-each_below (step_count p e) 1 (λ c. step_clause p letters e t k to c ∷ []) (λ c less. refl)
    ∙ (let z : step_count p e * 1 ≡ step_count p e = omega arith in z)

pub length-edge : (p : Problem) (letters : List ℕ) (e : Edge) → length (edge_clauses p letters e) ≡ steps_of p letters e * step_count p e
length-edge p letters e = sym (ones (edge_clauses p letters e)) ∙ weigh-edge one p letters e (step_count p e) (clause_steps p letters e)

pub length-base : (p : Problem) (letters : List ℕ) → length (base_clauses p letters) ≡ clauses_beside p letters + length (flat_map (edge_clauses p letters) (automaton_of p).edges)
length-base p letters =
    let all = weigh-base one p letters in
    let whole : sum_by one (base_clauses p letters) ≡ length (base_clauses p letters) = ones (base_clauses p letters) in
    let steps : sum_by one (flat_map (edge_clauses p letters) (automaton_of p).edges) ≡ length (flat_map (edge_clauses p letters) (automaton_of p).edges) = ones (flat_map (edge_clauses p letters) (automaton_of p).edges) in
    let rows : sum_by one (row_clauses p letters) ≡ row_count p letters * 1 = weigh-rows one p letters 1 (λ place. one_is (row_clause p place)) in
    let start : one (start_clause p letters) ≡ 1 = one_is (start_clause p letters) in
    let chains : sum_by one (chain_clauses p letters) ≡ 1 * chain_count p = weigh-chains one p letters 1 (λ t q c. one_is (chain_clause p letters t q c)) in
    let orders : sum_by one (order_clauses p letters) ≡ row_count p letters * (p.size - 2) = weigh-each one (row_count p letters) (p.size - 2) (λ place. row_orders p place) (λ place less. of_row place) in
    sums (length (base_clauses p letters)) (sum_by one (base_clauses p letters)) (row_count p letters) (chain_count p) (order_count p letters) (length (flat_map (edge_clauses p letters) (automaton_of p).edges))
    (sum_by one (row_clauses p letters)) (one (start_clause p letters)) (sum_by one (flat_map (edge_clauses p letters) (automaton_of p).edges)) (sum_by one (chain_clauses p letters)) (sum_by one (order_clauses p letters))
    whole all rows start steps chains orders
  where
    of_row : (place : ℕ) → sum_by one (row_orders p place) ≡ p.size - 2
    of_row place =
        ones (row_orders p place) ∙ length-each_below (p.size - 2) 1 (λ k. order_clause p place (k + 2) ∷ []) (λ k less. refl)
        ∙ (let z : (p.size - 2) * 1 ≡ p.size - 2 = omega arith in z)

    sums : (l s r ch o f a b d g h : ℕ) → s ≡ l → s ≡ a + (b + (d + (g + h))) → a ≡ r * 1 → b ≡ 1 → d ≡ f → g ≡ 1 * ch → h ≡ o → l ≡ r + 1 + ch + o + f
    sums l s r ch o f a b d g h x y u v w z q = omega (arith, x, y, u, v, w, z, q)

-- the literals
abbrev two_or_one : Bool → Bool → Literal → Literal → List Literal
two_or_one fits less a b = cond fits (cond less (a ∷ b ∷ []) (b ∷ a ∷ [])) (a ∷ [])

length-two : (fits less : Bool) (a b : Literal) → length (two_or_one fits less a b) ≡ 1 + cond fits 1 0
length-two true true a b = refl
length-two true false a b = refl
length-two false less a b = refl

length-named : (must none : Bool) (a b : Literal) → length (cond must (a ∷ []) (cond none (b ∷ []) [])) ≡ cond (must || none) 1 0
length-named true none a b = refl
length-named false true a b = refl
length-named false false a b = refl

module _ (p : Problem) (letters : List ℕ) where
  length-writes : (cube : Cube) (t k n : ℕ) → length (each_below n (λ s. write_literal p letters cube t k s)) ≡ passing n (λ s. is_named cube (written_signal p s))
  length-writes cube t k zero = refl
  length-writes cube t k (suc n) =
      length-append (each_below n (λ s. write_literal p letters cube t k s)) (write_literal p letters cube t k n)
      ∙ (λ i. length-writes cube t k n i + length-named (has cube.must (written_signal p n)) (has cube.not (written_signal p n)) (isnt (var_write p letters t k n)) (is (var_write p letters t k n)) i)

  length-counts : (e : Edge) (t to c : ℕ) → length (count_literals p letters e t to c) ≡ 1 + cond (nat_le (number_after p e.from e.to c) (bound_at p e.to)) 1 0
  length-counts e t to c =
      length-two (nat_le (number_after p e.from e.to c) (bound_at p e.to)) (nat_lt (var_count p letters t e.from c) (var_count p letters to e.to (number_after p e.from e.to c)))
      (isnt (var_count p letters t e.from c)) (is (var_count p letters to e.to (number_after p e.from e.to c)))

  length-step : (e : Edge) (t k to c : ℕ) → length (step_clause p letters e t k to c) ≡ (named_signals p e.cube + 2) + cond (nat_le (number_after p e.from e.to c) (bound_at p e.to)) 1 0
  length-step e t k to c =
      added (length (write_literals p letters e.cube t k ++ count_literals p letters e t to c)) (length (write_literals p letters e.cube t k)) (length (count_literals p letters e t to c)) (named_signals p e.cube)
      (cond (nat_le (number_after p e.from e.to c) (bound_at p e.to)) 1 0)
      (length-append (write_literals p letters e.cube t k) (count_literals p letters e t to c)) (length-writes e.cube t k (writes_of p)) (length-counts e t to c)
    where
      added : (l a b n x : ℕ) → l ≡ a + b → a ≡ n → b ≡ 1 + x → suc l ≡ (n + 2) + x
      added l a b n x u v w = omega (arith, u, v, w)

  -- for how many numbers the bound allows what has to be reached
  allowed_is : (e : Edge) → passing (step_count p e) (λ c. nat_le (number_after p e.from e.to c) (bound_at p e.to)) ≡ allowed_count p e
  allowed_is e = go (leaves p e.from e.to) refl
    where
      zero_fits : (c : ℕ) → leaves p e.from e.to ≡ true → nat_le (number_after p e.from e.to c) (bound_at p e.to) ≡ true
      zero_fits c h = ap (λ n. nat_le n (bound_at p e.to)) (cond-true (leaves p e.from e.to) 0 (c + rise_at (automaton_of p) e.to) h) ∙ le-leb 0 (bound_at p e.to) (omega arith)

      small_rise : rise_at (automaton_of p) e.to ≤ bound_at p e.to + 1
      small_rise = small (rejects (automaton_of p) e.to)
        where
          small : (b : Bool) → cond b 1 0 ≤ bound_at p e.to + 1
          small true = omega arith
          small false = omega arith

      go : (b : Bool) → leaves p e.from e.to ≡ b → passing (step_count p e) (λ c. nat_le (number_after p e.from e.to c) (bound_at p e.to)) ≡ allowed_count p e
      go true h =
          passing-all (step_count p e) (λ c. nat_le (number_after p e.from e.to c) (bound_at p e.to)) (λ c less. zero_fits c h)
          ∙ cond-true (leaves p e.from e.to) 1 (bound_at p e.from + 1) h
          ∙ sym (cond-true (leaves p e.from e.to) 1 (min (step_count p e) (bound_at p e.to + 1 - rise_at (automaton_of p) e.to)) h)
      go false h =
          passing-same (step_count p e) (λ c. nat_le (number_after p e.from e.to c) (bound_at p e.to)) (λ c. nat_le (c + rise_at (automaton_of p) e.to) (bound_at p e.to))
          (λ c less. ap (λ n. nat_le n (bound_at p e.to)) (after_stays p e.from e.to c h))
          ∙ passing-below (step_count p e) (bound_at p e.to) (rise_at (automaton_of p) e.to) small_rise
          ∙ sym (cond-false (leaves p e.from e.to) 1 (min (step_count p e) (bound_at p e.to + 1 - rise_at (automaton_of p) e.to)) h)

  literal_steps : (e : Edge) (t k to : ℕ) → sum_by length (each_below (step_count p e) (λ c. step_clause p letters e t k to c ∷ [])) ≡ step_literals p e
  literal_steps e t k to =
      weigh-sum length (step_count p e) (λ c. step_clause p letters e t k to c ∷ []) (λ c. (named_signals p e.cube + 2) + cond (nat_le (number_after p e.from e.to c) (bound_at p e.to)) 1 0)
      (λ c less. weigh-single length (step_clause p letters e t k to c) ∙ length-step e t k to c)
      ∙ sum_and_tests (step_count p e) (named_signals p e.cube + 2) (λ c. nat_le (number_after p e.from e.to c) (bound_at p e.to))
      ∙ ap (λ n. step_count p e * (named_signals p e.cube + 2) + n) (allowed_is e)

  pub literals-edge : (e : Edge) → literals_of (edge_clauses p letters e) ≡ steps_of p letters e * step_literals p e
  literals-edge e = weigh-edge length p letters e (step_literals p e) (literal_steps e)

  length-row : (place : ℕ) → length (row_clause p place) ≡ p.size
  length-row place = length-each_below p.size 1 (λ to. is (row_move p place to) ∷ []) (λ to less. refl) ∙ (let z : p.size * 1 ≡ p.size = omega arith in z)

  length-order : (place to : ℕ) → length (order_clause p place to) ≡ place + 1
  length-order place to =
      length-append (each_below place (λ k. is (row_move p k (to - 1)) ∷ [])) (isnt (row_move p place to) ∷ [])
      ∙ ap (λ n. n + 1) (length-each_below place 1 (λ k. is (row_move p k (to - 1)) ∷ []) (λ k less. refl) ∙ (let z : place * 1 ≡ place = omega arith in z))

  literals-orders : literals_of (order_clauses p letters) ≡ order_literals p letters
  literals-orders =
      weigh-sum length (row_count p letters) (λ place. row_orders p place) (λ place. (p.size - 2) * (place + 1))
      (λ place less. weigh-each length (p.size - 2) (place + 1) (λ k. order_clause p place (k + 2) ∷ []) (λ k small. weigh-single length (order_clause p place (k + 2)) ∙ length-order place (k + 2)))
      ∙ sum_first-times (p.size - 2) (λ place. place + 1) (row_count p letters)
      ∙ ap (λ n. (p.size - 2) * n) (half_triangle (row_count p letters))
      ∙ swapped (p.size - 2) (row_count p letters * (row_count p letters + 1) / 2)
    where
      swapped : (x y : ℕ) → x * y ≡ y * x
      swapped x y = omega arith

  pub literals-base : literals_of (base_clauses p letters) ≡ literals_beside p letters + literals_of (flat_map (edge_clauses p letters) (automaton_of p).edges)
  literals-base =
      sums (literals_of (base_clauses p letters)) (row_count p letters * p.size) (chain_count p) (order_literals p letters) (literals_of (flat_map (edge_clauses p letters) (automaton_of p).edges))
      (literals_of (row_clauses p letters)) (length (start_clause p letters)) (literals_of (chain_clauses p letters)) (literals_of (order_clauses p letters))
      (weigh-base length p letters) (weigh-rows length p letters p.size length-row) refl (weigh-chains length p letters 2 (λ t q c. refl)) literals-orders
    where
      sums : (l r ch o f a b g h : ℕ) → l ≡ a + (b + (f + (g + h))) → a ≡ r → b ≡ 1 → g ≡ 2 * ch → h ≡ o → l ≡ r + 1 + 2 * ch + o + f
      sums l r ch o f a b g h x y u v w = omega (arith, x, y, u, v, w)

  -- the answers of `count`
  none_when : (b : Bool) → is_allowed p letters ≡ b → b ≡ false → None ≡ count_of p letters
  none_when b e no' = sym (cond-false (is_allowed p letters) (Some (length (base_clauses p letters))) None (e ∙ no'))

  pub count_none_long : is_short_or_whole (reads_of p) letters ≡ false → None ≡ count_of p letters
  count_none_long h =
      none_when (is_allowed p letters) refl (ap (λ b. b && (nat_le (length (base_clauses p letters)) most_clauses && nat_le (literals_of (base_clauses p letters)) most_literals)) h)

  pub count_none : (most_clauses < length (base_clauses p letters)) ⊎ (most_literals < literals_of (base_clauses p letters)) → None ≡ count_of p letters
  count_none (inl many) =
      none_when (is_allowed p letters) refl
      (ap (λ b. is_short_or_whole (reads_of p) letters && (b && nat_le (literals_of (base_clauses p letters)) most_literals)) (lt-leb (length (base_clauses p letters)) most_clauses many) ∙ and-false (is_short_or_whole (reads_of p) letters))
  count_none (inr many) =
      none_when (is_allowed p letters) refl
      (ap (λ b. is_short_or_whole (reads_of p) letters && (nat_le (length (base_clauses p letters)) most_clauses && b)) (lt-leb (literals_of (base_clauses p letters)) most_literals many)
      ∙ ap (λ b. is_short_or_whole (reads_of p) letters && b) (and-false (nat_le (length (base_clauses p letters)) most_clauses)) ∙ and-false (is_short_or_whole (reads_of p) letters))

  pub count_some : (n : ℕ) → is_short_or_whole (reads_of p) letters ≡ true → n ≡ length (base_clauses p letters) → n ≤ most_clauses → literals_of (base_clauses p letters) ≤ most_literals
      → Some n ≡ count_of p letters
  count_some n short same few small =
      let clauses : nat_le (length (base_clauses p letters)) most_clauses ≡ true = le-leb (length (base_clauses p letters)) most_clauses (subst (λ k. k ≤ most_clauses) same few) in
      let literals : nat_le (literals_of (base_clauses p letters)) most_literals ≡ true = le-leb (literals_of (base_clauses p letters)) most_literals small in
      let all : is_allowed p letters ≡ true = λ i. short i && (clauses i && literals i) in
      ap Some same ∙ sym (cond-true (is_allowed p letters) (Some (length (base_clauses p letters))) None all)

  -- where there are few clauses there are few numbers
  pub few_chains : is_allowed p letters ≡ true → chain_count p ≤ most_clauses
  few_chains h =
      let rest = (and_parts (is_short_or_whole (reads_of p) letters) (nat_le (length (base_clauses p letters)) most_clauses && nat_le (literals_of (base_clauses p letters)) most_literals) h).1 in
      let few : length (base_clauses p letters) ≤ most_clauses = leb-true (length (base_clauses p letters)) most_clauses (and_parts (nat_le (length (base_clauses p letters)) most_clauses) (nat_le (literals_of (base_clauses p letters)) most_literals) rest).0 in
      let all : length (base_clauses p letters) ≡ clauses_beside p letters + length (flat_map (edge_clauses p letters) (automaton_of p).edges) = length-base p letters in
      within (length (base_clauses p letters)) (row_count p letters) (chain_count p) (order_count p letters) (length (flat_map (edge_clauses p letters) (automaton_of p).edges)) most_clauses all few
    where
      within : (l r ch o f most : ℕ) → l ≡ r + 1 + ch + o + f → l ≤ most → ch ≤ most
      within l r ch o f most x y = omega (arith, x, y)

  -- the steps of `count`, over edges xs of which the first i are counted
  module _ (xs : List Edge) (clauses literals i : ℕ) (x : Edge) (edges : xs ≡ (automaton_of p).edges) (h : i < length xs) (is : x ≡ get_or xs i x)
      (clauses_are : clauses ≡ clauses_beside p letters + length (flat_map (edge_clauses p letters) (take i xs)))
      (literals_are : literals ≡ literals_beside p letters + literals_of (flat_map (edge_clauses p letters) (take i xs))) where
    length-take : (j : ℕ) → length (flat_map (edge_clauses p letters) (take j xs)) ≤ length (flat_map (edge_clauses p letters) xs)
    length-take j = subst (λ n. n ≤ length (flat_map (edge_clauses p letters) xs)) (ones (flat_map (edge_clauses p letters) (take j xs)))
        (subst (λ n. sum_by one (flat_map (edge_clauses p letters) (take j xs)) ≤ n) (ones (flat_map (edge_clauses p letters) xs)) (weigh-take one (edge_clauses p letters) xs j))

    pub clauses_go : clauses + steps_of p letters x * step_count p x ≡ clauses_beside p letters + length (flat_map (edge_clauses p letters) (take (i + 1) xs))
    clauses_go =
        let more : length (flat_map (edge_clauses p letters) (take (i + 1) xs)) ≡ length (flat_map (edge_clauses p letters) (take i xs)) + length (edge_clauses p letters x)
        = sym (ones (flat_map (edge_clauses p letters) (take (i + 1) xs))) ∙ weigh-more one (edge_clauses p letters) xs i x h is ∙ (λ j. ones (flat_map (edge_clauses p letters) (take i xs)) j + ones (edge_clauses p letters x) j) in
        let here : length (edge_clauses p letters x) ≡ steps_of p letters x * step_count p x = length-edge p letters x in
        goes clauses (clauses_beside p letters) (length (flat_map (edge_clauses p letters) (take i xs))) (length (flat_map (edge_clauses p letters) (take (i + 1) xs))) (length (edge_clauses p letters x)) (steps_of p letters x * step_count p x) clauses_are more here

    pub literals_go : literals + steps_of p letters x * step_literals p x ≡ literals_beside p letters + literals_of (flat_map (edge_clauses p letters) (take (i + 1) xs))
    literals_go =
        goes literals (literals_beside p letters) (literals_of (flat_map (edge_clauses p letters) (take i xs))) (literals_of (flat_map (edge_clauses p letters) (take (i + 1) xs))) (literals_of (edge_clauses p letters x)) (steps_of p letters x * step_literals p x)
        literals_are (weigh-more length (edge_clauses p letters) xs i x h is) (literals-edge x)

    pub count_stops : (most_clauses < clauses + steps_of p letters x * step_count p x) ⊎ (most_literals < literals + steps_of p letters x * step_literals p x) → None ≡ count_of p letters
    count_stops (inl many) =
        let all : length (base_clauses p letters) ≡ clauses_beside p letters + length (flat_map (edge_clauses p letters) xs) = length-base p letters ∙ ap (λ ys. clauses_beside p letters + length (flat_map (edge_clauses p letters) ys)) (sym edges) in
        count_none (inl (passes (clauses + steps_of p letters x * step_count p x) (clauses_beside p letters) (length (flat_map (edge_clauses p letters) (take (i + 1) xs))) (length (flat_map (edge_clauses p letters) xs)) (length (base_clauses p letters)) most_clauses
        clauses_go (length-take (i + 1)) all many))
    count_stops (inr many) =
        let all : literals_of (base_clauses p letters) ≡ literals_beside p letters + literals_of (flat_map (edge_clauses p letters) xs) = literals-base ∙ ap (λ ys. literals_beside p letters + literals_of (flat_map (edge_clauses p letters) ys)) (sym edges) in
        count_none (inr (passes (literals + steps_of p letters x * step_literals p x) (literals_beside p letters) (literals_of (flat_map (edge_clauses p letters) (take (i + 1) xs))) (literals_of (flat_map (edge_clauses p letters) xs)) (literals_of (base_clauses p letters)) most_literals
        literals_go (weigh-take length (edge_clauses p letters) xs (i + 1)) all many))

  pub count_ends : (xs : List Edge) (clauses literals i : ℕ) → xs ≡ (automaton_of p).edges → length xs ≤ i
      → clauses ≡ clauses_beside p letters + length (flat_map (edge_clauses p letters) (take i xs)) → literals ≡ literals_beside p letters + literals_of (flat_map (edge_clauses p letters) (take i xs))
      → is_short_or_whole (reads_of p) letters ≡ true → clauses ≤ most_clauses → literals ≤ most_literals → Some clauses ≡ count_of p letters
  count_ends xs clauses literals i edges h clauses_are literals_are short few small =
      let whole : take i xs ≡ (automaton_of p).edges = take_all i xs h ∙ edges in
      let all : clauses ≡ length (base_clauses p letters) = clauses_are ∙ ap (λ ys. clauses_beside p letters + length (flat_map (edge_clauses p letters) ys)) whole ∙ sym (length-base p letters) in
      let all_literals : literals ≡ literals_of (base_clauses p letters) = literals_are ∙ ap (λ ys. literals_beside p letters + literals_of (flat_map (edge_clauses p letters) ys)) whole ∙ sym literals-base in
      count_some clauses short all few (subst (λ n. n ≤ most_literals) all_literals small)

  pub too_many : (most_clauses < clauses_beside p letters) ⊎ (most_literals < literals_beside p letters) → None ≡ count_of p letters
  too_many (inl many) = count_none (inl (let all : length (base_clauses p letters) ≡ clauses_beside p letters + length (flat_map (edge_clauses p letters) (automaton_of p).edges) = length-base p letters in
      begins (length (base_clauses p letters)) (clauses_beside p letters) (length (flat_map (edge_clauses p letters) (automaton_of p).edges)) most_clauses all many))
  too_many (inr many) = count_none (inr (begins (literals_of (base_clauses p letters)) (literals_beside p letters) (literals_of (flat_map (edge_clauses p letters) (automaton_of p).edges)) most_literals literals-base many))

-- so an allowed size has few enough numbers
pub small_size : (p : Problem) (letters : List ℕ) → IsLetterProblem p letters → is_allowed p letters ≡ true → IsSmallSize p letters
small_size p letters size allowed = record { problem = size; few = few_chains p letters allowed }

-- what a test of both limits says
pub many_of : (a x b y : ℕ) → (nat_lt a x || nat_lt b y) ≡ true → (a < x) ⊎ (b < y)
many_of a x b y h = go (nat_lt a x) refl h
  where
    go : (t : Bool) → nat_lt a x ≡ t → (t || nat_lt b y) ≡ true → (a < x) ⊎ (b < y)
    go true e h = inl ((Decides-ltb a x).0 e)
    go false e h = inr ((Decides-ltb b y).0 h)

not_over : (a x : ℕ) → nat_lt a x ≡ false → x ≤ a
not_over a x h = elim (cases_lt a x) [
  | inl less ↦ absurd (let e : true ≡ false = sym ((Decides-ltb a x).1 less) ∙ h in cc)
  | inr most ↦ most
]

pub few_of : (a x b y : ℕ) → (nat_lt a x || nat_lt b y) ≡ false → (x ≤ a) × (y ≤ b)
few_of a x b y h = go (nat_lt a x) refl h
  where
    go : (t : Bool) → nat_lt a x ≡ t → (t || nat_lt b y) ≡ false → (x ≤ a) × (y ≤ b)
    go true e h = absurd (let x : true ≡ false = h in cc)
    go false e h = (not_over a x e, not_over b y h)

-- the exits of `count`, by its tests
pub too_many_by : (p : Problem) (letters : List ℕ) (x y : ℕ) (test : Bool) → x ≡ clauses_beside p letters → y ≡ literals_beside p letters
    → test ≡ (nat_lt most_clauses x || nat_lt most_literals y) → test ≡ true → None ≡ count_of p letters
too_many_by p letters x y test x_is y_is is yes' = elim (many_of most_clauses x most_literals y (sym is ∙ yes')) [
  | inl h ↦ too_many p letters (inl (subst (λ n. most_clauses < n) x_is h))
  | inr h ↦ too_many p letters (inr (subst (λ n. most_literals < n) y_is h))
]

pub stops_by : (p : Problem) (letters : List ℕ) (xs : List Edge) (clauses literals i : ℕ) (x : Edge) (more others : ℕ) (test : Bool) → xs ≡ (automaton_of p).edges → i < length xs → x ≡ get_or xs i x
    → clauses ≡ clauses_beside p letters + length (flat_map (edge_clauses p letters) (take i xs))
    → literals ≡ literals_beside p letters + literals_of (flat_map (edge_clauses p letters) (take i xs))
    → more ≡ clauses + steps_of p letters x * step_count p x → others ≡ literals + steps_of p letters x * step_literals p x
    → test ≡ (nat_lt most_clauses more || nat_lt most_literals others) → test ≡ true → None ≡ count_of p letters
stops_by p letters xs clauses literals i x more others test edges h is c l more_is others_is test_is yes' =
    elim (many_of most_clauses more most_literals others (sym test_is ∙ yes')) [
      | inl over ↦ count_stops p letters xs clauses literals i x edges h is c l (inl (subst (λ n. most_clauses < n) more_is over))
      | inr over ↦ count_stops p letters xs clauses literals i x edges h is c l (inr (subst (λ n. most_literals < n) others_is over))
    ]
