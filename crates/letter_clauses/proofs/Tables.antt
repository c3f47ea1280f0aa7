-- Tables for rows over a list of letters, with numbers of pairs, and the assignment that they stand for.
use Rattle.std.proofs.Common.{◌≡◌, ℕ, zero, suc, ◌+◌, ◌-◌, ◌*◌, ◌/◌, ◌%◌, ◌^◌, ◌<◌, ◌≤◌, Bool, false, List, Option, Some, [], ◌∷◌, ◌++◌, length, map, get_or, cond, refl, sym, ap, ◌∙◌, arith}
use Rattle.std.specs.Prelude.{◌==◌, nat_lt}
use Rattle.std.specs.List.{range_with_len}
use Rattle.std.proofs.lemmas.Bool.{cond-true, cond-false, le-ltb}
use Rattle.std.proofs.lemmas.Bool.Decides.{Decides-ltb}
use Rattle.std.proofs.lemmas.List.{get_or_append_left, get_or-append-add, length-append}
use Rattle.std.proofs.lemmas.List.FromFn.{get_or-map-range_with_len, length-map-range_with_len}
use Rattle.std.proofs.lemmas.Nat.{div-mul-add, mod-mul-add}
use Rattle.std.proofs.lemmas.Option.{unwrap_or-slice_get}
use Rattle.propositional_logic.specs.Truth.{value_of}
use Rattle.letters_and_lassos.specs.Signals.{has}
use Rattle.machine_model.specs.Automaton.{HasEdge, states_of}
use Rattle.machine_model.specs.Problem.{automaton_of, writes_of}
use Rattle.machine_model.specs.declared.problems.Problem.{Problem}
use Rattle.product_bound.specs.Annotation.{bound_at, number_after, start_number}
use Rattle.annotation_encode.specs.Assigned.{reaches}
use Rattle.annotation_encode.specs.BaseClauses.{each_below, row_move}
use Rattle.annotation_encode.specs.Variables.{number_count, numbers_before, state_numbers, sum_first, write_place, write_places}
use Rattle.annotation_encode.proofs.AssignedLemmas.{get-each_below}
use Rattle.annotation_encode.proofs.Counted.{length-each_sum, number_within, numbers_step}
use Rattle.annotation_encode.proofs.Letters.{joined_at}
use Rattle.annotation_encode.proofs.Lists.{length-each_below}
use Rattle.annotation_encode.proofs.Sizes.{place_below, row_end}
use Rattle.letter_clauses.specs.Letters.{letter_at}
use Rattle.letter_clauses.specs.Variables.{move_count, row_count, row_place, var_count, variables_of, write_count}

-- a pair has a number of at least `least`
pub record HasPairNumber (numbers : ℕ → ℕ → Option ℕ) (t q least : ℕ) : Type 0 where
  pub number : ℕ
  pub stands : numbers t q ≡ Some number
  pub enough : least ≤ number

-- a row before a place leads to the state before that to which its own row leads
pub record HasRowBefore (next : ℕ → ℕ) (place : ℕ) : Type 0 where
  pub at : ℕ
  pub before : at < place
  pub moves : next at ≡ next place - 1

-- where each row over the letters leads, what is written at each place of writes, and a number for each pair that is met
pub record IsTable (p : Problem) (letters : List ℕ) (next written : ℕ → ℕ) (numbers : ℕ → ℕ → Option ℕ) : Type 0 where
  pub nexts : (place : ℕ) → place < row_count p letters → next place < p.size
  pub writes : (t k : ℕ) → t < p.size → k < length letters → written (write_place p.kind (length letters) t k) < 2 ^ writes_of p
  pub bounded : (t q c : ℕ) → t < p.size → q < states_of (automaton_of p) → numbers t q ≡ Some c → c ≤ bound_at p q
  pub start : HasPairNumber numbers 0 0 (start_number p)
  pub edges : (t q c k r : ℕ) → t < p.size → q < states_of (automaton_of p) → numbers t q ≡ Some c → k < length letters
      → HasEdge (automaton_of p) (record { 0 = joined_at p.side p.inputs p.outputs (letter_at letters k) (written (write_place p.kind (length letters) t k)) }) q r
      → HasPairNumber numbers (next (row_place letters t k)) r (number_after p q r c)
  pub ordered : (place : ℕ) → place < row_count p letters → 2 ≤ next place → HasRowBefore next place

-- the values of an assignment are those of the tables
pub record IsAssigned (p : Problem) (letters : List ℕ) (next written : ℕ → ℕ) (numbers : ℕ → ℕ → Option ℕ) (values : List Bool) : Type 0 where
  pub places : length values ≡ variables_of p letters
  pub moves : (place to : ℕ) → place < row_count p letters → to < p.size → value_of values (row_move p place to) ≡ (next place == to)
  pub writes : (place s : ℕ) → place < write_places p.kind (length letters) p.size → s < writes_of p
      → value_of values (move_count p letters + 1 + place * writes_of p + s) ≡ has (written place) s
  pub counts : (t q c : ℕ) → t < p.size → q < states_of (automaton_of p) → c ≤ bound_at p q → value_of values (var_count p letters t q c) ≡ reaches (numbers t q) c

module _ (p : Problem) (letters : List ℕ) (next written : ℕ → ℕ) (numbers : ℕ → ℕ → Option ℕ) where
  abbrev move_value : ℕ → Bool
  move_value k = next (k / p.size) == k % p.size

  abbrev write_value : ℕ → Bool
  write_value k = has (written (k / writes_of p)) (k % writes_of p)

  abbrev row_value : ℕ → Bool
  row_value k = cond (nat_lt k (move_count p letters)) (move_value k) (write_value (k - move_count p letters))

  abbrev row_values : List Bool
  row_values = map row_value (range_with_len 0 (move_count p letters + write_count p letters))

  abbrev pair_values : ℕ → ℕ → List Bool
  pair_values t q = each_below (number_count p q) (λ c. reaches (numbers t q) c ∷ [])

  abbrev state_values : ℕ → List Bool
  state_values t = each_below (states_of (automaton_of p)) (λ q. pair_values t q)

  abbrev count_values : List Bool
  count_values = each_below p.size (λ t. state_values t)

  abbrev pub assigned_values : List Bool
  assigned_values = row_values ++ count_values

  length-rows : length row_values ≡ move_count p letters + write_count p letters
  length-rows = length-map-range_with_len row_value 0 (move_count p letters + write_count p letters)

  -- the value at place k is that of variable k + 1
  row_at : (v k : ℕ) → v ≡ 1 + k → k < move_count p letters + write_count p letters → value_of assigned_values v ≡ row_value k
  row_at v k e h =
      let at : v - 1 ≡ k = omega (arith, e) in
      let ends : length row_values ≡ move_count p letters + write_count p letters = length-rows in
      unwrap_or-slice_get assigned_values (v - 1) false
      ∙ ap (λ j. get_or assigned_values j false) at
      ∙ get_or_append_left row_values count_values false k (omega (arith, ends, h))
      ∙ get_or-map-range_with_len row_value 0 (move_count p letters + write_count p letters) k k false h (omega arith)

  behind_at : (v k : ℕ) → v ≡ 1 + (move_count p letters + write_count p letters) + k → value_of assigned_values v ≡ get_or count_values k false
  behind_at v k e =
      let ends : length row_values ≡ move_count p letters + write_count p letters = length-rows in
      let at : v - 1 ≡ length row_values + k = omega (arith, e, ends) in
      unwrap_or-slice_get assigned_values (v - 1) false
      ∙ ap (λ j. get_or assigned_values j false) at
      ∙ get_or-append-add row_values count_values k false

  in_moves : (k : ℕ) → k < move_count p letters → row_value k ≡ move_value k
  in_moves k h = cond-true (nat_lt k (move_count p letters)) (move_value k) _ ((Decides-ltb k (move_count p letters)).1 h)

  in_writes : (k j : ℕ) → k ≡ move_count p letters + j → row_value k ≡ write_value j
  in_writes k j e =
      let least : move_count p letters ≤ k = omega (arith, e) in
      let at : k - move_count p letters ≡ j = omega (arith, e) in
      cond-false (nat_lt k (move_count p letters)) (move_value k) _ (le-ltb k (move_count p letters) least) ∙ ap write_value at

  -- the pieces of the values of pairs
  length-pair : (t q : ℕ) → length (pair_values t q) ≡ number_count p q
  length-pair t q = length-each_below (number_count p q) 1 (λ c. reaches (numbers t q) c ∷ []) (λ c less. refl) ∙ (let z : number_count p q * 1 ≡ number_count p q = omega arith in z)

  none_before : numbers_before p 0 ≡ 0
  unfolding sum_first
  none_before = omega arith

  pair_step : (t q : ℕ) → numbers_before p (suc q) ≡ numbers_before p q + length (pair_values t q)
  pair_step t q = numbers_step p q ∙ ap (λ n. numbers_before p q + n) (sym (length-pair t q))

  counted_numbers : (n : ℕ) → sum_first (number_count p) n ≡ numbers_before p n
  unfolding sum_first
  counted_numbers zero = sym none_before
  counted_numbers (suc n) = ap (λ k. k + number_count p n) (counted_numbers n) ∙ sym (numbers_step p n)

  length-state : (t : ℕ) → length (state_values t) ≡ state_numbers p
  length-state t =
      length-each_sum (states_of (automaton_of p)) (λ q. pair_values t q) (number_count p) (λ q less. length-pair t q)
      ∙ counted_numbers (states_of (automaton_of p))

  length-counts : length count_values ≡ p.size * state_numbers p
  length-counts = length-each_below p.size (state_numbers p) (λ t. state_values t) (λ t less. length-state t)

  moves_are : (place to : ℕ) → place < row_count p letters → to < p.size → value_of assigned_values (row_move p place to) ≡ (next place == to)
  moves_are place to hp hto =
      let small : place * p.size + to < move_count p letters = place_below place p.size to (row_count p letters) hp hto in
      let d : (place * p.size + to) / p.size ≡ place = div-mul-add place p.size to hto in
      let r : (place * p.size + to) % p.size ≡ to = mod-mul-add place p.size to hto in
      let step : move_value (place * p.size + to) ≡ (next place == to) = λ j. next (d j) == r j in
      row_at (row_move p place to) (place * p.size + to) (omega arith) (omega (arith, small))
      ∙ in_moves (place * p.size + to) small
      ∙ step

  writes_are : (place s : ℕ) → place < write_places p.kind (length letters) p.size → s < writes_of p
      → value_of assigned_values (move_count p letters + 1 + place * writes_of p + s) ≡ has (written place) s
  writes_are place s hp hs =
      let row : place * writes_of p + writes_of p ≤ write_count p letters = row_end place (writes_of p) (write_places p.kind (length letters) p.size) hp in
      let d : (place * writes_of p + s) / writes_of p ≡ place = div-mul-add place (writes_of p) s hs in
      let r : (place * writes_of p + s) % writes_of p ≡ s = mod-mul-add place (writes_of p) s hs in
      let step : write_value (place * writes_of p + s) ≡ has (written place) s = λ j. has (written (d j)) (r j) in
      row_at (move_count p letters + 1 + place * writes_of p + s) (move_count p letters + (place * writes_of p + s)) (omega arith) (omega (arith, row, hs))
      ∙ in_writes (move_count p letters + (place * writes_of p + s)) (place * writes_of p + s) refl
      ∙ step

  counts_are : (t q c : ℕ) → t < p.size → q < states_of (automaton_of p) → c ≤ bound_at p q → value_of assigned_values (var_count p letters t q c) ≡ reaches (numbers t q) c
  counts_are t q c ht hq hc =
      let pair : length (pair_values t q) ≡ number_count p q = length-pair t q in
      let state : length (state_values t) ≡ state_numbers p = length-state t in
      let within : numbers_before p q + c < state_numbers p = number_within p q c hq hc in
      behind_at (var_count p letters t q c) (t * state_numbers p + (numbers_before p q + c)) (omega arith)
      ∙ (get-each_below p.size t (numbers_before p q + c) (λ t. state_values t) (λ t. t * state_numbers p) false (omega arith)
      (λ i less. let e : suc i * state_numbers p ≡ i * state_numbers p + state_numbers p = omega arith in e ∙ ap (λ n. i * state_numbers p + n) (sym (length-state i)))
      ht (omega (arith, state, within))).0
      ∙ (get-each_below (states_of (automaton_of p)) q c (λ q. pair_values t q) (numbers_before p) false none_before (λ i less. pair_step t i) hq (omega (arith, pair, hc))).0
      ∙ ap (λ k. get_or (pair_values t q) k false) (let e : c ≡ c * 1 + 0 = omega arith in e)
      ∙ (get-each_below (number_count p q) c 0 (λ c. reaches (numbers t q) c ∷ []) (λ k. k * 1) false (omega arith) (λ i less. omega arith) (omega (arith, hc)) (omega arith)).0

  pub assigned : IsAssigned p letters next written numbers assigned_values
  assigned = record {
    places =
        let all : length assigned_values ≡ length row_values + length count_values = length-append row_values count_values in
        let rows : length row_values ≡ move_count p letters + write_count p letters = length-rows in
        let counts : length count_values ≡ p.size * state_numbers p = length-counts in
        omega (arith, all, rows, counts);
    moves = moves_are;
    writes = writes_are;
    counts = counts_are;
  }
