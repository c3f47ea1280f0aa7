-- Over all letters the variables and the clauses are those of version 3.
use Rattle.std.proofs.Common.{◌≡◌, ℕ, zero, suc, ◌+◌, ◌*◌, ◌^◌, ◌<◌, List, [], ◌∷◌, ◌++◌, length, cond, true, refl, sym, ap, ◌∙◌, arith}
use Rattle.std.specs.Prelude.{nat_le}
use Rattle.std.specs.List.{flat_map}
use Rattle.std.proofs.lemmas.Bool.{cond-true}
use Rattle.std.proofs.lemmas.List.FromFn.{get_or-range_with_len, length-range_with_len}
use Rattle.letters_and_lassos.specs.Signals.{has}
use Rattle.letters_and_lassos.specs.declared.cubes.Cube.{Cube}
use Rattle.machine_model.specs.Automaton.{states_of}
use Rattle.machine_model.specs.Problem.{automaton_of, counts_locally, numbers_states, reads_of, writes_of}
use Rattle.machine_model.specs.declared.automata.Edge.{Edge}
use Rattle.machine_model.proofs.CountingLemmas.{numbered_too}
use Rattle.machine_model.specs.declared.problems.Problem.{Problem}
use Rattle.product_bound.specs.Annotation.{bound_at, number_after, start_number}
use Rattle.annotation_encode.specs.BaseClauses.{each_below, fits_read, in_order, is, is_idle, isnt, row_clause, row_move, row_orders, step_count, written_signal}
use Rattle.annotation_encode.specs.BaseClauses as three
use Rattle.annotation_encode.specs.Variables.{letter_count, numbers_before, state_numbers, write_place, write_places}
use Rattle.annotation_encode.specs.Variables as places
use Rattle.letter_clauses.specs.BaseClauses.{base_clauses, chain_clause, chain_clauses, count_literals, edge_clauses, letter_clauses, order_clauses, row_clauses, start_clause, state_clauses, step_clause, step_clauses, write_literal, write_literals}
use Rattle.letter_clauses.specs.Laws.{AreOfVersionThree, all_letters}
use Rattle.letter_clauses.specs.Letters.{letter_at}
use Rattle.letter_clauses.specs.Variables.{var_count, var_move, var_write, variables_of}

each_below-same : {A : Type 0} (n : ℕ) (f g : ℕ → List A) → ((k : ℕ) → k < n → f k ≡ g k) → each_below n f ≡ each_below n g
each_below-same zero f g same = refl
each_below-same (suc n) f g same = λ i. each_below-same n f g (λ k h. same k (omega arith)) i ++ same n (omega arith) i

module _ (p : Problem) (letters : List ℕ) (count : length letters ≡ letter_count p) (each : (k : ℕ) → k < letter_count p → letter_at letters k ≡ k) (local : counts_locally p ≡ true) where
  move_is : (t k to : ℕ) → var_move p letters t k to ≡ places.var_move p t k to
  move_is t k to = ap (λ n. row_move p (t * n + k) to) count

  write_is : (t k s : ℕ) → var_write p letters t k s ≡ places.var_write p t k s
  write_is t k s = ap (λ n. p.size * n * p.size + 1 + write_place p.kind n t k * writes_of p + s) count

  count_is : (t q c : ℕ) → var_count p letters t q c ≡ places.var_count p t q c
  count_is t q c = ap (λ n. p.size * n * p.size + write_places p.kind n p.size * writes_of p + 1 + t * state_numbers p + numbers_before p q + c) count

  variables_are : variables_of p letters ≡ places.variables_of p
  variables_are = ap (λ n. p.size * n * p.size + write_places p.kind n p.size * writes_of p + p.size * state_numbers p) count

  rows_are : row_clauses p letters ≡ three.row_clauses p
  rows_are = ap (λ n. each_below (p.size * n) (λ place. row_clause p place ∷ [])) count

  start_is : start_clause p letters ≡ three.start_clause p
  start_is = ap (λ v. is v ∷ []) (count_is 0 0 (start_number p))

  literal_is : (cube : Cube) (t k s : ℕ) → write_literal p letters cube t k s ≡ three.write_literal p cube t k s
  literal_is cube t k s = ap (λ v. cond (has cube.must (written_signal p s)) (isnt v ∷ []) (cond (has cube.not (written_signal p s)) (is v ∷ []) [])) (write_is t k s)

  literals_are : (cube : Cube) (t k : ℕ) → write_literals p letters cube t k ≡ three.write_literals p cube t k
  literals_are cube t k = λ j. each_below (writes_of p) (λ s. literal_is cube t k s j)

  counts_are : (e : Edge) (t to c : ℕ) → count_literals p letters e t to c ≡ three.count_literals p e t to c
  counts_are e t to c = λ j. cond (nat_le (number_after p e.from e.to c) (bound_at p e.to))
      (in_order (isnt (count_is t e.from c j)) (is (count_is to e.to (number_after p e.from e.to c) j)))
      (isnt (count_is t e.from c j) ∷ [])

  step_is : (e : Edge) (t k to c : ℕ) → step_clause p letters e t k to c ≡ three.step_clause p e t k to c
  step_is e t k to c = λ j. isnt (move_is t k to j) ∷ (literals_are e.cube t k j ++ counts_are e t to c j)

  steps_are : (e : Edge) (t k to : ℕ) → step_clauses p letters e t k to ≡ three.step_clauses p e t k to
  steps_are e t k to = λ j. cond (is_idle p e t to) [] (each_below (step_count p e) (λ c. step_is e t k to c j ∷ []))

  letter_is : (e : Edge) (t k : ℕ) → k < letter_count p → letter_clauses p letters e t k ≡ three.letter_clauses p e t k
  letter_is e t k h = λ j. cond (fits_read p e.cube (each k h j)) (each_below p.size (λ to. steps_are e t k to j)) []

  state_is : (e : Edge) (t : ℕ) → state_clauses p letters e t ≡ three.state_clauses p e t
  state_is e t =
      ap (λ n. each_below n (λ k. letter_clauses p letters e t k)) count
      ∙ each_below-same (letter_count p) (λ k. letter_clauses p letters e t k) (λ k. three.letter_clauses p e t k) (letter_is e t)

  edge_is : (e : Edge) → edge_clauses p letters e ≡ three.edge_clauses p e
  edge_is e = λ j. each_below p.size (λ t. state_is e t j)

  chain_is : (t q c : ℕ) → chain_clause p letters t q c ≡ three.chain_clause p t q c
  chain_is t q c = λ j. is (count_is t q c j) ∷ isnt (count_is t q (suc c) j) ∷ []

  chains_are : chain_clauses p letters ≡ three.chain_clauses p
  chains_are =
      (λ j. each_below p.size (λ t. each_below (states_of (automaton_of p)) (λ q. each_below (bound_at p q) (λ c. chain_is t q c j ∷ []))))
      ∙ sym (cond-true (counts_locally p) (each_below p.size (λ t. three.state_chains p t)) [] local)

  orders_are : order_clauses p letters ≡ three.order_clauses p
  orders_are =
      ap (λ n. each_below (p.size * n) (λ place. row_orders p place)) count
      ∙ sym (cond-true (numbers_states p) (each_below (three.row_count p) (λ place. row_orders p place)) [] (numbered_too p.counting local))

  base_is : base_clauses p letters ≡ three.base_clauses p
  base_is = λ j. rows_are j ++ (start_is j ∷ (flat_map (λ e. edge_is e j) (automaton_of p).edges ++ (chains_are j ++ orders_are j)))

  pub of_version_three : (variables_of p letters ≡ places.variables_of p) × (base_clauses p letters ≡ three.base_clauses p)
  of_version_three = (variables_are, base_is)

pub all_letters_are_version_three : (p : Problem) → counts_locally p ≡ true → AreOfVersionThree p
all_letters_are_version_three p local =
    let both = of_version_three p (all_letters p) (length-range_with_len 0 (2 ^ reads_of p)) (λ k h. at k h) local in
    record { variables = both.0; clauses = both.1 }
  where
    at : (k : ℕ) → k < letter_count p → letter_at (all_letters p) k ≡ k
    at k h = get_or-range_with_len 0 (2 ^ reads_of p) k 0 h ∙ (let e : 0 + k ≡ k = omega arith in e)
