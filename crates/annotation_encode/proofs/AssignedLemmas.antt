-- The list of values is the assignment of a machine and its annotation.
use Rattle.std.proofs.Common.{◌≡◌, ℕ, ◌+◌, ◌-◌, ◌*◌, ◌/◌, ◌%◌, ◌^◌, ◌<◌, ◌≤◌, false, List, Option, [], ◌∷◌, ◌++◌, zero, suc, length, get_or, refl, sym, ap, ◌∙◌, arith, inl, inr}
use Rattle.std.specs.Prelude.{◌==◌, nat_lt}
use Rattle.std.proofs.Math.Nat.{div-lt_iff_lt-mul, mod-lt}
use Rattle.std.proofs.lemmas.Bool.{cases_eq, cond-true, cond-false, le-ltb}
use Rattle.std.proofs.lemmas.Bool.Decides.{Decides-ltb}
use Rattle.std.proofs.lemmas.List.{get_or_append_left, get_or-append-add, length-append}
use Rattle.std.proofs.lemmas.List.FromFn.{get_or-map-range_with_len, length-map-range_with_len}
use Rattle.std.proofs.lemmas.Nat.{div-mul-add, mod-mul-add, pow_pos}
use Rattle.std.proofs.lemmas.Option.{unwrap_or-slice_get}
use Rattle.propositional_logic.specs.Truth.{value_of}
use Rattle.letters_and_lassos.specs.Signals.{has}
use Rattle.letters_and_lassos.specs.declared.kinds.Kind.{Kind}
use Rattle.letters_and_lassos.specs.declared.kinds.Kind.TheVariants.{Mealy, Moore}
use Rattle.machine_model.specs.Automaton.{states_of}
use Rattle.machine_model.specs.Machine.{IsMachine, MachineModel, next_of, size_of, writes_of}
use Rattle.machine_model.specs.Problem as looked_for
use Rattle.machine_model.specs.Problem.{IsMachineOf, IsProblem, automaton_of}
use Rattle.machine_model.specs.declared.problems.Problem.{Problem}
use Rattle.product_bound.specs.Annotation.{bound_at, number_at}
use Rattle.annotation_encode.specs.Assigned.{IsAssignmentOf, assigned_values, count_values, machine_value, machine_values, move_value, pair_values, reaches, state_values, write_value, written_at}
use Rattle.annotation_encode.specs.BaseClauses.{each_below}
use Rattle.annotation_encode.specs.Variables.{letter_count, move_count, number_count, numbers_before, row_place, state_numbers, sum_first, var_count, var_move, var_write, write_count, write_place, write_places}
use Rattle.annotation_encode.proofs.Sizes.{place_below, row_below, writes_within}
use Rattle.annotation_encode.proofs.Counted.{length-each_sum, number_within, numbers_step}
use Rattle.annotation_encode.proofs.Lists.{length-each_below}

-- the value at a place of joined pieces, where the pieces before end at known places
pub get-each_below : {A : Type 0} (n k j : ℕ) (f : ℕ → List A) (start : ℕ → ℕ) (d : A) → start 0 ≡ 0 → ((i : ℕ) → i < n → start (suc i) ≡ start i + length (f i))
    → k < n → j < length (f k) → (get_or (each_below n f) (start k + j) d ≡ get_or (f k) j d) × (length (each_below n f) ≡ start n)
get-each_below zero k j f start d first step h hj = absurd (omega arith)
get-each_below (suc n) k j f start d first step h hj =
    let ends : length (each_below n f) ≡ start n = length-pieces n f start first (λ i less. step i (omega arith)) in
    let last : start (suc n) ≡ start n + length (f n) = step n (omega arith) in
    let all : length (each_below n f ++ f n) ≡ length (each_below n f) + length (f n) = length-append (each_below n f) (f n) in (
      elim (cases_eq k n) [
        | inl e ↦
            let at : start k + j ≡ length (each_below n f) + j = omega (arith, ends, ap start e) in
            ap (λ i. get_or (each_below n f ++ f n) i d) at ∙ get_or-append-add (each_below n f) (f n) j d ∙ ap (λ i. get_or (f i) j d) (sym e)
        | inr ne ↦
            let before = get-each_below n k j f start d first (λ i less. step i (omega arith)) (omega (arith, h, ne)) hj in
            let inside : start k + j < length (each_below n f) = let within : start k + length (f k) ≤ start n = pieces_rise n f start (λ i less. step i (omega arith)) k (omega (arith, h, ne)) in omega (arith, within, ends, hj) in
            get_or_append_left (each_below n f) (f n) d (start k + j) inside ∙ before.0
      ],
      omega (arith, all, ends, last),
    )
  where
    length-pieces : {A : Type 0} (n : ℕ) (f : ℕ → List A) (start : ℕ → ℕ) → start 0 ≡ 0 → ((i : ℕ) → i < n → start (suc i) ≡ start i + length (f i)) → length (each_below n f) ≡ start n
    length-pieces zero f start first step = sym first
    length-pieces (suc n) f start first step =
        let before : length (each_below n f) ≡ start n = length-pieces n f start first (λ i less. step i (omega arith)) in
        let last : start (suc n) ≡ start n + length (f n) = step n (omega arith) in
        let all : length (each_below n f ++ f n) ≡ length (each_below n f) + length (f n) = length-append (each_below n f) (f n) in
        omega (arith, before, last, all)

    pieces_rise : {A : Type 0} (n : ℕ) (f : ℕ → List A) (start : ℕ → ℕ) → ((i : ℕ) → i < n → start (suc i) ≡ start i + length (f i)) → (k : ℕ) → k < n → start k + length (f k) ≤ start n
    pieces_rise zero f start step k h = absurd (omega arith)
    pieces_rise (suc n) f start step k h =
        let last : start (suc n) ≡ start n + length (f n) = step n (omega arith) in
        elim (cases_eq k n) [
          | inl e ↦ let here : start k + length (f k) ≡ start n + length (f n) = ap (λ i. start i + length (f i)) e in omega (arith, here, last)
          | inr ne ↦ let before : start k + length (f k) ≤ start n = pieces_rise n f start (λ i less. step i (omega arith)) k (omega (arith, h, ne)) in omega (arith, before, last)
        ]

module _ (p : Problem) (m : MachineModel) (numbers : List (Option ℕ)) where
  length-machine : length (machine_values p m) ≡ move_count p + write_count p
  length-machine = length-map-range_with_len (machine_value p m) 0 (move_count p + write_count p)

  -- the value at place k is that of variable k + 1
  machine_at : (v k : ℕ) → v ≡ 1 + k → k < move_count p + write_count p → value_of (assigned_values p m numbers) v ≡ machine_value p m k
  machine_at v k e h =
      let at : v - 1 ≡ k = omega (arith, e) in
      let ends : length (machine_values p m) ≡ move_count p + write_count p = length-machine in
      unwrap_or-slice_get (assigned_values p m numbers) (v - 1) false
      ∙ ap (λ j. get_or (assigned_values p m numbers) j false) at
      ∙ get_or_append_left (machine_values p m) (count_values p numbers) false k (omega (arith, ends, h))
      ∙ get_or-map-range_with_len (machine_value p m) 0 (move_count p + write_count p) k k false h (omega arith)

  behind_at : (v k : ℕ) → v ≡ 1 + (move_count p + write_count p) + k → value_of (assigned_values p m numbers) v ≡ get_or (count_values p numbers) k false
  behind_at v k e =
      let ends : length (machine_values p m) ≡ move_count p + write_count p = length-machine in
      let at : v - 1 ≡ length (machine_values p m) + k = omega (arith, e, ends) in
      unwrap_or-slice_get (assigned_values p m numbers) (v - 1) false
      ∙ ap (λ j. get_or (assigned_values p m numbers) j false) at
      ∙ get_or-append-add (machine_values p m) (count_values p numbers) k false

  in_moves : (k : ℕ) → k < move_count p → machine_value p m k ≡ move_value p m k
  in_moves k h = cond-true (nat_lt k (move_count p)) (move_value p m k) _ ((Decides-ltb k (move_count p)).1 h)

  in_writes : (k j : ℕ) → k ≡ move_count p + j → machine_value p m k ≡ write_value p m j
  in_writes k j e =
      let least : move_count p ≤ k = omega (arith, e) in
      let at : k - move_count p ≡ j = omega (arith, e) in
      cond-false (nat_lt k (move_count p)) (move_value p m k) _ (le-ltb k (move_count p) least) ∙ ap (write_value p m) at

  -- the pieces of the values of pairs
  length-pair : (t q : ℕ) → length (pair_values p numbers t q) ≡ number_count p q
  length-pair t q = length-each_below (number_count p q) 1 (λ c. reaches (number_at p numbers t q) c ∷ []) (λ c less. refl) ∙ (let z : number_count p q * 1 ≡ number_count p q = omega arith in z)

  none_before : numbers_before p 0 ≡ 0
  unfolding sum_first
  none_before = omega arith

  pair_step : (t q : ℕ) → numbers_before p (suc q) ≡ numbers_before p q + length (pair_values p numbers t q)
  pair_step t q = numbers_step p q ∙ ap (λ n. numbers_before p q + n) (sym (length-pair t q))

  counted_numbers : (n : ℕ) → sum_first (number_count p) n ≡ numbers_before p n
  unfolding sum_first
  counted_numbers zero = sym none_before
  counted_numbers (suc n) = ap (λ k. k + number_count p n) (counted_numbers n) ∙ sym (numbers_step p n)

  length-state : (t : ℕ) → length (state_values p numbers t) ≡ state_numbers p
  length-state t =
      length-each_sum (states_of (automaton_of p)) (λ q. pair_values p numbers t q) (number_count p) (λ q less. length-pair t q)
      ∙ counted_numbers (states_of (automaton_of p))

  length-counts : length (count_values p numbers) ≡ p.size * state_numbers p
  length-counts = length-each_below p.size (state_numbers p) (λ t. state_values p numbers t) (λ t less. length-state t)

  moves_are : (t i to : ℕ) → t < p.size → i < letter_count p → to < p.size → value_of (assigned_values p m numbers) (var_move p t i to) ≡ (next_of m t i == to)
  moves_are t i to ht hi hto =
      let small : row_place p t i * p.size + to < move_count p = place_below (row_place p t i) p.size to (p.size * letter_count p) (row_below p t i ht hi) hto in
      let d : (row_place p t i * p.size + to) / p.size ≡ row_place p t i = div-mul-add (row_place p t i) p.size to hto in
      let r : (row_place p t i * p.size + to) % p.size ≡ to = mod-mul-add (row_place p t i) p.size to hto in
      let d' : row_place p t i / letter_count p ≡ t = div-mul-add t (letter_count p) i hi in
      let r' : row_place p t i % letter_count p ≡ i = mod-mul-add t (letter_count p) i hi in
      let step : move_value p m (row_place p t i * p.size + to) ≡ (next_of m (row_place p t i / letter_count p) (row_place p t i % letter_count p) == to)
      = λ j. next_of m (d j / letter_count p) (d j % letter_count p) == r j in
      let step' : (next_of m (row_place p t i / letter_count p) (row_place p t i % letter_count p) == to) ≡ (next_of m t i == to) = λ j. next_of m (d' j) (r' j) == to in
      machine_at (var_move p t i to) (row_place p t i * p.size + to) (omega arith) (omega (arith, small))
      ∙ in_moves (row_place p t i * p.size + to) small
      ∙ step ∙ step'

  module _ (problem : IsProblem p) (machine : IsMachine m) (fits : IsMachineOf p m) where
    written_is : (kind : Kind) → p.kind ≡ kind → (t i : ℕ) → t < p.size → i < letter_count p
        → written_at kind (letter_count p) m (write_place kind (letter_count p) t i) ≡ writes_of m t i
    written_is Mealy is t i ht hi =
        let d : (t * letter_count p + i) / letter_count p ≡ t = div-mul-add t (letter_count p) i hi in
        let r : (t * letter_count p + i) % letter_count p ≡ i = mod-mul-add t (letter_count p) i hi in
        λ j. writes_of m (d j) (r j)
    written_is Moore is t i ht hi =
        let letters : letter_count p ≡ 2 ^ m.reads = ap (λ n. 2 ^ n) (sym fits.reads) in
        let state : t < size_of m = rw fits.size ht in
        let letter : i < 2 ^ m.reads = omega (arith, letters, hi) in
        let first : 0 < 2 ^ m.reads = omega (arith, letter) in
        machine.moore (fits.kind ∙ is) t 0 i state first letter

    writes_are : (t i s : ℕ) → t < p.size → i < letter_count p → s < looked_for.writes_of p → value_of (assigned_values p m numbers) (var_write p t i s) ≡ has (writes_of m t i) s
    writes_are t i s ht hi hs =
        let place : ℕ = write_place p.kind (letter_count p) t i in
        let row : write_place p.kind (letter_count p) t i * looked_for.writes_of p + looked_for.writes_of p ≤ write_count p = writes_within p t i ht hi in
        let d : (write_place p.kind (letter_count p) t i * looked_for.writes_of p + s) / looked_for.writes_of p ≡ write_place p.kind (letter_count p) t i = div-mul-add (write_place p.kind (letter_count p) t i) (looked_for.writes_of p) s hs in
        let r : (write_place p.kind (letter_count p) t i * looked_for.writes_of p + s) % looked_for.writes_of p ≡ s = mod-mul-add (write_place p.kind (letter_count p) t i) (looked_for.writes_of p) s hs in
        let step : write_value p m (write_place p.kind (letter_count p) t i * looked_for.writes_of p + s) ≡ has (written_at p.kind (letter_count p) m (write_place p.kind (letter_count p) t i)) s
        = λ j. has (written_at p.kind (letter_count p) m (d j)) (r j) in
        machine_at (var_write p t i s) (move_count p + (write_place p.kind (letter_count p) t i * looked_for.writes_of p + s)) (omega arith) (omega (arith, row, hs))
        ∙ in_writes (move_count p + (write_place p.kind (letter_count p) t i * looked_for.writes_of p + s)) (write_place p.kind (letter_count p) t i * looked_for.writes_of p + s) refl
        ∙ step ∙ ap (λ w. has w s) (written_is p.kind refl t i ht hi)

    counts_are : (t q c : ℕ) → t < p.size → q < states_of (automaton_of p) → c ≤ bound_at p q → value_of (assigned_values p m numbers) (var_count p t q c) ≡ reaches (number_at p numbers t q) c
    counts_are t q c ht hq hc =
        let pair : length (pair_values p numbers t q) ≡ number_count p q = length-pair t q in
        let state : length (state_values p numbers t) ≡ state_numbers p = length-state t in
        let within : numbers_before p q + c < state_numbers p = number_within p q c hq hc in
        behind_at (var_count p t q c) (t * state_numbers p + (numbers_before p q + c)) (omega arith)
        ∙ (get-each_below p.size t (numbers_before p q + c) (λ t. state_values p numbers t) (λ t. t * state_numbers p) false (omega arith)
        (λ i less. let e : suc i * state_numbers p ≡ i * state_numbers p + state_numbers p = omega arith in e ∙ ap (λ n. i * state_numbers p + n) (sym (length-state i)))
        ht (omega (arith, state, within))).0
        ∙ (get-each_below (states_of (automaton_of p)) q c (λ q. pair_values p numbers t q) (numbers_before p) false none_before (λ i less. pair_step t i) hq (omega (arith, pair, hc))).0
        ∙ ap (λ k. get_or (pair_values p numbers t q) k false) (let e : c ≡ c * 1 + 0 = omega arith in e)
        ∙ (get-each_below (number_count p q) c 0 (λ c. reaches (number_at p numbers t q) c ∷ []) (λ k. k * 1) false (omega arith) (λ i less. omega arith) (omega (arith, hc)) (omega arith)).0

    pub assigned : IsAssignmentOf p m numbers (assigned_values p m numbers)
    assigned = record {
      places =
          let all : length (assigned_values p m numbers) ≡ length (machine_values p m) + length (count_values p numbers) = length-append (machine_values p m) (count_values p numbers) in
          let machine_part : length (machine_values p m) ≡ move_count p + write_count p = length-machine in
          let counts : length (count_values p numbers) ≡ p.size * state_numbers p = length-counts in
          omega (arith, all, machine_part, counts);
      moves = moves_are;
      writes = writes_are;
      counts = counts_are;
    }

-- places of rows and of writes
pub row_in : (p : Problem) (k : ℕ) → 0 < p.size → k < move_count p → k / p.size < p.size * letter_count p
row_in p k some h = (div-lt_iff_lt-mul some).1 h

pub state_in : (p : Problem) (place : ℕ) → place < p.size * letter_count p → place / letter_count p < p.size
state_in p place h = (div-lt_iff_lt-mul (pow_pos (looked_for.reads_of p))).1 h

pub move_state : (p : Problem) (k : ℕ) → 0 < p.size → k < move_count p → k / p.size / letter_count p < p.size
move_state p k some h = state_in p (k / p.size) (row_in p k some h)

pub letter_in : (p : Problem) (place : ℕ) → place % letter_count p < letter_count p
letter_in p place = mod-lt place (pow_pos (looked_for.reads_of p))

pub some_writes : (p : Problem) (k : ℕ) → k < write_count p → 0 < looked_for.writes_of p
some_writes p k h = elim (cases_eq (looked_for.writes_of p) 0) [
  | inl none ↦
      let z : write_count p ≡ write_places p.kind (letter_count p) p.size * 0 = ap (λ n. write_places p.kind (letter_count p) p.size * n) none in
      let z' : write_places p.kind (letter_count p) p.size * 0 ≡ 0 = omega arith in
      absurd (omega (arith, h, z, z'))
  | inr some ↦ omega arith
]

pub write_in : (p : Problem) (k : ℕ) → k < write_count p → k / looked_for.writes_of p < write_places p.kind (letter_count p) p.size
write_in p k h = (div-lt_iff_lt-mul (some_writes p k h)).1 h
