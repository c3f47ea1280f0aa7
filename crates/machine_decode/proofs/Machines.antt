-- The decoded machine is a machine of the problem, of whatever size, and is what the assignment says.
use Rattle.std.proofs.Common.{◌≡◌, ℕ, ◌+◌, ◌*◌, ◌/◌, ◌%◌, ◌<◌, ◌≤◌, Bool, List, Option, Some, None, length, get_or, refl, sym, ap, ◌∙◌, subst, arith}
use Rattle.std.proofs.lemmas.List.FromFn.{get_or-map-range_with_len, length-map-range_with_len}
use Rattle.std.proofs.lemmas.Nat.{div-mul-add, mod-mul-add, pow_pos}
use Rattle.propositional_logic.specs.Truth.{value_of}
use Rattle.letters_and_lassos.specs.Signals.{has}
use Rattle.letters_and_lassos.specs.declared.kinds.Kind.{Kind}
use Rattle.letters_and_lassos.specs.declared.kinds.Kind.TheVariants.{Moore}
use Rattle.machine_model.specs.Automaton.{states_of}
use Rattle.machine_model.specs.Machine.{IsMachine, MachineModel, next_of, size_of, writes_of}
use Rattle.machine_model.specs.Problem as looked_for
use Rattle.machine_model.specs.Problem.{IsMachineOf, automaton_of, reads_of}
use Rattle.machine_model.specs.declared.machines.Row.{Row}
use Rattle.machine_model.specs.declared.problems.Problem.{Problem}
use Rattle.product_bound.specs.Annotation.{number_at, places_of}
use Rattle.annotation_encode.specs.BaseClauses.{row_count}
use Rattle.annotation_encode.specs.Variables.{letter_count, move_count, number_count, row_place, var_count, var_write, write_place}
use Rattle.product_bound.proofs.Trails.{place_within}
use Rattle.annotation_encode.proofs.Sizes.{row_below}
use Rattle.machine_decode.specs.Decoded.{IsDecoded, IsGreatestCount, IsLeastMove}
use Rattle.machine_decode.specs.Written.{AreRows, IsRow, letter_from, written_number, numbers_of, pair_number}
use Rattle.machine_decode.proofs.Parts.{IsGreatest, greatest_is, letter_has, letter_small}

-- the machine of these rows
abbrev pub machine_of : Problem → List Row → MachineModel
machine_of p table = record { kind = p.kind; reads = reads_of p; writes = looked_for.writes_of p; table = table }

module _ (p : Problem) (values : List Bool) (table : List Row) (some : 1 ≤ p.size) (rows : AreRows p values (row_count p) table) where
  some_letter : 0 < letter_count p
  some_letter = pow_pos (reads_of p)

  size_is : size_of (machine_of p table) ≡ p.size
  size_is =
      let e : length table ≡ p.size * letter_count p + 0 = rows.places ∙ (let z : p.size * letter_count p ≡ p.size * letter_count p + 0 = omega arith in z) in
      ap (λ n. n / letter_count p) e ∙ div-mul-add p.size (letter_count p) 0 some_letter

  row_at : (t i : ℕ) → t < p.size → i < letter_count p → IsRow p values (row_place p t i) (get_or table (row_place p t i) (record { next = 0; writes = 0 }))
  row_at t i ht hi = rows.each (row_place p t i) (row_below p t i ht hi)

  state_is : (t i : ℕ) → i < letter_count p → row_place p t i / letter_count p ≡ t
  state_is t i hi = div-mul-add t (letter_count p) i hi

  letter_is : (t i : ℕ) → i < letter_count p → row_place p t i % letter_count p ≡ i
  letter_is t i hi = mod-mul-add t (letter_count p) i hi

  -- what a row writes, by its state and letter
  written_is : (t i : ℕ) → t < p.size → i < letter_count p → writes_of (machine_of p table) t i ≡ letter_from values (var_write p t i 0) (looked_for.writes_of p)
  written_is t i ht hi =
      (row_at t i ht hi).writes
      ∙ (λ j. letter_from values (var_write p (state_is t i hi j) (letter_is t i hi j) 0) (looked_for.writes_of p))

  in_size : (t : ℕ) → t < size_of (machine_of p table) → t < p.size
  in_size t h = let e : size_of (machine_of p table) ≡ p.size = size_is in omega (arith, e, h)

  same_write : (kind : Kind) → p.kind ≡ kind → kind ≡ Moore → (t i j : ℕ) → write_place p.kind (letter_count p) t i ≡ write_place p.kind (letter_count p) t j
  same_write kind is moore t i j = ap (λ k. write_place k (letter_count p) t i) (is ∙ moore) ∙ sym (ap (λ k. write_place k (letter_count p) t j) (is ∙ moore))

  pub is_machine : IsMachine (machine_of p table)
  is_machine = record {
    shape = record {
      some = λ none.
          let first : row_place p 0 0 < p.size * letter_count p = row_below p 0 0 some some_letter in
          let places : length table ≡ p.size * letter_count p = rows.places in
          let empty : length table ≡ 0 = ap length none in
          absurd (omega (arith, first, places, empty));
      whole = rows.places ∙ ap (λ n. n * letter_count p) (sym size_is);
    };
    nexts = λ t i ht hi.
        let least : IsLeastMove p values (row_place p t i) (next_of (machine_of p table) t i) = (row_at t i (in_size t ht) hi).next in
        rw size_is least.within;
    letters = λ t i ht hi. rw (written_is t i (in_size t ht) hi) (letter_small values (var_write p t i 0) (looked_for.writes_of p));
    moore = λ moore t i j ht hi hj.
        written_is t i (in_size t ht) hi
        ∙ ap (λ place. letter_from values (move_count p + 1 + place * looked_for.writes_of p + 0) (looked_for.writes_of p)) (same_write p.kind refl moore t i j)
        ∙ sym (written_is t j (in_size t ht) hj);
  }

  pub is_of : IsMachineOf p (machine_of p table)
  is_of = record { kind = refl; size = size_is; reads = refl; writes = refl }

  numbers_at : (t q : ℕ) → t < p.size → q < states_of (automaton_of p) → number_at p (numbers_of p values) t q ≡ pair_number p values t q
  numbers_at t q ht hq =
      get_or-map-range_with_len (written_number p values) 0 (places_of p) (t * states_of (automaton_of p) + q) (t * states_of (automaton_of p) + q) None (place_within p t q ht hq) (omega arith)
      ∙ (λ j. pair_number p values (div-mul-add t (states_of (automaton_of p)) q hq j) (mod-mul-add t (states_of (automaton_of p)) q hq j))

  -- a number's variable, counted from that of 0
  value_at : (t q c : ℕ) → value_of values (var_count p t q 0 + c) ≡ value_of values (var_count p t q c)
  value_at t q c = let e : var_count p t q 0 + c ≡ var_count p t q c = omega arith in ap (value_of values) e

  greatest : (t q : ℕ) (o : Option ℕ) → IsGreatest values (var_count p t q 0) (number_count p q) o → IsGreatestCount p values t q o
  greatest t q None none = λ c hc. sym (value_at t q c) ∙ none c (omega arith)
  greatest t q (Some n) some = (
    (let below : n < number_count p q = some.0 in omega arith),
    sym (value_at t q n) ∙ some.1,
    λ c above hc. sym (value_at t q c) ∙ some.2 c above (omega arith),
  )

  pub is_decoded : IsDecoded p values (machine_of p table) (numbers_of p values)
  is_decoded = record {
    moves = λ t i ht hi. (row_at t i ht hi).next;
    writes = λ t i s ht hi hs.
        let e : var_write p t i 0 + s ≡ var_write p t i s = omega arith in
        ap (λ w. has w s) (written_is t i ht hi) ∙ letter_has values (var_write p t i 0) (looked_for.writes_of p) s hs ∙ ap (value_of values) e;
    places = length-map-range_with_len (written_number p values) 0 (places_of p);
    counts = λ t q ht hq.
        subst (IsGreatestCount p values t q) (sym (numbers_at t q ht hq))
        (greatest t q (pair_number p values t q) (greatest_is values (var_count p t q 0) (number_count p q)));
  }
