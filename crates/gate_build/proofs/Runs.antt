-- The circuit's runs are the machine's.
use Rattle.std.proofs.Common.{◌≡◌, ℕ, zero, suc, ◌+◌, ◌^◌, ◌<◌, ◌≤◌, Bool, false, List, length, get_or, sym, ap, subst, ◌∙◌, arith}
use Rattle.std.specs.Prelude.{map, All}
use Rattle.std.specs.List.{range_with_len}
use Rattle.std.proofs.Math.Nat.{div-lt_iff_lt-mul, mod-lt, mul_comm}
use Rattle.std.proofs.lemmas.Nat.{pow-add, pow_pos}
use Rattle.std.proofs.lemmas.List.{get_or-map, get_or_default, length-map}
use Rattle.std.proofs.lemmas.List.FromFn.{get_or-map-range_with_len, get_or-range_with_len, length-map-range_with_len, length-range_with_len}
use Rattle.letters_and_lassos.specs.declared.kinds.Side.{Side}
use Rattle.letters_and_lassos.specs.declared.kinds.Side.TheVariants.{System, Environment}
use Rattle.letters_and_lassos.specs.declared.letters.Letter.{Letter}
use Rattle.letters_and_lassos.specs.Signals.{has}
use Rattle.letters_and_lassos.specs.Word.{Word, IsLassoOver, after, lasso_len, letter_at, next}
use Rattle.letters_and_lassos.proofs.Positions.{after-own, after-suc, after_within, letter_below, next_within}
use Rattle.letters_and_lassos.proofs.Bits.{number_of-lt, has-number_of, has-none, same_number}
use Rattle.machine_model.specs.Machine.{MachineModel, IsMachine, next_of, size_of, writes_of}
use Rattle.machine_model.specs.Run.{IsRunLasso, read_part, written_part}
use Rattle.machine_model.specs.Laws.{StaysWithin}
use Rattle.machine_model.proofs.Determined.{stays_within}
use Rattle.machine_model.proofs.Tables.{size_pos}
use Rattle.aiger_text.specs.declared.circuits.Latch.{Latch}
use Rattle.aiger_text.specs.Circuit.{Circuit, IsCircuitRun, Valuation, first_read, first_written, latch_values, literal_value}
use Rattle.aiger_text.specs.CircuitType.{IsOrder}
use Rattle.aiger_text.proofs.Bits.{bits_of, get_or-bits_of, has-div, has-mod, length-bits_of}
use Rattle.letters_and_lassos.specs.Bits.{binary_value}
use Rattle.aiger_text.proofs.Orders.{order_of_sorted}
use Rattle.aiger_text.proofs.Putting.{no_latch}
use Rattle.aiger_text.proofs.Valuations.{HasValuation, valuation_of}
use Rattle.gate_build.specs.Laws.{HasTheRunsOf}
use Rattle.gate_build.specs.Table.{circuit_of, latches_of}
use Rattle.gate_build.proofs.Positions.{Shows, codes_enough, next_is, output_is}
use Rattle.gate_build.proofs.Whole.{is_circuit, latch-at, length-inputs, length-latches, outputs_good, sorted}

-- what is read and written of a letter of both is a letter of its own signals
heard_small : (side : Side) (m : MachineModel) (letter : Letter) → letter.0 < 2 ^ (m.reads + m.writes) → read_part side m letter < 2 ^ m.reads
heard_small System m letter h = mod-lt letter.0 (pow_pos m.reads)
heard_small Environment m letter h = (div-lt_iff_lt-mul (pow_pos m.writes)).1 (subst (λ (n : ℕ). letter.0 < n) (pow-add 2 m.reads m.writes) h)

written_small : (side : Side) (m : MachineModel) (letter : Letter) → letter.0 < 2 ^ (m.reads + m.writes) → written_part side m letter < 2 ^ m.writes
written_small System m letter h =
    (div-lt_iff_lt-mul (pow_pos m.reads)).1 (subst (λ (n : ℕ). letter.0 < n) (pow-add 2 m.reads m.writes ∙ mul_comm (2 ^ m.reads) (2 ^ m.writes)) h)
written_small Environment m letter h = mod-lt letter.0 (pow_pos m.writes)

module _ (m : MachineModel) (read_names write_names : List (List ℕ)) (reads : length read_names ≡ m.reads) (writes : length write_names ≡ m.writes) where
  abbrev c : Circuit
  c = circuit_of m read_names write_names

  pub inputs_len : length c.inputs ≡ m.reads
  inputs_len = length-inputs m read_names write_names reads writes

  pub latches_len : length c.latches ≡ latches_of m
  latches_len = length-latches m read_names write_names reads writes

  pub outputs_len : length c.outputs ≡ m.writes
  outputs_len = (outputs_good m read_names write_names reads writes).places

  signals_len : length c.inputs + length c.outputs ≡ m.reads + m.writes
  signals_len = ap (λ n. n + length c.outputs) inputs_len ∙ ap (λ n. m.reads + n) outputs_len

  no_reset : (k : ℕ) → k < latches_of m → (get_or c.latches k no_latch).reset ≡ false
  no_reset k h = ap (λ (latch : Latch). latch.reset) (latch-at m read_names write_names reads writes k no_latch h)

  -- what a machine reads and writes of a letter, signal by signal
  read_signal : (side : Side) (letter : Letter) (k : ℕ) → k < m.reads → has (read_part side m letter) k ≡ has letter.0 (first_read side c + k)
  read_signal System letter k h = has-mod letter.0 m.reads k h ∙ (let e : k ≡ 0 + k = omega arith in ap (has letter.0) e)
  read_signal Environment letter k h = has-div letter.0 m.writes k ∙ ap (λ n. has letter.0 (n + k)) (sym outputs_len)

  written_signal : (side : Side) (letter : Letter) (k : ℕ) → k < m.writes → has (written_part side m letter) k ≡ has letter.0 (first_written side c + k)
  written_signal System letter k h = has-div letter.0 m.reads k ∙ ap (λ n. has letter.0 (n + k)) (sym inputs_len)
  written_signal Environment letter k h = has-mod letter.0 m.writes k h ∙ (let e : k ≡ 0 + k = omega arith in ap (has letter.0) e)

  -- what holds of each latch holds of all
  all_latches : (P : Latch → Type 0) → ((k : ℕ) → k < latches_of m → P (get_or c.latches k no_latch)) → All P c.latches
  all_latches P each k d h = subst P (get_or_default c.latches k no_latch d h) (each k (rw latches_len at h))

  module _ (machine : IsMachine m) (few : size_of m ≤ 8) where
    pub order : IsOrder c.gates (range_with_len 0 (length c.gates))
    order =
        order_of_sorted c.gates (range_with_len 0 (length c.gates)) (sorted m read_names write_names reads writes)
        (record { count = places_len; each = λ k h. get_or-range_with_len 0 (length c.gates) k 0 h ∙ plain k })
      where
        places_len : length (range_with_len 0 (length c.gates)) ≡ length c.gates
        places_len = length-range_with_len 0 (length c.gates)

        plain : (k : ℕ) → 0 + k ≡ k
        plain k = omega arith

    -- A run lasso of the machine is one of the circuit's: each position has the valuation of its state and its read letter.
    module _ (side : Side) (w : Word) (states : List ℕ) (run : IsRunLasso m side w states) where
      stays : StaysWithin m w states
      stays = stays_within m side w states machine run

      abbrev pub read_at : ℕ → ℕ
      read_at i = read_part side m (letter_at w i)

      abbrev pub state_at : ℕ → ℕ
      state_at i = get_or states i 0

      abbrev pub chosen : (i : ℕ) → HasValuation c (bits_of m.reads (read_at i)) (bits_of (latches_of m) (state_at i))
      chosen i =
          valuation_of c (is_circuit m read_names write_names reads writes) (range_with_len 0 (length c.gates)) order
          (bits_of m.reads (read_at i)) (bits_of (latches_of m) (state_at i))
          (length-bits_of m.reads (read_at i) ∙ sym inputs_len) (length-bits_of (latches_of m) (state_at i) ∙ sym latches_len)

      abbrev pub values : ℕ → Valuation
      values i = (chosen i).values

      shown : (i : ℕ) → i < lasso_len w → Shows m c (state_at i) (read_at i) (values i)
      shown i h = record {
        latches = λ k low.
            sym (get_or-map (λ (latch : Latch). literal_value (values i) latch.literal) c.latches k no_latch false (rw latches_len low))
            ∙ ap (λ (bits : List Bool). get_or bits k false) (chosen i).holds.holds ∙ get_or-bits_of (latches_of m) (state_at i) k low;
        inputs = λ k low.
            sym (get_or-map (λ literal. literal_value (values i) literal) c.inputs k 0 false (rw inputs_len low))
            ∙ ap (λ (bits : List Bool). get_or bits k false) (chosen i).holds.reads ∙ get_or-bits_of m.reads (read_at i) k low;
        gates = (chosen i).holds.gates;
        in_range = stays.in_range i 0 (rw run.places h);
        readable = run.reads i h;
      }

      pub circuit_run : IsCircuitRun side c w values
      circuit_run =
          let ring : 0 < length w.ring = run.ring in
          let start : 0 < lasso_len w = omega (arith, ring) in
          record {
            lasso = subst (λ (n : ℕ). IsLassoOver n w) (sym signals_len) stays.letters;
            resets = all_latches (λ latch. literal_value (values 0) latch.literal ≡ latch.reset)
                (λ k h. (shown 0 start).latches k h ∙ ap (λ (t : ℕ). has t k) run.start ∙ has-none k ∙ sym (no_reset k h));
            steps = λ i hi. all_latches (λ latch. literal_value (values (next w i)) latch.literal ≡ literal_value (values i) latch.next)
                (λ k h. (shown (next w i) (next_within w i run.ring hi)).latches k h ∙ ap (λ (t : ℕ). has t k) (run.moves i hi)
                ∙ sym (next_is m read_names write_names reads writes few (state_at i) (read_at i) (values i) (shown i hi) k h));
            gates = λ i hi. (shown i hi).gates;
            reads = λ i hi k h.
                let low : k < m.reads = rw inputs_len at h in
                (shown i hi).inputs k low ∙ read_signal side (letter_at w i) k low;
            writes = λ i hi k h.
                let low : k < m.writes = rw outputs_len at h in
                output_is m read_names write_names reads writes few (state_at i) (read_at i) (values i) (shown i hi) k low
                ∙ ap (λ (a : ℕ). has a k) (sym (run.writes i hi)) ∙ written_signal side (letter_at w i) k low;
          }

    -- A run lasso of the circuit is one of the machine's: each position has the state of its latches' values.
    module _ (side : Side) (w : Word) (values : ℕ → Valuation) (run : IsCircuitRun side c w values) where
      abbrev pub code : ℕ → ℕ
      code i = binary_value (latch_values c (values i))

      abbrev pub heard : ℕ → ℕ
      heard i = read_part side m (letter_at w i)

      pub values_len : (i : ℕ) → length (latch_values c (values i)) ≡ latches_of m
      values_len i = length-map c.latches (λ (latch : Latch). literal_value (values i) latch.literal) ∙ latches_len

      pub code_small : (i : ℕ) → code i < 2 ^ latches_of m
      code_small i = subst (λ (n : ℕ). code i < 2 ^ n) (values_len i) (number_of-lt (latch_values c (values i)))

      pub code_bits : (i k : ℕ) → k < latches_of m → literal_value (values i) (get_or c.latches k no_latch).literal ≡ has (code i) k
      code_bits i k h =
          sym (has-number_of (latch_values c (values i)) k (rw (values_len i) h)
          ∙ get_or-map (λ (latch : Latch). literal_value (values i) latch.literal) c.latches k no_latch false (rw latches_len h))

      letter_small : (i : ℕ) → (letter_at w i).0 < 2 ^ (m.reads + m.writes)
      letter_small i = subst (λ (n : ℕ). (letter_at w i).0 < 2 ^ n) signals_len (letter_below (length c.inputs + length c.outputs) w i run.lasso)

      pub shown_by : (i : ℕ) → i < lasso_len w → code i < size_of m → Shows m c (code i) (heard i) (values i)
      shown_by i hi inside = record {
        latches = code_bits i;
        inputs = λ k h. run.reads i hi k (rw inputs_len h) ∙ sym (read_signal side (letter_at w i) k h);
        gates = run.gates i hi;
        in_range = inside;
        readable = heard_small side m (letter_at w i) (letter_small i);
      }

      moves : (i : ℕ) → i < lasso_len w → code i < size_of m → code (next w i) ≡ next_of m (code i) (heard i)
      moves i hi inside =
          let shows = shown_by i hi inside in
          let goes : next_of m (code i) (heard i) < size_of m = machine.nexts (code i) (heard i) inside shows.readable in
          same_number (latches_of m) (code (next w i)) (next_of m (code i) (heard i)) (code_small (next w i)) (omega (arith, goes, codes_enough (size_of m) few))
          (λ k h. sym (code_bits (next w i) k h) ∙ run.steps i hi k no_latch (rw latches_len h)
          ∙ next_is m read_names write_names reads writes few (code i) (heard i) (values i) shows k h)

      begins : code 0 ≡ 0
      begins =
          same_number (latches_of m) (code 0) 0 (code_small 0) (pow_pos (latches_of m))
          (λ k h. sym (code_bits 0 k h) ∙ run.resets k no_latch (rw latches_len h) ∙ no_reset k h ∙ sym (has-none k))

      step_inside : (j : ℕ) → after w 0 j < lasso_len w
      step_inside j = let ring : 0 < length w.ring = run.lasso.ring in after_within w 0 j run.lasso.ring (omega (arith, ring))

      states_inside : (j : ℕ) → code (after w 0 j) < size_of m
      states_inside zero = rw begins (size_pos m machine.shape)
      states_inside (suc j) =
          let inside : code (after w 0 j) < size_of m = states_inside j in
          let here : after w 0 j < lasso_len w = step_inside j in
          let goes : next_of m (code (after w 0 j)) (heard (after w 0 j)) < size_of m =
          machine.nexts (code (after w 0 j)) (heard (after w 0 j)) inside (shown_by (after w 0 j) here inside).readable in
          subst (λ (n : ℕ). n < size_of m) (sym (ap code (after-suc w 0 j) ∙ moves (after w 0 j) here inside)) goes

      pub inside_at : (i : ℕ) → i < lasso_len w → code i < size_of m
      inside_at i hi = subst (λ (k : ℕ). code k < size_of m) (after-own w i hi) (states_inside i)

      abbrev pub states : List ℕ
      states = map code (range_with_len 0 (lasso_len w))

      pub state_is : (i : ℕ) → i < lasso_len w → get_or states i 0 ≡ code i
      state_is i hi = get_or-map-range_with_len code 0 (lasso_len w) i i 0 hi (omega arith)

      pub machine_run : IsRunLasso m side w states
      machine_run =
          let ring : 0 < length w.ring = run.lasso.ring in
          record {
            ring = run.lasso.ring;
            places = length-map-range_with_len code 0 (lasso_len w);
            start = state_is 0 (omega (arith, ring)) ∙ begins;
            reads = λ i hi. heard_small side m (letter_at w i) (letter_small i);
            writes = λ i hi.
                let inside : code i < size_of m = inside_at i hi in
                let shows = shown_by i hi inside in
                same_number m.writes (written_part side m (letter_at w i)) (writes_of m (code i) (heard i))
                (written_small side m (letter_at w i) (letter_small i)) (machine.letters (code i) (heard i) inside shows.readable)
                (λ k h. written_signal side (letter_at w i) k h ∙ sym (run.writes i hi k (rw outputs_len h))
                ∙ output_is m read_names write_names reads writes few (code i) (heard i) (values i) shows k h)
                ∙ ap (λ (t : ℕ). writes_of m t (heard i)) (sym (state_is i hi));
            moves = λ i hi.
                state_is (next w i) (next_within w i run.lasso.ring hi) ∙ moves i hi (inside_at i hi)
                ∙ ap (λ (t : ℕ). next_of m t (heard i)) (sym (state_is i hi));
          }

    pub has_the_runs : HasTheRunsOf m c
    has_the_runs = record {
      runs = λ side w. (
        (λ run. (states side w run.0 run.1, machine_run side w run.0 run.1)),
        (λ run. (values side w run.0 run.1, circuit_run side w run.0 run.1)),
      );
    }
