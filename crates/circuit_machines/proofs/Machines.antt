-- The machine of all values of a circuit's latches, and its runs.
use Rattle.std.proofs.Common.{◌≡◌, ℕ, ◌+◌, ◌^◌, ◌<◌, Bool, true, false, List, length, get_or, refl, sym, ap, subst, ◌∙◌, arith}
use Rattle.std.specs.Prelude.{map}
use Rattle.std.specs.List.{range_with_len}
use Rattle.std.proofs.Math.Nat.{div-lt_iff_lt-mul, mod-lt, mul_comm}
use Rattle.std.proofs.lemmas.Nat.{pow-add, pow_pos}
use Rattle.std.proofs.lemmas.List.{ext_get_or, get_or-map, length-map}
use Rattle.std.proofs.lemmas.List.FromFn.{get_or-map-range_with_len, length-map-range_with_len}
use Rattle.letters_and_lassos.specs.declared.kinds.Kind.TheVariants.{Mealy}
use Rattle.letters_and_lassos.specs.declared.kinds.Side.{Side}
use Rattle.letters_and_lassos.specs.declared.kinds.Side.TheVariants.{Environment, System}
use Rattle.letters_and_lassos.specs.declared.letters.Letter.{Letter}
use Rattle.letters_and_lassos.specs.Bits.{binary_value}
use Rattle.letters_and_lassos.specs.Signals.{has}
use Rattle.letters_and_lassos.specs.Word.{Word, lasso_len, letter_at, next}
use Rattle.letters_and_lassos.proofs.Bits.{has-none, has-number_of, number_of-lt, same_number}
use Rattle.letters_and_lassos.proofs.Positions.{letter_below, next_within}
use Rattle.machine_model.specs.declared.machines.Row.{Row}
use Rattle.machine_model.specs.Machine.{IsMachine, MachineModel, next_of, row_of, size_of, writes_of}
use Rattle.machine_model.specs.Run.{IsRunLasso, read_part, written_part}
use Rattle.aiger_text.specs.declared.circuits.Latch.{Latch}
use Rattle.aiger_text.specs.Circuit.{Circuit, IsCircuitRun, Valuation, first_read, first_written, latch_values, literal_value, output_values}
use Rattle.aiger_text.specs.CircuitType.{IsCircuit, IsDefined, IsOrder}
use Rattle.aiger_text.specs.Step.{HasValues}
use Rattle.aiger_text.proofs.Bits.{bits_of, get_or-bits_of, has-div, has-mod, length-bits_of}
use Rattle.aiger_text.proofs.CircuitMachine.{circuit_run, decode, decode-encode, encode, encode-lt, flipped, length-decode, values}
use Rattle.aiger_text.proofs.Putting.{no_latch, taken_all}
use Rattle.aiger_text.proofs.Stepping.{next_defined, output_defined}
use Rattle.aiger_text.proofs.Valuations.{HasValuation, agree, valuation_of}
use Rattle.gate_build.specs.Laws.{HasTheRunsOf}
use Rattle.circuit_machines.proofs.Rows.{AreRows, is_machine, machine_of, row_is, size_is}

turned_self : (b : Bool) → flipped b b ≡ false
turned_self true = refl
turned_self false = refl

module _ (c : Circuit) where
  abbrev reset_at : ℕ → Bool
  reset_at k = (get_or c.latches k no_latch).reset

  has-encode : (bits : List Bool) (k : ℕ) → k < length c.latches → has (encode c bits) k ≡ flipped (reset_at k) (get_or bits k false)
  has-encode bits k h =
      let f : ℕ → Bool = λ k. flipped (reset_at k) (get_or bits k false) in
      let n : length (map f (range_with_len 0 (length c.latches))) ≡ length c.latches = length-map-range_with_len f 0 (length c.latches) in
      has-number_of (map f (range_with_len 0 (length c.latches))) k (rw n h)
      ∙ get_or-map-range_with_len f 0 (length c.latches) k k false h (omega arith)

  -- the code of the resets is 0
  pub encode-resets : (bits : List Bool) → ((k : ℕ) → k < length c.latches → get_or bits k false ≡ reset_at k) → encode c bits ≡ 0
  encode-resets bits are =
      same_number (length c.latches) (encode c bits) 0 (encode-lt c bits) (pow_pos (length c.latches))
      (λ k h. has-encode bits k h ∙ ap (flipped (reset_at k)) (are k h) ∙ turned_self (reset_at k) ∙ sym (has-none k))

  -- values of all latches are those of their code
  pub decode_code : (bits : List Bool) → length bits ≡ length c.latches → decode c (encode c bits) ≡ bits
  decode_code bits len =
      ext_get_or false (decode c (encode c bits)) bits (length-decode c (encode c bits) ∙ sym len)
      (λ k h. decode-encode c bits k (rw (length-decode c (encode c bits)) at h))

  -- and a code is that of its values
  pub code_decode : (t : ℕ) → t < 2 ^ length c.latches → encode c (decode c t) ≡ t
  code_decode t small =
      same_number (length c.latches) (encode c (decode c t)) t (encode-lt c (decode c t)) small
      (λ k h. has-encode (decode c t) k h ∙ ap (flipped (reset_at k)) (at_decode k h) ∙ twice (reset_at k) (has t k))
    where
      at_decode : (k : ℕ) → k < length c.latches → get_or (decode c t) k false ≡ flipped (reset_at k) (has t k)
      at_decode k h = get_or-map-range_with_len (λ k. flipped (reset_at k) (has t k)) 0 (length c.latches) k k false h (omega arith)

      twice : (b x : Bool) → flipped b (flipped b x) ≡ x
      twice true true = refl
      twice true false = refl
      twice false x = refl

  pub length-latch_values : (v : Valuation) → length (latch_values c v) ≡ length c.latches
  length-latch_values v = length-map c.latches (λ (latch : Latch). literal_value v latch.literal)

  latch_value : (v : Valuation) (k : ℕ) → k < length c.latches → get_or (latch_values c v) k false ≡ literal_value v (get_or c.latches k no_latch).literal
  latch_value v k h = get_or-map (λ (latch : Latch). literal_value v latch.literal) c.latches k no_latch false h

-- what is read and written of a letter of both is a letter of its own signals
heard_small : (side : Side) (m : MachineModel) (letter : Letter) → letter.0 < 2 ^ (m.reads + m.writes) → read_part side m letter < 2 ^ m.reads
heard_small System m letter h = mod-lt letter.0 (pow_pos m.reads)
heard_small Environment m letter h = (div-lt_iff_lt-mul (pow_pos m.writes)).1 (subst (λ (n : ℕ). letter.0 < n) (pow-add 2 m.reads m.writes) h)

written_small : (side : Side) (m : MachineModel) (letter : Letter) → letter.0 < 2 ^ (m.reads + m.writes) → written_part side m letter < 2 ^ m.writes
written_small System m letter h =
    (div-lt_iff_lt-mul (pow_pos m.reads)).1 (subst (λ (n : ℕ). letter.0 < n) (pow-add 2 m.reads m.writes ∙ mul_comm (2 ^ m.reads) (2 ^ m.writes)) h)
written_small Environment m letter h = mod-lt letter.0 (pow_pos m.writes)

module _ (c : Circuit) (circuit : IsCircuit c) (order : List ℕ) (sorted : IsOrder c.gates order) where
  -- the valuation on a read letter in a state
  abbrev pub chosen : (a t : ℕ) → HasValuation c (bits_of (length c.inputs) a) (decode c t)
  chosen a t =
      valuation_of c circuit order sorted (bits_of (length c.inputs) a) (decode c t) (length-bits_of (length c.inputs) a) (length-decode c t)

  abbrev pub row_on : ℕ → ℕ → Row
  row_on t a = record {
    next = encode c (map (λ (latch : Latch). literal_value (chosen a t).values latch.next) c.latches);
    writes = binary_value (output_values c (chosen a t).values);
  }

  -- its states are the codes of all values of the latches
  abbrev pub whole : MachineModel
  whole = machine_of Mealy (length c.inputs) (length c.outputs) (2 ^ length c.latches) row_on

  pub written_on : (t a : ℕ) → (row_on t a).writes < 2 ^ length c.outputs
  written_on t a =
      let n : length (output_values c (chosen a t).values) ≡ length c.outputs = length-map c.outputs (λ literal. literal_value (chosen a t).values literal) in
      subst (λ (k : ℕ). (row_on t a).writes < 2 ^ k) n (number_of-lt (output_values c (chosen a t).values))

  are_rows : AreRows Mealy (length c.inputs) (length c.outputs) (2 ^ length c.latches) row_on
  are_rows = record {
    some = pow_pos (length c.latches);
    next = λ t a ht ha. encode-lt c (map (λ (latch : Latch). literal_value (chosen a t).values latch.next) c.latches);
    writes_in = λ t a ht ha. written_on t a;
    moore = λ e. absurd (cc);
  }

  pub whole_is : IsMachine whole
  whole_is = is_machine Mealy (length c.inputs) (length c.outputs) (2 ^ length c.latches) row_on are_rows

  pub whole_size : size_of whole ≡ 2 ^ length c.latches
  whole_size = size_is Mealy (length c.inputs) (length c.outputs) (2 ^ length c.latches) row_on

  pub row_of_whole : (t a : ℕ) → t < 2 ^ length c.latches → a < 2 ^ length c.inputs → row_of whole t a ≡ row_on t a
  row_of_whole t a ht ha = row_is Mealy (length c.inputs) (length c.outputs) (2 ^ length c.latches) row_on t a ht ha

  -- what the machine reads and writes of a letter, signal by signal
  read_signal : (side : Side) (letter : Letter) (k : ℕ) → k < length c.inputs → has (read_part side whole letter) k ≡ has letter.0 (first_read side c + k)
  read_signal System letter k h = has-mod letter.0 (length c.inputs) k h ∙ (let e : k ≡ 0 + k = omega arith in ap (has letter.0) e)
  read_signal Environment letter k h = has-div letter.0 (length c.outputs) k

  written_signal : (side : Side) (letter : Letter) (k : ℕ) → k < length c.outputs → has (written_part side whole letter) k ≡ has letter.0 (first_written side c + k)
  written_signal System letter k h = has-div letter.0 (length c.inputs) k
  written_signal Environment letter k h = has-mod letter.0 (length c.outputs) k h ∙ (let e : k ≡ 0 + k = omega arith in ap (has letter.0) e)

  -- A run lasso of the circuit is one of the machine's: each position has the code of its latches' values.
  module _ (side : Side) (w : Word) (values : ℕ → Valuation) (run : IsCircuitRun side c w values) where
    abbrev pub code : ℕ → ℕ
    code i = encode c (latch_values c (values i))

    abbrev heard : ℕ → ℕ
    heard i = read_part side whole (letter_at w i)

    letter_small : (i : ℕ) → (letter_at w i).0 < 2 ^ (length c.inputs + length c.outputs)
    letter_small i = letter_below (length c.inputs + length c.outputs) w i run.lasso

    read_small : (i : ℕ) → heard i < 2 ^ length c.inputs
    read_small i = heard_small side whole (letter_at w i) (letter_small i)

    -- the position's valuation is one on its letter in its state
    has_values : (i : ℕ) → i < lasso_len w → HasValues c (bits_of (length c.inputs) (heard i)) (decode c (code i)) (values i)
    has_values i hi = record {
      reads = sym (taken_all (λ literal. literal_value (values i) literal) c.inputs (bits_of (length c.inputs) (heard i)) 0 (length-bits_of (length c.inputs) (heard i))
          (λ k h. get_or-bits_of (length c.inputs) (heard i) k h ∙ read_signal side (letter_at w i) k h ∙ sym (run.reads i hi k h)));
      holds = sym (decode_code c (latch_values c (values i)) (length-latch_values c (values i)));
      gates = run.gates i hi;
    }

    same_value : (i : ℕ) → i < lasso_len w → (l : ℕ) → IsDefined c l → literal_value (values i) l ≡ literal_value (chosen (heard i) (code i)).values l
    same_value i hi l defined =
        agree c circuit order sorted (bits_of (length c.inputs) (heard i)) (decode c (code i)) (values i) (chosen (heard i) (code i)).values
        (has_values i hi) (chosen (heard i) (code i)).holds l defined

    begins : code 0 ≡ 0
    begins = encode-resets c (latch_values c (values 0)) (λ k h. latch_value c (values 0) k h ∙ run.resets k no_latch h)

    goes : (i : ℕ) → i < lasso_len w → latch_values c (values (next w i)) ≡ map (λ (latch : Latch). literal_value (chosen (heard i) (code i)).values latch.next) c.latches
    goes i hi =
        taken_all (λ (latch : Latch). literal_value (chosen (heard i) (code i)).values latch.next) c.latches (latch_values c (values (next w i))) no_latch
        (length-latch_values c (values (next w i)))
        (λ k h. latch_value c (values (next w i)) k h ∙ run.steps i hi k no_latch h
        ∙ same_value i hi (get_or c.latches k no_latch).next (next_defined c circuit k h))

    row_at_code : (i : ℕ) → row_of whole (code i) (heard i) ≡ row_on (code i) (heard i)
    row_at_code i = row_of_whole (code i) (heard i) (encode-lt c (latch_values c (values i))) (read_small i)

    moves : (i : ℕ) → i < lasso_len w → code (next w i) ≡ next_of whole (code i) (heard i)
    moves i hi = ap (encode c) (goes i hi) ∙ sym (ap (λ (r : Row). r.next) (row_at_code i))

    output_at : (i k : ℕ) → i < lasso_len w → k < length c.outputs → has (row_on (code i) (heard i)).writes k ≡ literal_value (values i) (get_or c.outputs k 0)
    output_at i k hi h =
        let f : ℕ → Bool = λ literal. literal_value (chosen (heard i) (code i)).values literal in
        let n : length (map f c.outputs) ≡ length c.outputs = length-map c.outputs f in
        has-number_of (map f c.outputs) k (rw n h) ∙ get_or-map f c.outputs k 0 false h
        ∙ sym (same_value i hi (get_or c.outputs k 0) (output_defined c circuit k 0 h))

    writes : (i : ℕ) → i < lasso_len w → written_part side whole (letter_at w i) ≡ writes_of whole (code i) (heard i)
    writes i hi =
        same_number (length c.outputs) (written_part side whole (letter_at w i)) (row_on (code i) (heard i)).writes
        (written_small side whole (letter_at w i) (letter_small i)) (written_on (code i) (heard i))
        (λ k h. written_signal side (letter_at w i) k h ∙ sym (run.writes i hi k h) ∙ sym (output_at i k hi h))
        ∙ sym (ap (λ (r : Row). r.writes) (row_at_code i))

    abbrev pub codes : List ℕ
    codes = map code (range_with_len 0 (lasso_len w))

    pub code_is : (i : ℕ) → i < lasso_len w → get_or codes i 0 ≡ code i
    code_is i hi = get_or-map-range_with_len code 0 (lasso_len w) i i 0 hi (omega arith)

    pub machine_run : IsRunLasso whole side w codes
    machine_run =
        let ring : 0 < length w.ring = run.lasso.ring in
        record {
          ring = run.lasso.ring;
          places = length-map-range_with_len code 0 (lasso_len w);
          start = code_is 0 (omega (arith, ring)) ∙ begins;
          reads = λ i hi. read_small i;
          writes = λ i hi. writes i hi ∙ ap (λ (t : ℕ). writes_of whole t (heard i)) (sym (code_is i hi));
          moves = λ i hi.
              code_is (next w i) (next_within w i run.lasso.ring hi) ∙ moves i hi
              ∙ ap (λ (t : ℕ). next_of whole t (heard i)) (sym (code_is i hi));
        }

  pub whole_runs : HasTheRunsOf whole c
  whole_runs = record {
    runs = λ side w. (
      (λ run. (codes side w run.0 run.1, machine_run side w run.0 run.1)),
      (λ run. (values c circuit order sorted side w run.0 run.1, circuit_run c circuit order sorted side w run.0 run.1)),
    );
  }
