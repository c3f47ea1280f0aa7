use Rattle.std.proofs.Common.{◌≡◌, ◌≢◌, ℕ, ◌+◌, ◌*◌, ◌/◌, ◌%◌, ◌^◌, ◌<◌, Bool, true, false, not, cond, List, [], length, get_or, refl, sym, ap, subst, ◌∙◌, arith}
use Rattle.std.specs.Prelude.{map, All}
use Rattle.std.specs.List.{range_with_len}
use Rattle.std.proofs.Math.Nat.{mul_comm, mul-div_left}
use Rattle.std.proofs.lemmas.Nat.{pow_pos, div-mul-add, mod-mul-add, mul-add-lt}
use Rattle.std.proofs.lemmas.List.{length-map, get_or-map, get_or_default}
use Rattle.std.proofs.lemmas.List.FromFn.{length-map-range_with_len, get_or-map-range_with_len}
use Rattle.letters_and_lassos.specs.declared.kinds.Kind.TheVariants.{Mealy}
use Rattle.letters_and_lassos.specs.declared.kinds.Side.{Side}
use Rattle.letters_and_lassos.specs.declared.kinds.Side.TheVariants.{System, Environment}
use Rattle.letters_and_lassos.specs.declared.letters.Letter.{Letter}
use Rattle.letters_and_lassos.specs.Word.{Word, IsLassoOver, lasso_len, letter_at, nth_letter, next}
use Rattle.letters_and_lassos.specs.Signals.{has}
use Rattle.letters_and_lassos.proofs.Bits.{number_of-lt, has-number_of, has-none}
use Rattle.machine_model.specs.declared.machines.Row.{Row}
use Rattle.machine_model.specs.Machine.{MachineModel, IsMachine, size_of, row_of}
use Rattle.machine_model.specs.Run.{IsRunLasso, read_part, written_part}
use Rattle.machine_model.specs.Laws.{HasRunOn, StaysWithin}
use Rattle.machine_model.proofs.Readings.{nth_letter-read}
use Rattle.machine_model.proofs.Determined.{stays_within}
use Rattle.machine_model.proofs.Existence.{has_run}
use Rattle.aiger_text.specs.declared.circuits.Latch.{Latch}
use Rattle.aiger_text.specs.Circuit.{Circuit, Valuation, literal_value, output_values, first_read, first_written, IsCircuitRun, RunsOn}
use Rattle.aiger_text.specs.CircuitType.{IsCircuit, IsOrder}
use Rattle.aiger_text.specs.Step.{HasValues}
use Rattle.aiger_text.proofs.Putting.{no_latch}
use Rattle.aiger_text.proofs.Bits.{bits_of, length-bits_of, get_or-bits_of, has-div, has-mod}
use Rattle.letters_and_lassos.specs.Bits.{binary_value}
use Rattle.aiger_text.proofs.Valuations.{HasValuation, valuation_of}

-- one of two values, and the other where the first flag is set
abbrev pub flipped : Bool → Bool → Bool
flipped b x = cond b (not x) x

flipped-twice : (b x : Bool) → flipped b (flipped b x) ≡ x
flipped-twice true true = refl
flipped-twice true false = refl
flipped-twice false x = refl

flipped-false : (b : Bool) → flipped b false ≡ b
flipped-false true = refl
flipped-false false = refl

-- A circuit as a machine: its states are the latches' values, each bit of the code telling whether a latch
-- differs from its reset.
module _ (c : Circuit) where
  abbrev reset_at : ℕ → Bool
  reset_at k = (get_or c.latches k no_latch).reset

  -- the latches' values of a code, and the code of values
  abbrev pub decode : ℕ → List Bool
  decode t = map (λ k. flipped (reset_at k) (has t k)) (range_with_len 0 (length c.latches))

  abbrev pub encode : List Bool → ℕ
  encode bits = binary_value (map (λ k. flipped (reset_at k) (get_or bits k false)) (range_with_len 0 (length c.latches)))

  pub length-decode : (t : ℕ) → length (decode t) ≡ length c.latches
  length-decode t = length-map-range_with_len (λ k. flipped (reset_at k) (has t k)) 0 (length c.latches)

  get_or-decode : (t k : ℕ) → k < length c.latches → get_or (decode t) k false ≡ flipped (reset_at k) (has t k)
  get_or-decode t k h = get_or-map-range_with_len (λ k. flipped (reset_at k) (has t k)) 0 (length c.latches) k k false h (omega arith)

  pub encode-lt : (bits : List Bool) → encode bits < 2 ^ length c.latches
  encode-lt bits =
      let f : ℕ → Bool = λ k. flipped (reset_at k) (get_or bits k false) in
      rw (length-map-range_with_len f 0 (length c.latches)) at (number_of-lt (map f (range_with_len 0 (length c.latches))))

  pub decode-start : (k : ℕ) → k < length c.latches → get_or (decode 0) k false ≡ reset_at k
  decode-start k h =
      let none : has 0 k ≡ false = has-none k in
      get_or-decode 0 k h ∙ ap (flipped (reset_at k)) none ∙ flipped-false (reset_at k)

  pub decode-encode : (bits : List Bool) (k : ℕ) → k < length c.latches → get_or (decode (encode bits)) k false ≡ get_or bits k false
  decode-encode bits k h =
      let f : ℕ → Bool = λ k. flipped (reset_at k) (get_or bits k false) in
      let n : length (map f (range_with_len 0 (length c.latches))) ≡ length c.latches = length-map-range_with_len f 0 (length c.latches) in
      let bit : has (encode bits) k ≡ f k =
      has-number_of (map f (range_with_len 0 (length c.latches))) k (rw n h)
      ∙ get_or-map-range_with_len f 0 (length c.latches) k k false h (omega arith) in
      get_or-decode (encode bits) k h ∙ ap (flipped (reset_at k)) bit ∙ flipped-twice (reset_at k) (get_or bits k false)

module _ (c : Circuit) (circuit : IsCircuit c) (order : List ℕ) (sorted : IsOrder c.gates order) where
  -- the valuation on a read letter in a state
  abbrev chosen : (a t : ℕ) → HasValuation c (bits_of (length c.inputs) a) (decode c t)
  chosen a t =
      valuation_of c circuit order sorted (bits_of (length c.inputs) a) (decode c t) (length-bits_of (length c.inputs) a) (length-decode c t)

  abbrev row_on : ℕ → ℕ → Row
  row_on t a = record {
    next = encode c (map (λ (latch : Latch). literal_value (chosen a t).values latch.next) c.latches);
    writes = binary_value (output_values c (chosen a t).values);
  }

  abbrev row_at : ℕ → Row
  row_at p = row_on (p / 2 ^ length c.inputs) (p % 2 ^ length c.inputs)

  abbrev machine : MachineModel
  machine = record {
    kind = Mealy;
    reads = length c.inputs;
    writes = length c.outputs;
    table = map row_at (range_with_len 0 (2 ^ length c.latches * 2 ^ length c.inputs));
  }

  rows : length machine.table ≡ 2 ^ length c.latches * 2 ^ length c.inputs
  rows = length-map-range_with_len row_at 0 (2 ^ length c.latches * 2 ^ length c.inputs)

  size : size_of machine ≡ 2 ^ length c.latches
  size = ap (λ n. n / 2 ^ length c.inputs) rows ∙ mul-div_left (2 ^ length c.latches) (pow_pos (length c.inputs))

  row_is : (t a : ℕ) → t < size_of machine → a < 2 ^ length c.inputs → row_of machine t a ≡ row_on t a
  row_is t a ht ha =
      let state : t < 2 ^ length c.latches = rw size at ht in
      let within : t * 2 ^ length c.inputs + a < 2 ^ length c.latches * 2 ^ length c.inputs =
      subst (λ (n : ℕ). t * 2 ^ length c.inputs + a < n) (mul_comm (2 ^ length c.inputs) (2 ^ length c.latches))
      (mul-add-lt t (2 ^ length c.inputs) a (2 ^ length c.latches) state ha) in
      get_or-map-range_with_len row_at 0 (2 ^ length c.latches * 2 ^ length c.inputs) (t * 2 ^ length c.inputs + a) (t * 2 ^ length c.inputs + a) (record { next = 0; writes = 0 }) within (omega arith)
      ∙ ap (λ s. row_on s ((t * 2 ^ length c.inputs + a) % 2 ^ length c.inputs)) (div-mul-add t (2 ^ length c.inputs) a ha)
      ∙ ap (row_on t) (mod-mul-add t (2 ^ length c.inputs) a ha)

  some_row : machine.table ≢ []
  some_row e =
      let a : 0 < 2 ^ length c.latches = pow_pos (length c.latches) in
      let b : 0 < 2 ^ length c.inputs = pow_pos (length c.inputs) in
      let first : 0 * 2 ^ length c.inputs + 0 < 2 ^ length c.latches * 2 ^ length c.inputs =
      subst (λ (n : ℕ). 0 * 2 ^ length c.inputs + 0 < n) (mul_comm (2 ^ length c.inputs) (2 ^ length c.latches))
      (mul-add-lt 0 (2 ^ length c.inputs) 0 (2 ^ length c.latches) a b) in
      let none : length machine.table ≡ 0 = ap length e in
      omega (arith, rows)

  is_machine : IsMachine machine
  is_machine = record {
    shape = record { some = some_row; whole = rows ∙ ap (λ n. n * 2 ^ length c.inputs) (sym size) };
    nexts = λ t a ht ha.
        subst (λ (row : Row). row.next < size_of machine) (sym (row_is t a ht ha))
        (subst (λ (n : ℕ). (row_on t a).next < n) (sym size)
        (encode-lt c (map (λ (latch : Latch). literal_value (chosen a t).values latch.next) c.latches)));
    letters = λ t a ht ha.
        let n : length (output_values c (chosen a t).values) ≡ length c.outputs = length-map c.outputs (λ literal. literal_value (chosen a t).values literal) in
        subst (λ (row : Row). row.writes < 2 ^ length c.outputs) (sym (row_is t a ht ha))
        (subst (λ (m : ℕ). (row_on t a).writes < 2 ^ m) n (number_of-lt (output_values c (chosen a t).values)));
    moore = λ e. absurd (cc);
  }

  module _ (side : Side) (w : Word) (states : List ℕ) (run : IsRunLasso machine side w states) where
    within_states : StaysWithin machine w states
    within_states = stays_within machine side w states is_machine run

    abbrev read_at : ℕ → ℕ
    read_at i = read_part side machine (letter_at w i)

    abbrev pub values : ℕ → Valuation
    values i = (chosen (read_at i) (get_or states i 0)).values

    here : (i : ℕ) → HasValues c (bits_of (length c.inputs) (read_at i)) (decode c (get_or states i 0)) (values i)
    here i = (chosen (read_at i) (get_or states i 0)).holds

    state_within : (i : ℕ) → i < lasso_len w → get_or states i 0 < size_of machine
    state_within i h = within_states.in_range i 0 (rw run.places h)

    row_here : (i : ℕ) → i < lasso_len w → row_of machine (get_or states i 0) (read_at i) ≡ row_on (get_or states i 0) (read_at i)
    row_here i h = row_is (get_or states i 0) (read_at i) (state_within i h) (run.reads i h)

    latch_at : (i k : ℕ) → k < length c.latches → literal_value (values i) (get_or c.latches k no_latch).literal ≡ get_or (decode c (get_or states i 0)) k false
    latch_at i k h =
        sym (get_or-map (λ (latch : Latch). literal_value (values i) latch.literal) c.latches k no_latch false h)
        ∙ ap (λ (bits : List Bool). get_or bits k false) (here i).holds

    resets : (k : ℕ) → k < length c.latches → literal_value (values 0) (get_or c.latches k no_latch).literal ≡ (get_or c.latches k no_latch).reset
    resets k h = latch_at 0 k h ∙ ap (λ (t : ℕ). get_or (decode c t) k false) run.start ∙ decode-start c k h

    steps : (i k : ℕ) → i < lasso_len w → k < length c.latches
        → literal_value (values (next w i)) (get_or c.latches k no_latch).literal ≡ literal_value (values i) (get_or c.latches k no_latch).next
    steps i k hi h =
        let f : Latch → Bool = λ latch. literal_value (values i) latch.next in
        latch_at (next w i) k h
        ∙ ap (λ (t : ℕ). get_or (decode c t) k false) (run.moves i hi ∙ ap (λ (row : Row). row.next) (row_here i hi))
        ∙ decode-encode c (map f c.latches) k h ∙ get_or-map f c.latches k no_latch false h

    -- what the machine reads and writes of a letter, signal by signal
    pub read_signal : (s : Side) (letter : Letter) (k : ℕ) → k < length c.inputs → has (read_part s machine letter) k ≡ has letter.0 (first_read s c + k)
    read_signal System letter k h = has-mod letter.0 (length c.inputs) k h ∙ (let e : k ≡ 0 + k = omega arith in ap (has letter.0) e)
    read_signal Environment letter k h = has-div letter.0 (length c.outputs) k

    written_signal : (s : Side) (letter : Letter) (k : ℕ) → k < length c.outputs → has (written_part s machine letter) k ≡ has letter.0 (first_written s c + k)
    written_signal System letter k h = has-div letter.0 (length c.inputs) k
    written_signal Environment letter k h = has-mod letter.0 (length c.outputs) k h ∙ (let e : k ≡ 0 + k = omega arith in ap (has letter.0) e)

    reads : (i k : ℕ) → i < lasso_len w → k < length c.inputs → literal_value (values i) (get_or c.inputs k 0) ≡ has (letter_at w i).0 (first_read side c + k)
    reads i k hi h =
        sym (get_or-map (λ literal. literal_value (values i) literal) c.inputs k 0 false h)
        ∙ ap (λ (bits : List Bool). get_or bits k false) (here i).reads
        ∙ get_or-bits_of (length c.inputs) (read_at i) k h ∙ read_signal side (letter_at w i) k h

    writes : (i k : ℕ) → i < lasso_len w → k < length c.outputs → literal_value (values i) (get_or c.outputs k 0) ≡ has (letter_at w i).0 (first_written side c + k)
    writes i k hi h =
        let f : ℕ → Bool = λ literal. literal_value (values i) literal in
        let n : length (map f c.outputs) ≡ length c.outputs = length-map c.outputs f in
        sym (get_or-map f c.outputs k 0 false h) ∙ sym (has-number_of (map f c.outputs) k (rw n h))
        ∙ ap (λ (a : ℕ). has a k) (sym (run.writes i hi ∙ ap (λ (row : Row). row.writes) (row_here i hi)))
        ∙ written_signal side (letter_at w i) k h

    -- what holds of each latch holds of all
    all_latches : (P : Latch → Type 0) → ((k : ℕ) → k < length c.latches → P (get_or c.latches k no_latch)) → All P c.latches
    all_latches P each k d h = subst P (get_or_default c.latches k no_latch d h) (each k h)

    pub circuit_run : IsCircuitRun side c w values
    circuit_run = record {
      lasso = within_states.letters;
      resets = all_latches (λ latch. literal_value (values 0) latch.literal ≡ latch.reset) resets;
      steps = λ i h. all_latches (λ latch. literal_value (values (next w i)) latch.literal ≡ literal_value (values i) latch.next) (λ k hk. steps i k h hk);
      gates = λ i h. (here i).gates;
      reads = λ i h k hk. reads i k h hk;
      writes = λ i h k hk. writes i k h hk;
    }

  pub runs_on : (side : Side) (word : Word) → IsLassoOver (length c.inputs) word → RunsOn side c word
  runs_on side word over =
      let r : HasRunOn machine side word = has_run machine side word is_machine over in
      record {
        word = r.word;
        values = values side r.word r.states r.run;
        run = circuit_run side r.word r.states r.run;
        reads_it = λ j k h.
            let e : read_part side machine (nth_letter r.word j) ≡ (nth_letter word j).0 =
            ap (λ (l : Letter). l.0) (sym (nth_letter-read side machine r.word r.run.ring j) ∙ r.same.letters j) in
            sym (read_signal side r.word r.states r.run side (nth_letter r.word j) k h) ∙ ap (λ (a : ℕ). has a k) e;
      }
