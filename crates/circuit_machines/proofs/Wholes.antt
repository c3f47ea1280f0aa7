-- A circuit whose outputs hang on its state alone has a Moore machine, and each circuit a machine of just its states.
use Rattle.std.proofs.Common.{◌≡◌, ℕ, ◌^◌, ◌<◌, List, [], ◌∷◌, length, get_or, refl, sym, ap, subst, ◌∙◌, arith}
use Rattle.std.specs.Prelude.{Contains}
use Rattle.std.proofs.lemmas.List.{get_or_append_left, get_or_default, get_or_push}
use Rattle.std.proofs.lemmas.List.Elements.{All-push}
use Rattle.std.proofs.lemmas.Nat.{pow_pos}
use Rattle.letters_and_lassos.specs.declared.kinds.Kind.{Kind}
use Rattle.letters_and_lassos.specs.declared.kinds.Kind.TheVariants.{Mealy, Moore}
use Rattle.letters_and_lassos.specs.declared.kinds.Side.{Side}
use Rattle.letters_and_lassos.specs.declared.kinds.Side.TheVariants.{System}
use Rattle.letters_and_lassos.specs.declared.letters.Letter.{Letter}
use Rattle.letters_and_lassos.specs.Bits.{binary_value}
use Rattle.letters_and_lassos.specs.Word.{IsLassoOver, Word, after, lasso_len, letter_at, no_signals}
use Rattle.letters_and_lassos.proofs.Positions.{after-own, after_within}
use Rattle.machine_model.specs.declared.machines.Row.{Row}
use Rattle.machine_model.specs.Course.{read_at}
use Rattle.machine_model.specs.Laws.{HasRunOn}
use Rattle.machine_model.specs.Machine.{IsMachine, MachineModel, next_of, size_of}
use Rattle.machine_model.specs.Run.{IsRunLasso, read_lasso, read_part}
use Rattle.machine_model.proofs.Determined.{read_at-run, state_after-same, states-run}
use Rattle.machine_model.proofs.Existence.{has_run}
use Rattle.aiger_text.specs.Circuit.{Circuit, HasStates, IsCircuitOfKind, IsCircuitRun, IsMooreCircuit, Valuation, latch_values, output_values}
use Rattle.aiger_text.specs.CircuitType.{IsCircuit, IsOrder}
use Rattle.aiger_text.proofs.CircuitMachine.{circuit_run, decode, encode-lt, values}
use Rattle.gate_build.specs.Laws.{HasCut, HasTheRunsOf, IsMet, MeetsStates}
use Rattle.gate_build.proofs.Cuts.{machines_can_be_cut}
use Rattle.gate_build.proofs.Listing.{IsComplete, IsReached, complete, listed_first, reached_within, word_of}
use Rattle.circuit_machines.specs.Laws.{CircuitsAreMachines}
use Rattle.circuit_machines.proofs.Machines.{chosen, row_of_whole, row_on, whole, whole_is, whole_runs, whole_size, written_on}
use Rattle.circuit_machines.proofs.Ordering.{has_order}
use Rattle.circuit_machines.proofs.Rows.{AgreeOn, AreRows, is_machine, machine_of, other_run}
use Rattle.circuit_machines.proofs.States.{meets_one_number, met_number}

-- letters, and then one letter for ever
abbrev ending : List Letter → ℕ → Word
ending letters a = record { stem = letters; ring = record { 0 = a } ∷ [] }

read_before : (letters : List Letter) (a k : ℕ) → k < length letters → read_at (ending letters a) k ≡ (get_or letters k no_signals).0
read_before letters a k h =
    ap (λ i. (letter_at (ending letters a) i).0) (after-own (ending letters a) k (omega arith))
    ∙ ap (λ (l : Letter). l.0) (get_or_append_left letters (record { 0 = a } ∷ []) no_signals k h)

read_then : (letters : List Letter) (a : ℕ) → read_at (ending letters a) (length letters) ≡ a
read_then letters a =
    ap (λ i. (letter_at (ending letters a) i).0) (after-own (ending letters a) (length letters) (omega arith))
    ∙ ap (λ (l : Letter). l.0) (get_or_push letters (record { 0 = a }) no_signals (length letters) refl)

module _ (c : Circuit) (circuit : IsCircuit c) (order : List ℕ) (sorted : IsOrder c.gates order) where
  abbrev m : MachineModel
  m = whole c circuit order sorted

  abbrev row : ℕ → ℕ → Row
  row = row_on c circuit order sorted

  -- some run lasso of the circuit reads this letter where the latches have this state's values
  record ReadsIn (t a : ℕ) : Type 0 where
    word : Word
    values_are : ℕ → Valuation
    run : IsCircuitRun System c word values_are
    at : ℕ
    within : at < lasso_len word
    holds : latch_values c (values_are at) ≡ decode c t
    writes : output_values c (values_are at) ≡ output_values c (chosen c circuit order sorted a t).values

  module _ (t : ℕ) (r : IsReached m t) (a : ℕ) (small : a < 2 ^ length c.inputs) where
    over : IsLassoOver (length c.inputs) (ending r.letters a)
    over = record {
      ring = omega arith;
      stem_letters = r.readable;
      ring_letters = All-push (λ letter. letter.0 < 2 ^ length c.inputs) [] (record { 0 = a }) (λ k d h. absurd (omega arith)) small;
    }

    abbrev on : HasRunOn m System (ending r.letters a)
    on = has_run m System (ending r.letters a) (whole_is c circuit order sorted) over

    abbrev place : ℕ
    place = after on.word 0 (length r.letters)

    reads_as : (k : ℕ) → read_at (read_lasso System m on.word) k ≡ read_at (ending r.letters a) k
    reads_as k = ap (λ (l : Letter). l.0) (on.same.letters k)

    state_here : get_or on.states place 0 ≡ t
    state_here =
        states-run m System on.word on.states on.run (length r.letters)
        ∙ state_after-same m (read_lasso System m on.word) (word_of r.letters) (length r.letters)
        (λ k h. reads_as k ∙ read_before r.letters a k h ∙ sym (read_before r.letters 0 k h))
        ∙ r.leads

    read_here : read_part System m (letter_at on.word place) ≡ a
    read_here = sym (read_at-run m System on.word on.states on.run (length r.letters)) ∙ reads_as (length r.letters) ∙ read_then r.letters a

    reads_in : ReadsIn t a
    reads_in = record {
      word = on.word;
      values_are = values c circuit order sorted System on.word on.states on.run;
      run = circuit_run c circuit order sorted System on.word on.states on.run;
      at = place;
      within = let ring : 0 < length on.word.ring = on.run.ring in after_within on.word 0 (length r.letters) on.run.ring (omega (arith, ring));
      holds =
          (chosen c circuit order sorted (read_part System m (letter_at on.word place)) (get_or on.states place 0)).holds.holds
          ∙ ap (decode c) state_here;
      writes =
          ap (λ s. output_values c (chosen c circuit order sorted (read_part System m (letter_at on.word place)) s).values) state_here
          ∙ ap (λ b. output_values c (chosen c circuit order sorted b t).values) read_here;
    }

  same_written : IsMooreCircuit c → (t a b : ℕ) → IsReached m t → a < 2 ^ length c.inputs → b < 2 ^ length c.inputs → (row t a).writes ≡ (row t b).writes
  same_written moore t a b r small_a small_b =
      let one : ReadsIn t a = reads_in t r a small_a in
      let other : ReadsIn t b = reads_in t r b small_b in
      ap binary_value
      (sym one.writes ∙ moore.same_outputs one.word other.word one.values_are other.values_are one.at other.at one.run other.run one.within other.within (one.holds ∙ sym other.holds)
      ∙ other.writes)

  -- the states that are reached
  abbrev reached : (all : List ℕ) × IsComplete m (whole_is c circuit order sorted) all
  reached = complete m (whole_is c circuit order sorted) (size_of m) (0 ∷ []) (listed_first m (whole_is c circuit order sorted)) (omega arith)

  abbrev IsThere : ℕ → Type 0
  IsThere t = Contains reached.0 t

  own : (t : ℕ) (there : IsThere t) → get_or reached.0 there.0 0 ≡ t
  own t there = get_or_default reached.0 there.0 0 t there.1 ∙ there.2

  is_reached : (t : ℕ) → IsThere t → IsReached m t
  is_reached t there = subst (λ (s : ℕ). IsReached m s) (own t there) (reached.1.listed.reached there.0 there.1)

  small_state : (t : ℕ) → IsThere t → t < 2 ^ length c.latches
  small_state t there = subst (λ (n : ℕ). t < n) (whole_size c circuit order sorted) (reached_within m (whole_is c circuit order sorted) t (is_reached t there))

  closed : (t a : ℕ) → IsThere t → a < 2 ^ length c.inputs → IsThere (row t a).next
  closed t a there small =
      subst (λ (s : ℕ). Contains reached.0 s)
      (ap (λ s. next_of m s a) (own t there) ∙ ap (λ (r : Row). r.next) (row_of_whole c circuit order sorted t a (small_state t there) small))
      (reached.1.closed there.0 a there.1 small)

  -- the rows of the Moore machine write what the first letter makes the state write
  abbrev moore_row : ℕ → ℕ → Row
  moore_row t a = record { next = (row t a).next; writes = (row t 0).writes }

  abbrev moore_machine : MachineModel
  moore_machine = machine_of Moore (length c.inputs) (length c.outputs) (2 ^ length c.latches) moore_row

  moore_rows : AreRows Moore (length c.inputs) (length c.outputs) (2 ^ length c.latches) moore_row
  moore_rows = record {
    some = pow_pos (length c.latches);
    next = λ t a ht ha. encode-lt c _;
    writes_in = λ t a ht ha. written_on c circuit order sorted t 0;
    moore = λ e t i k. refl;
  }

  -- a machine of a kind with the circuit's runs, which meets as many states as the circuit has
  pub record HasWhole (kind : Kind) : Type 0 where
    pub machine : MachineModel
    pub is : IsMachine machine
    pub kind_is : machine.kind ≡ kind
    pub reads : machine.reads ≡ length c.inputs
    pub writes : machine.writes ≡ length c.outputs
    pub runs : HasTheRunsOf machine c
    pub number : (n : ℕ) → HasStates c n → MeetsStates machine n

  module _ (moore : IsMooreCircuit c) where
    same_row : (t a : ℕ) → IsThere t → a < 2 ^ length c.inputs → row t a ≡ moore_row t a
    same_row t a there small =
        let written : (row t a).writes ≡ (row t 0).writes = same_written moore t a 0 (is_reached t there) small (pow_pos (length c.inputs)) in
        ap (λ n. let r : Row = record { next = (row t a).next; writes = n } in r) written

    to_moore : AgreeOn IsThere (length c.inputs) (2 ^ length c.latches) row moore_row
    to_moore = record {
      first = (0, reached.1.listed.some, reached.1.listed.first);
      inside = small_state;
      closed = closed;
      same = same_row;
    }

    to_whole : AgreeOn IsThere (length c.inputs) (2 ^ length c.latches) moore_row row
    to_whole = record {
      first = (0, reached.1.listed.some, reached.1.listed.first);
      inside = small_state;
      closed = closed;
      same = λ t a there small. sym (same_row t a there small);
    }

    into_moore : (side : Side) (w : Word) (states : List ℕ) → IsRunLasso m side w states → IsRunLasso moore_machine side w states
    into_moore side w states run = other_run Mealy Moore (length c.inputs) (length c.outputs) (2 ^ length c.latches) row moore_row IsThere to_moore side w states run

    into_whole : (side : Side) (w : Word) (states : List ℕ) → IsRunLasso moore_machine side w states → IsRunLasso m side w states
    into_whole side w states run = other_run Moore Mealy (length c.inputs) (length c.outputs) (2 ^ length c.latches) moore_row row IsThere to_whole side w states run

    met_here : (s : ℕ) → IsMet m s → IsMet moore_machine s
    met_here s met = record { word = met.word; states = met.states; run = into_moore System met.word met.states met.run; at = met.at; within = met.within; state_is = met.state_is }

    met_there : (s : ℕ) → IsMet moore_machine s → IsMet m s
    met_there s met = record { word = met.word; states = met.states; run = into_whole System met.word met.states met.run; at = met.at; within = met.within; state_is = met.state_is }

    moore_whole : HasWhole Moore
    moore_whole = record {
      machine = moore_machine;
      is = is_machine Moore (length c.inputs) (length c.outputs) (2 ^ length c.latches) moore_row moore_rows;
      kind_is = refl;
      reads = refl;
      writes = refl;
      runs = record {
        runs = λ side w. (
          (λ run. let ran = ((whole_runs c circuit order sorted).runs side w).0 run in (ran.0, into_moore side w ran.0 ran.1)),
          (λ run. ((whole_runs c circuit order sorted).runs side w).1 (run.0, into_whole side w run.0 run.1)),
        );
      };
      number = λ n all.
          let old : MeetsStates m n = met_number c circuit order sorted n all in
          record {
            states = old.states;
            count = old.count;
            different = old.different;
            each_met = λ k d h. met_here (get_or old.states k d) (old.each_met k d h);
            all_there = λ s met. old.all_there s (met_there s met);
          };
    }

  pub has_whole : (kind : Kind) → IsCircuitOfKind kind c → HasWhole kind
  has_whole Mealy of_kind = record {
    machine = m;
    is = whole_is c circuit order sorted;
    kind_is = refl;
    reads = refl;
    writes = refl;
    runs = whole_runs c circuit order sorted;
    number = met_number c circuit order sorted;
  }
  has_whole Moore of_kind = moore_whole of_kind

pub circuits_are_machines : CircuitsAreMachines
circuits_are_machines kind c n circuit of_kind states =
    let order : (order : List ℕ) × IsOrder c.gates order = has_order c.gates circuit.no_cycle in
    let all : HasWhole c circuit order.0 order.1 kind = has_whole c circuit order.0 order.1 kind of_kind in
    let has : HasCut all.machine = machines_can_be_cut all.machine all.is in
    record {
      machine = has.cut;
      is_machine = has.is_machine;
      kind_is = has.kind ∙ all.kind_is;
      reads = has.reads ∙ all.reads;
      writes = has.writes ∙ all.writes;
      size = meets_one_number all.machine (size_of has.cut) n has.meets (all.number n states);
      runs = record {
        runs = λ side w. (
          (λ run. (has.runs side w).1 ((all.runs.runs side w).0 run)),
          (λ run. (all.runs.runs side w).1 ((has.runs side w).0 run)),
        );
      };
    }
