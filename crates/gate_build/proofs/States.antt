-- The circuit's states are those that the machine meets, and it is of the machine's kind.
use Rattle.std.proofs.Common.{◌≡◌, ℕ, ◌^◌, ◌<◌, ◌≤◌, Bool, false, List, [], length, get_or, refl, sym, ap, subst, ◌∙◌, arith}
use Rattle.std.specs.Prelude.{map, Contains}
use Rattle.std.proofs.lemmas.List.{ext_get_or, get_or-map, length-map}
use Rattle.std_lemmas.proofs.Lists.{Contains-map}
use Rattle.letters_and_lassos.specs.declared.kinds.Kind.{Kind}
use Rattle.letters_and_lassos.specs.declared.kinds.Kind.TheVariants.{Mealy, Moore}
use Rattle.letters_and_lassos.specs.declared.kinds.Side.TheVariants.{System}
use Rattle.letters_and_lassos.specs.Signals.{has}
use Rattle.letters_and_lassos.specs.Word.{Word, lasso_len, letter_at}
use Rattle.letters_and_lassos.proofs.Bits.{number_of-lt, has-number_of, same_number}
use Rattle.machine_model.specs.Machine.{MachineModel, IsMachine, size_of, writes_of}
use Rattle.machine_model.specs.Run.{read_part}
use Rattle.machine_model.proofs.Determined.{stays_within}
use Rattle.aiger_text.specs.declared.circuits.Latch.{Latch}
use Rattle.aiger_text.specs.Circuit.{Circuit, HasStates, IsCircuitOfKind, IsCircuitRun, IsMooreCircuit, Occurs, Valuation, latch_values, literal_value}
use Rattle.aiger_text.proofs.Bits.{get_or-bits_of, length-bits_of}
use Rattle.letters_and_lassos.specs.Bits.{binary_value}
use Rattle.aiger_text.proofs.Putting.{no_latch}
use Rattle.gate_build.specs.Laws.{HasTheStatesOf, IsMet, MeetsStates, code_of}
use Rattle.gate_build.specs.Table.{circuit_of, latches_of}
use Rattle.gate_build.proofs.Listing.{meets_some}
use Rattle.gate_build.proofs.Positions.{codes_enough, output_is}
use Rattle.gate_build.proofs.Runs.{chosen, circuit_run, code_bits, inside_at, latches_len, machine_run, outputs_len, shown_by, state_is, states, values, values_len}

-- a fact of Moore machines is all that is asked of a kind
of_kind : (kind : Kind) (c : Circuit) → (kind ≡ Moore → IsMooreCircuit c) → IsCircuitOfKind kind c
of_kind Mealy c moore = tt
of_kind Moore c moore = moore refl

module _ (m : MachineModel) (read_names write_names : List (List ℕ)) (reads : length read_names ≡ m.reads) (writes : length write_names ≡ m.writes)
    (machine : IsMachine m) (few : size_of m ≤ 8) where
  abbrev c : Circuit
  c = circuit_of m read_names write_names

  -- an output has the bit of what the state writes on the letter that is read
  output_at : (w : Word) (v : ℕ → Valuation) (run : IsCircuitRun System c w v) (i k : ℕ) → i < lasso_len w → k < m.writes
      → literal_value (v i) (get_or c.outputs k 0) ≡ has (writes_of m (binary_value (latch_values c (v i))) (read_part System m (letter_at w i))) k
  output_at w v run i k hi h =
      output_is m read_names write_names reads writes few (binary_value (latch_values c (v i))) (read_part System m (letter_at w i)) (v i)
      (shown_by m read_names write_names reads writes machine few System w v run i hi (inside_at m read_names write_names reads writes machine few System w v run i hi)) k h

  is_moore : m.kind ≡ Moore → IsMooreCircuit c
  is_moore kind = record {
    same_outputs = λ v w in_v in_w i k run_v run_w hi hk same.
        let f : ℕ → Bool = λ literal. literal_value (in_v i) literal in
        let g : ℕ → Bool = λ literal. literal_value (in_w k) literal in
        let in_state = inside_at m read_names write_names reads writes machine few System v in_v run_v i hi in
        let in_other = inside_at m read_names write_names reads writes machine few System w in_w run_w k hk in
        let one = shown_by m read_names write_names reads writes machine few System v in_v run_v i hi in_state in
        let other = shown_by m read_names write_names reads writes machine few System w in_w run_w k hk in_other in
        let state : binary_value (latch_values c (in_v i)) ≡ binary_value (latch_values c (in_w k)) = ap binary_value same in
        let written : writes_of m (binary_value (latch_values c (in_v i))) (read_part System m (letter_at v i)) ≡ writes_of m (binary_value (latch_values c (in_w k))) (read_part System m (letter_at w k)) =
        ap (λ (t : ℕ). writes_of m t (read_part System m (letter_at v i))) state
        ∙ machine.moore kind (binary_value (latch_values c (in_w k))) (read_part System m (letter_at v i)) (read_part System m (letter_at w k)) in_other one.readable other.readable in
        ext_get_or false (map f c.outputs) (map g c.outputs) (length-map c.outputs f ∙ sym (length-map c.outputs g))
        (λ o h.
        let within : o < length c.outputs = rw length-map at h in
        let low : o < m.writes = rw (outputs_len m read_names write_names reads writes) at within in
        get_or-map f c.outputs o 0 false within ∙ output_at v in_v run_v i o hi low ∙ ap (λ (a : ℕ). has a o) written
        ∙ sym (output_at w in_w run_w k o hk low) ∙ sym (get_or-map g c.outputs o 0 false within));
  }

  pub is_of_kind : IsCircuitOfKind m.kind c
  is_of_kind = of_kind m.kind c is_moore

  -- the latches' values are the code of the number that they make
  is_code : (w : Word) (v : ℕ → Valuation) (run : IsCircuitRun System c w v) (i : ℕ) → latch_values c (v i) ≡ code_of m (binary_value (latch_values c (v i)))
  is_code w v run i =
      let t : ℕ = binary_value (latch_values c (v i)) in
      let len : length (latch_values c (v i)) ≡ latches_of m = values_len m read_names write_names reads writes machine few System w v run i in
      ext_get_or false (latch_values c (v i)) (code_of m (binary_value (latch_values c (v i)))) (len ∙ sym (length-bits_of (latches_of m) (binary_value (latch_values c (v i)))))
      (λ k h.
      let low : k < latches_of m = rw len at h in
      get_or-map (λ (latch : Latch). literal_value (v i) latch.literal) c.latches k no_latch false (rw (latches_len m read_names write_names reads writes) low)
      ∙ code_bits m read_names write_names reads writes machine few System w v run i k low
      ∙ sym (get_or-bits_of (latches_of m) (binary_value (latch_values c (v i))) k low))

  met : (latches : List Bool) → Occurs c latches → (state : ℕ) × IsMet m state × (latches ≡ code_of m state)
  met latches o = (
    binary_value (latch_values c (o.values o.at)),
    record {
      word = o.word;
      states = states m read_names write_names reads writes machine few System o.word o.values o.run;
      run = machine_run m read_names write_names reads writes machine few System o.word o.values o.run;
      at = o.at;
      within = o.within;
      state_is = state_is m read_names write_names reads writes machine few System o.word o.values o.run o.at o.within;
    },
    sym o.latches_are ∙ is_code o.word o.values o.run o.at,
  )

  occurs : (latches : List Bool) (state : ℕ) → IsMet m state → latches ≡ code_of m state → Occurs c latches
  occurs latches state met is = record {
    word = met.word;
    values = values m read_names write_names reads writes machine few System met.word met.states met.run;
    run = circuit_run m read_names write_names reads writes machine few System met.word met.states met.run;
    at = met.at;
    within = met.within;
    latches_are = (chosen m read_names write_names reads writes machine few System met.word met.states met.run met.at).holds.holds ∙ ap (code_of m) met.state_is ∙ sym is;
  }

  -- a code of a state that is met is that of no other
  number_of_code : (state : ℕ) → IsMet m state → binary_value (code_of m state) ≡ state
  number_of_code state met =
      let small : state < size_of m =
      subst (λ (t : ℕ). t < size_of m) met.state_is ((stays_within m System met.word met.states machine met.run).in_range met.at 0 (rw met.run.places met.within)) in
      let fits : state < 2 ^ latches_of m = omega (arith, small, codes_enough (size_of m) few) in
      let len : length (code_of m state) ≡ latches_of m = length-bits_of (latches_of m) state in
      same_number (latches_of m) (binary_value (code_of m state)) state (subst (λ (n : ℕ). binary_value (code_of m state) < 2 ^ n) len (number_of-lt (code_of m state))) fits
      (λ k h. has-number_of (code_of m state) k (rw len h) ∙ get_or-bits_of (latches_of m) state k h)

  -- the states of the latches' values that occur are those that are met
  met_number : (n : ℕ) → HasStates c n → MeetsStates m n
  met_number n all =
      let of_list : (k : ℕ) (d : List Bool) → k < length all.states → (state : ℕ) × IsMet m state × (get_or all.states k d ≡ code_of m state) = λ k d h. met (get_or all.states k d) (all.each_occurs k d h) in
      let own : (k : ℕ) (h : k < length all.states) → binary_value (get_or all.states k []) ≡ (of_list k [] h).0 = λ k h. ap binary_value (of_list k [] h).2 ∙ number_of_code (of_list k [] h).0 (of_list k [] h).1 in
      let back : (k : ℕ) → k < length all.states → get_or all.states k [] ≡ code_of m (binary_value (get_or all.states k [])) = λ k h. (of_list k [] h).2 ∙ ap (code_of m) (sym (own k h)) in
      let at : (k d : ℕ) → k < length all.states → get_or (map binary_value all.states) k d ≡ binary_value (get_or all.states k []) = λ k d h. get_or-map binary_value all.states k [] d h in
      record {
        states = map binary_value all.states;
        count = length-map all.states binary_value ∙ all.count;
        different = λ i k less h same.
            let in_k : k < length all.states = rw length-map at h in
            let in_i : i < length all.states = omega (arith, less, in_k) in
            all.different i k [] less in_k
            (back i in_i ∙ ap (code_of m) (sym (at i 0 in_i) ∙ same ∙ at k 0 in_k) ∙ sym (back k in_k));
        each_met = λ k d h.
            let within : k < length all.states = rw length-map at h in
            subst (λ (t : ℕ). IsMet m t) (sym (at k d within ∙ own k within)) (of_list k [] within).1;
        all_there = λ state is_met.
            let there : Contains all.states (code_of m state) = all.all_there (code_of m state) (occurs (code_of m state) state is_met refl) in
            subst (λ (t : ℕ). Contains (map binary_value all.states) t) (number_of_code state is_met) (Contains-map binary_value all.states (code_of m state) there);
      }

  -- and the other way round
  occurring_number : (n : ℕ) → MeetsStates m n → HasStates c n
  occurring_number n all =
      let at : (k : ℕ) (d : List Bool) → k < length all.states → get_or (map (code_of m) all.states) k d ≡ code_of m (get_or all.states k 0) = λ k d h. get_or-map (code_of m) all.states k 0 d h in
      let back : (k : ℕ) → k < length all.states → binary_value (code_of m (get_or all.states k 0)) ≡ get_or all.states k 0 = λ k h. number_of_code (get_or all.states k 0) (all.each_met k 0 h) in
      record {
        states = map (code_of m) all.states;
        count = length-map all.states (code_of m) ∙ all.count;
        different = λ i k d less h same.
            let in_k : k < length all.states = rw length-map at h in
            let in_i : i < length all.states = omega (arith, less, in_k) in
            all.different i k less in_k
            (sym (back i in_i) ∙ ap binary_value (sym (at i d in_i) ∙ same ∙ at k d in_k) ∙ back k in_k);
        each_occurs = λ k d h.
            let within : k < length all.states = rw length-map at h in
            subst (λ (bits : List Bool). Occurs c bits) (sym (at k d within)) (occurs (code_of m (get_or all.states k 0)) (get_or all.states k 0) (all.each_met k 0 within) refl);
        all_there = λ latches o.
            let found : (state : ℕ) × IsMet m state × (latches ≡ code_of m state) = met latches o in
            subst (λ (bits : List Bool). Contains (map (code_of m) all.states) bits) (sym found.2) (Contains-map (code_of m) all.states found.0 (all.all_there found.0 found.1));
      }

  pub has_the_states : HasTheStatesOf m c
  has_the_states = record {
    codes = λ latches. (met latches, (λ found. occurs latches found.0 found.1 found.2));
    number = λ n. (met_number n, occurring_number n);
    some = let found = meets_some m machine in (found.0, found.1, occurring_number found.0 found.2);
  }
