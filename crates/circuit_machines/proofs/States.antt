-- The states that the machine of a circuit meets are the values of its latches that occur.
use Rattle.std.proofs.Common.{◌≡◌, ℕ, ◌<◌, ◌≤◌, Bool, List, [], length, get_or, sym, ap, subst, ◌∙◌, arith}
use Rattle.std.specs.Prelude.{map, Contains}
use Rattle.std.proofs.lemmas.List.{get_or-map, length-map}
use Rattle.std_lemmas.proofs.Lists.{Contains-map}
use Rattle.letters_and_lassos.specs.declared.kinds.Side.TheVariants.{System}
use Rattle.letters_and_lassos.specs.Word.{letter_at}
use Rattle.machine_model.specs.Machine.{MachineModel, size_of}
use Rattle.machine_model.specs.Run.{read_part}
use Rattle.machine_model.proofs.Determined.{stays_within}
use Rattle.aiger_text.specs.Circuit.{Circuit, HasStates, Occurs, latch_values}
use Rattle.aiger_text.specs.CircuitType.{IsCircuit, IsOrder}
use Rattle.aiger_text.proofs.CircuitMachine.{circuit_run, decode, encode, values}
use Rattle.gate_build.specs.Laws.{IsMet, MeetsStates}
use Rattle.gate_build.proofs.Listing.{meets_some}
use Rattle.circuit_machines.specs.Laws.{CircuitsHaveStates, StatesAreCounted}
use Rattle.circuit_machines.proofs.Choosing.{no_more}
use Rattle.circuit_machines.proofs.Machines.{chosen, code_decode, code_is, codes, decode_code, length-latch_values, machine_run, whole, whole_is, whole_size}
use Rattle.circuit_machines.proofs.Ordering.{has_order}

-- a circuit has one number of states, and a machine meets one number
pub states_are_counted : StatesAreCounted
states_are_counted c n k of_n of_k =
    let one : length of_k.states ≤ length of_n.states =
    no_more of_n.states of_k.states [] (λ i h. of_n.all_there (get_or of_k.states i []) (of_k.each_occurs i [] h)) (λ i j less h. of_k.different i j [] less h) in
    let other : length of_n.states ≤ length of_k.states =
    no_more of_k.states of_n.states [] (λ i h. of_k.all_there (get_or of_n.states i []) (of_n.each_occurs i [] h)) (λ i j less h. of_n.different i j [] less h) in
    omega (arith, one, other, of_n.count, of_k.count)

pub meets_one_number : (m : MachineModel) (n k : ℕ) → MeetsStates m n → MeetsStates m k → n ≡ k
meets_one_number m n k of_n of_k =
    let one : length of_k.states ≤ length of_n.states =
    no_more of_n.states of_k.states 0 (λ i h. of_n.all_there (get_or of_k.states i 0) (of_k.each_met i 0 h)) of_k.different in
    let other : length of_n.states ≤ length of_k.states =
    no_more of_k.states of_n.states 0 (λ i h. of_k.all_there (get_or of_n.states i 0) (of_n.each_met i 0 h)) of_n.different in
    omega (arith, one, other, of_n.count, of_k.count)

module _ (c : Circuit) (circuit : IsCircuit c) (order : List ℕ) (sorted : IsOrder c.gates order) where
  abbrev m : MachineModel
  m = whole c circuit order sorted

  met : (latches : List Bool) → Occurs c latches → IsMet m (encode c latches)
  met latches o = record {
    word = o.word;
    states = codes c circuit order sorted System o.word o.values o.run;
    run = machine_run c circuit order sorted System o.word o.values o.run;
    at = o.at;
    within = o.within;
    state_is = code_is c circuit order sorted System o.word o.values o.run o.at o.within ∙ ap (encode c) o.latches_are;
  }

  occurs : (t : ℕ) → IsMet m t → Occurs c (decode c t)
  occurs t met = record {
    word = met.word;
    values = values c circuit order sorted System met.word met.states met.run;
    run = circuit_run c circuit order sorted System met.word met.states met.run;
    at = met.at;
    within = met.within;
    latches_are =
        (chosen c circuit order sorted (read_part System m (letter_at met.word met.at)) (get_or met.states met.at 0)).holds.holds
        ∙ ap (decode c) met.state_is;
  }

  -- values that occur are those of their code, and a code that is met is that of its values
  own_values : (latches : List Bool) → Occurs c latches → decode c (encode c latches) ≡ latches
  own_values latches o =
      subst (λ (bits : List Bool). decode c (encode c bits) ≡ bits) o.latches_are
      (decode_code c (latch_values c (o.values o.at)) (length-latch_values c (o.values o.at)))

  own_code : (t : ℕ) → IsMet m t → encode c (decode c t) ≡ t
  own_code t met =
      let small : t < size_of m =
      subst (λ (s : ℕ). s < size_of m) met.state_is
      ((stays_within m System met.word met.states (whole_is c circuit order sorted) met.run).in_range met.at 0 (rw met.run.places met.within)) in
      code_decode c t (subst (λ (n : ℕ). t < n) (whole_size c circuit order sorted) small)

  pub met_number : (n : ℕ) → HasStates c n → MeetsStates m n
  met_number n all =
      let at : (k d : ℕ) → k < length all.states → get_or (map (encode c) all.states) k d ≡ encode c (get_or all.states k []) = λ k d h. get_or-map (encode c) all.states k [] d h in
      let back : (k : ℕ) → k < length all.states → decode c (encode c (get_or all.states k [])) ≡ get_or all.states k [] = λ k h. own_values (get_or all.states k []) (all.each_occurs k [] h) in
      record {
        states = map (encode c) all.states;
        count = length-map all.states (encode c) ∙ all.count;
        different = λ i k less h same.
            let in_k : k < length all.states = rw length-map at h in
            let in_i : i < length all.states = omega (arith, less, in_k) in
            all.different i k [] less in_k
            (sym (back i in_i) ∙ ap (decode c) (sym (at i 0 in_i) ∙ same ∙ at k 0 in_k) ∙ back k in_k);
        each_met = λ k d h.
            let within : k < length all.states = rw length-map at h in
            subst (λ (t : ℕ). IsMet m t) (sym (at k d within)) (met (get_or all.states k []) (all.each_occurs k [] within));
        all_there = λ state is_met.
            let there : Contains all.states (decode c state) = all.all_there (decode c state) (occurs state is_met) in
            subst (λ (t : ℕ). Contains (map (encode c) all.states) t) (own_code state is_met) (Contains-map (encode c) all.states (decode c state) there);
      }

  pub occurring_number : (n : ℕ) → MeetsStates m n → HasStates c n
  occurring_number n all =
      let at : (k : ℕ) (d : List Bool) → k < length all.states → get_or (map (decode c) all.states) k d ≡ decode c (get_or all.states k 0) = λ k d h. get_or-map (decode c) all.states k 0 d h in
      let back : (k : ℕ) → k < length all.states → encode c (decode c (get_or all.states k 0)) ≡ get_or all.states k 0 = λ k h. own_code (get_or all.states k 0) (all.each_met k 0 h) in
      record {
        states = map (decode c) all.states;
        count = length-map all.states (decode c) ∙ all.count;
        different = λ i k d less h same.
            let in_k : k < length all.states = rw length-map at h in
            let in_i : i < length all.states = omega (arith, less, in_k) in
            all.different i k less in_k
            (sym (back i in_i) ∙ ap (encode c) (sym (at i d in_i) ∙ same ∙ at k d in_k) ∙ back k in_k);
        each_occurs = λ k d h.
            let within : k < length all.states = rw length-map at h in
            subst (λ (bits : List Bool). Occurs c bits) (sym (at k d within)) (occurs (get_or all.states k 0) (all.each_met k 0 within));
        all_there = λ latches o.
            let there : Contains all.states (encode c latches) = all.all_there (encode c latches) (met latches o) in
            subst (λ (bits : List Bool). Contains (map (decode c) all.states) bits) (own_values latches o) (Contains-map (decode c) all.states (encode c latches) there);
      }

pub circuits_have_states : CircuitsHaveStates
circuits_have_states c circuit =
    let order : (order : List ℕ) × IsOrder c.gates order = has_order c.gates circuit.no_cycle in
    let found = meets_some (whole c circuit order.0 order.1) (whole_is c circuit order.0 order.1) in
    (found.0, occurring_number c circuit order.0 order.1 found.0 found.2)
