use Rattle.std.proofs.Common.{◌≡◌, ◌≢◌, ℕ, zero, suc, ◌+◌, ◌*◌, ◌/◌, ◌%◌, ◌<◌, ◌≤◌, Bool, false, List, [], ◌∷◌, ◌++◌, length, get_or, sym, ap, subst, ◌∙◌, arith}
use Rattle.std.specs.Prelude.{map, flat_map, All}
use Rattle.std.proofs.lemmas.List.{length-map, length-append, get_or-map, get_or_append_left, get_or-append-add}
use Rattle.aiger_text.specs.declared.circuits.Latch.{Latch}
use Rattle.aiger_text.specs.declared.circuits.Gate.{Gate}
use Rattle.aiger_text.specs.Circuit.{Circuit, literal_value}
use Rattle.aiger_text.specs.CircuitType.{IsCircuit, IsDefined, IsDefinable, defined_literals}
use Rattle.aiger_text.specs.Values.{AreVariables, HaveRoom, Puts, Settles, valuation}
use Rattle.aiger_text.specs.Step.{IsSettled}
use Rattle.aiger_text.proofs.Putting.{no_latch, taken_all}
use Rattle.aiger_text.proofs.Gates.{no_gate, literal_value-even}

-- parts of lists
All-left : {X : Type 0} (P : X → Type 0) (xs ys : List X) → All P (xs ++ ys) → All P xs
All-left P xs ys all k d h = subst P (get_or_append_left xs ys d k h) (all k d (omega (arith, length-append xs ys)))

All-right : {X : Type 0} (P : X → Type 0) (xs ys : List X) → All P (xs ++ ys) → All P ys
All-right P xs ys all k d h = subst P (get_or-append-add xs ys k d) (all (length xs + k) d (omega (arith, length-append xs ys)))

-- what holds of all operands
left_of : (P : ℕ → Type 0) (gates : List Gate) → All P (flat_map (λ gate. gate.left ∷ gate.right ∷ []) gates) → (i : ℕ) → i < length gates → P (get_or gates i no_gate).left
left_of P [] all i h = absurd (omega arith)
left_of P (g ∷ gates) all zero h = all 0 0 (omega arith)
left_of P (g ∷ gates) all (suc i) h = left_of P gates (λ k d within. all (suc (suc k)) d (omega arith)) i (omega arith)

right_of : (P : ℕ → Type 0) (gates : List Gate) → All P (flat_map (λ gate. gate.left ∷ gate.right ∷ []) gates) → (i : ℕ) → i < length gates → P (get_or gates i no_gate).right
right_of P [] all i h = absurd (omega arith)
right_of P (g ∷ gates) all zero h = all 1 0 (omega arith)
right_of P (g ∷ gates) all (suc i) h = right_of P gates (λ k d within. all (suc (suc k)) d (omega arith)) i (omega arith)

-- parts of a list of variables
variables-left : (n : ℕ) (xs ys : List ℕ) → AreVariables n (xs ++ ys) → AreVariables n xs
variables-left n xs ys v =
    let len : length (xs ++ ys) ≡ length xs + length ys = length-append xs ys in
    record {
      even = λ i h. subst (λ (l : ℕ). l % 2 ≡ 0) (get_or_append_left xs ys 0 i h) (v.even i (omega (arith, len)));
      some = λ i h. subst (λ (l : ℕ). 0 < l / 2) (get_or_append_left xs ys 0 i h) (v.some i (omega (arith, len)));
      room = λ i h. subst (λ (l : ℕ). l / 2 < n) (get_or_append_left xs ys 0 i h) (v.room i (omega (arith, len)));
      apart = λ i k less h e. v.apart i k less (omega (arith, len))
          (ap (λ (l : ℕ). l / 2) (get_or_append_left xs ys 0 i (omega arith)) ∙ e ∙ ap (λ (l : ℕ). l / 2) (sym (get_or_append_left xs ys 0 k h)));
    }

variables-right : (n : ℕ) (xs ys : List ℕ) → AreVariables n (xs ++ ys) → AreVariables n ys
variables-right n xs ys v =
    let len : length (xs ++ ys) ≡ length xs + length ys = length-append xs ys in
    record {
      even = λ i h. subst (λ (l : ℕ). l % 2 ≡ 0) (get_or-append-add xs ys i 0) (v.even (length xs + i) (omega (arith, len)));
      some = λ i h. subst (λ (l : ℕ). 0 < l / 2) (get_or-append-add xs ys i 0) (v.some (length xs + i) (omega (arith, len)));
      room = λ i h. subst (λ (l : ℕ). l / 2 < n) (get_or-append-add xs ys i 0) (v.room (length xs + i) (omega (arith, len)));
      apart = λ i k less h e. v.apart (length xs + i) (length xs + k) (omega arith) (omega (arith, len))
          (ap (λ (l : ℕ). l / 2) (get_or-append-add xs ys i 0) ∙ e ∙ ap (λ (l : ℕ). l / 2) (sym (get_or-append-add xs ys k 0)));
    }

across : (n : ℕ) (xs ys : List ℕ) → AreVariables n (xs ++ ys) → (i k : ℕ) → i < length xs → k < length ys → get_or xs i 0 / 2 ≢ get_or ys k 0 / 2
across n xs ys v i k hi hk e =
    v.apart i (length xs + k) (omega arith) (omega (arith, length-append xs ys))
    (ap (λ (l : ℕ). l / 2) (get_or_append_left xs ys 0 i hi) ∙ e ∙ ap (λ (l : ℕ). l / 2) (sym (get_or-append-add xs ys k 0)))

-- variable 0 stays false
pub zero_kept : (n : ℕ) (literals : List ℕ) (bits old new : List Bool) → AreVariables n literals → Puts literals bits old new → get_or new 0 false ≡ get_or old 0 false
zero_kept n literals bits old new variables puts =
    puts.others 0 (λ i h e. let some : 0 < get_or literals i 0 / 2 = variables.some i h in omega arith)

-- the variables of a circuit have places in a list of a value for each
pub variables_of : (c : Circuit) → IsCircuit c → AreVariables (c.variables + 1) (defined_literals c)
variables_of c circuit = record {
  even = λ i h. (circuit.definable i 0 h).even;
  some = λ i h.
      let d : IsDefinable c (get_or (defined_literals c) i 0) = circuit.definable i 0 h in
      let even : get_or (defined_literals c) i 0 % 2 ≡ 0 = d.even in
      let some : get_or (defined_literals c) i 0 ≢ 0 = d.a_variable in
      omega arith;
  room = λ i h.
      let range : get_or (defined_literals c) i 0 ≤ 2 * c.variables + 1 = (circuit.definable i 0 h).in_range in
      omega arith;
  apart = λ i k less h e.
      let even : get_or (defined_literals c) i 0 % 2 ≡ 0 = (circuit.definable i 0 (omega arith)).even in
      let even' : get_or (defined_literals c) k 0 % 2 ≡ 0 = (circuit.definable k 0 h).even in
      circuit.once i k less h (omega (arith, e, even, even'));
}

module _ (c : Circuit) (circuit : IsCircuit c) where
  abbrev latch_literals : List ℕ
  latch_literals = map (λ (latch : Latch). latch.literal) c.latches

  abbrev gate_literals : List ℕ
  gate_literals = map (λ (gate : Gate). gate.literal) c.gates

  pub input_variables : AreVariables (c.variables + 1) c.inputs
  input_variables = variables-left (c.variables + 1) c.inputs (latch_literals ++ gate_literals) (variables_of c circuit)

  behind_inputs : AreVariables (c.variables + 1) (latch_literals ++ gate_literals)
  behind_inputs = variables-right (c.variables + 1) c.inputs (latch_literals ++ gate_literals) (variables_of c circuit)

  pub latch_variables : AreVariables (c.variables + 1) latch_literals
  latch_variables = variables-left (c.variables + 1) latch_literals gate_literals behind_inputs

  pub gate_variables : AreVariables (c.variables + 1) gate_literals
  gate_variables = variables-right (c.variables + 1) latch_literals gate_literals behind_inputs

  in_range : (literal : ℕ) → IsDefined c literal → literal / 2 < c.variables + 1
  in_range literal defined = let range : literal ≤ 2 * c.variables + 1 = defined.in_range in omega arith

  abbrev operands : List ℕ
  operands = flat_map (λ (gate : Gate). gate.left ∷ gate.right ∷ []) c.gates

  behind_nexts : All (IsDefined c) (c.outputs ++ operands)
  behind_nexts = All-right (IsDefined c) (map (λ (latch : Latch). latch.next) c.latches) (c.outputs ++ operands) circuit.all_defined

  pub next_room : HaveRoom (c.variables + 1) (map (λ (latch : Latch). latch.next) c.latches)
  next_room i h =
      in_range (get_or (map (λ (latch : Latch). latch.next) c.latches) i 0)
      (All-left (IsDefined c) (map (λ (latch : Latch). latch.next) c.latches) (c.outputs ++ operands) circuit.all_defined i 0 h)

  pub output_room : HaveRoom (c.variables + 1) c.outputs
  output_room i h = in_range (get_or c.outputs i 0) (All-left (IsDefined c) c.outputs operands behind_nexts i 0 h)

  pub left_room : HaveRoom (c.variables + 1) (map (λ (gate : Gate). gate.left) c.gates)
  left_room i h =
      let within : i < length c.gates = rw length-map at h in
      subst (λ (l : ℕ). l / 2 < c.variables + 1) (sym (get_or-map (λ (gate : Gate). gate.left) c.gates i no_gate 0 within))
      (in_range (get_or c.gates i no_gate).left (left_of (IsDefined c) c.gates (All-right (IsDefined c) c.outputs operands behind_nexts) i within))

  pub right_room : HaveRoom (c.variables + 1) (map (λ (gate : Gate). gate.right) c.gates)
  right_room i h =
      let within : i < length c.gates = rw length-map at h in
      subst (λ (l : ℕ). l / 2 < c.variables + 1) (sym (get_or-map (λ (gate : Gate). gate.right) c.gates i no_gate 0 within))
      (in_range (get_or c.gates i no_gate).right (right_of (IsDefined c) c.gates (All-right (IsDefined c) c.outputs operands behind_nexts) i within))

  -- each literal that is used is defined
  pub next_defined : (i : ℕ) → i < length c.latches → IsDefined c (get_or c.latches i no_latch).next
  next_defined i h =
      subst (IsDefined c) (get_or-map (λ (latch : Latch). latch.next) c.latches i no_latch 0 h)
      (All-left (IsDefined c) (map (λ (latch : Latch). latch.next) c.latches) (c.outputs ++ operands) circuit.all_defined i 0 (rw length-map h))

  pub output_defined : All (IsDefined c) c.outputs
  output_defined = All-left (IsDefined c) c.outputs operands behind_nexts

  pub left_defined : (i : ℕ) → i < length c.gates → IsDefined c (get_or c.gates i no_gate).left
  left_defined i h = left_of (IsDefined c) c.gates (All-right (IsDefined c) c.outputs operands behind_nexts) i h

  pub right_defined : (i : ℕ) → i < length c.gates → IsDefined c (get_or c.gates i no_gate).right
  right_defined i h = right_of (IsDefined c) c.gates (All-right (IsDefined c) c.outputs operands behind_nexts) i h

  -- the gates leave a variable that none of them has
  gates_spare : (v : ℕ) → ((k : ℕ) → k < length gate_literals → v ≢ get_or gate_literals k 0 / 2) → (i : ℕ) → i < length c.gates → (get_or c.gates i no_gate).literal / 2 ≢ v
  gates_spare v free i h e =
      free i (rw length-map h) (sym e ∙ ap (λ (l : ℕ). l / 2) (sym (get_or-map (λ (gate : Gate). gate.literal) c.gates i no_gate 0 h)))

  module _ (inputs latches : List Bool) (v0 v1 v2 v3 : List Bool) (same_inputs : length inputs ≡ length c.inputs) (same_latches : length latches ≡ length c.latches)
      (first : Puts c.inputs inputs v0 v1) (second : Puts latch_literals latches v1 v2) (third : Settles c.gates v2 v3) where
    pub zero_third : get_or v3 0 false ≡ get_or v2 0 false
    zero_third = third.others 0 (gates_spare 0 (λ k h e. let some : 0 < get_or gate_literals k 0 / 2 = gate_variables.some k h in omega arith))

    input_stays : (i : ℕ) → i < length c.inputs → literal_value (valuation v3) (get_or c.inputs i 0) ≡ get_or inputs i false
    input_stays i h =
        literal_value-even (valuation v3) (get_or c.inputs i 0) (input_variables.even i h) (input_variables.some i h)
        ∙ third.others (get_or c.inputs i 0 / 2) (gates_spare (get_or c.inputs i 0 / 2) (λ k within.
        let e : get_or (latch_literals ++ gate_literals) (length latch_literals + k) 0 ≡ get_or gate_literals k 0 = get_or-append-add latch_literals gate_literals k 0 in
        subst (λ (l : ℕ). get_or c.inputs i 0 / 2 ≢ l / 2) e
        (across (c.variables + 1) c.inputs (latch_literals ++ gate_literals) (variables_of c circuit) i (length latch_literals + k) h (omega (arith, length-append latch_literals gate_literals)))))
        ∙ second.others (get_or c.inputs i 0 / 2) (λ k within e.
        across (c.variables + 1) c.inputs (latch_literals ++ gate_literals) (variables_of c circuit) i k h (omega (arith, length-append latch_literals gate_literals))
        (sym e ∙ ap (λ (l : ℕ). l / 2) (sym (get_or_append_left latch_literals gate_literals 0 k within))))
        ∙ first.set i h

    latch_stays : (i : ℕ) → i < length c.latches → literal_value (valuation v3) (get_or c.latches i no_latch).literal ≡ get_or latches i false
    latch_stays i h =
        let within : i < length latch_literals = rw length-map h in
        let e : get_or latch_literals i 0 ≡ (get_or c.latches i no_latch).literal = get_or-map (λ (latch : Latch). latch.literal) c.latches i no_latch 0 h in
        subst (λ (l : ℕ). literal_value (valuation v3) l ≡ get_or latches i false) e
        (literal_value-even (valuation v3) (get_or latch_literals i 0) (latch_variables.even i within) (latch_variables.some i within)
        ∙ third.others (get_or latch_literals i 0 / 2) (gates_spare (get_or latch_literals i 0 / 2) (λ k there. across (c.variables + 1) latch_literals gate_literals behind_inputs i k within there))
        ∙ second.set i within)

    pub settled : IsSettled c inputs latches v3
    settled = record {
      reads = sym (taken_all (literal_value (valuation v3)) c.inputs inputs 0 same_inputs (λ k h. sym (input_stays k h)));
      holds = sym (taken_all (λ (latch : Latch). literal_value (valuation v3) latch.literal) c.latches latches no_latch same_latches (λ k h. sym (latch_stays k h)));
      gates = third.agree;
    }
