use Rattle.std.proofs.Common.{◌≡◌, ◌+◌, length, sym, ap, subst, ◌∙◌}
use Rattle.std.specs.Prelude.{map}
use Rattle.aiger_text.specs.declared.circuits.Latch.{Latch}
use Rattle.aiger_text.specs.Circuit as parts
use Rattle.aiger_text.specs.CircuitType.{IsCircuit}
use Rattle.aiger_text.specs.Values.{Puts, Settles}
use Rattle.aiger_text.proofs.Stepping.{input_variables, latch_variables, gate_variables, left_room, right_room, zero_kept, zero_third, settled}
use Rattle.aiger_text.proofs.states.settle.Goals as goal
use Rattle.aiger_text.proofs.states.settle.Goals.{After-deref, After-deref-2, After-deref-4}

pub put_inputs-requires-clause-places : goal.put_inputs-requires-clause-places
put_inputs-requires-clause-places c =
    let inputs : c.deref.result.now ≡ c.args.circuit.now.inputs = c.deref.ensures.value ∙ ap (λ (k : parts.Circuit). k.inputs) c.circuit.view_is in
    c.requires.inputs ∙ sym (ap length inputs)

pub put_inputs-requires-clause-variables : goal.put_inputs-requires-clause-variables
put_inputs-requires-clause-variables c =
    let kept : IsCircuit c.args.circuit.now = subst IsCircuit c.circuit.view_is c.circuit.invariant.0 in
    let inputs : c.deref.result.now ≡ c.args.circuit.now.inputs = c.deref.ensures.value ∙ ap (λ (k : parts.Circuit). k.inputs) c.circuit.view_is in
    rw (inputs, c.requires.room) (input_variables c.args.circuit.now kept)

pub put_latches-requires-clause-places : goal.put_latches-requires-clause-places
put_latches-requires-clause-places c =
    let latches : c.deref-2.result.now ≡ c.args.circuit.now.latches = c.deref-2.ensures.value ∙ ap (λ (k : parts.Circuit). k.latches) c.circuit.view_is in
    c.requires.latches ∙ sym (ap length latches)

pub put_latches-requires-clause-variables : goal.put_latches-requires-clause-variables
put_latches-requires-clause-variables c =
    let kept : IsCircuit c.args.circuit.now = subst IsCircuit c.circuit.view_is c.circuit.invariant.0 in
    let latches : c.deref-2.result.now ≡ c.args.circuit.now.latches = c.deref-2.ensures.value ∙ ap (λ (k : parts.Circuit). k.latches) c.circuit.view_is in
    let n1 : length c.put_inputs.new.values ≡ c.args.circuit.now.variables + 1 = c.put_inputs.auto.values ∙ c.requires.room in
    rw (latches, n1) (latch_variables c.args.circuit.now kept)

pub put_gates-requires-clause-zero : goal.put_gates-requires-clause-zero
put_gates-requires-clause-zero c =
    let kept : IsCircuit c.args.circuit.now = subst IsCircuit c.circuit.view_is c.circuit.invariant.0 in
    let inputs : c.deref.result.now ≡ c.args.circuit.now.inputs = c.deref.ensures.value ∙ ap (λ (k : parts.Circuit). k.inputs) c.circuit.view_is in
    let latches : c.deref-2.result.now ≡ c.args.circuit.now.latches = c.deref-2.ensures.value ∙ ap (λ (k : parts.Circuit). k.latches) c.circuit.view_is in
    let first : Puts c.args.circuit.now.inputs c.args.inputs.now c.args.values.now c.put_inputs.new.values = rw inputs at c.put_inputs.ensures in
    let second : Puts (map (λ (latch : Latch). latch.literal) c.args.circuit.now.latches) c.args.latches.now c.put_inputs.new.values c.put_latches.new.values = rw latches at c.put_latches.ensures in
    zero_kept (c.args.circuit.now.variables + 1) (map (λ (latch : Latch). latch.literal) c.args.circuit.now.latches) c.args.latches.now c.put_inputs.new.values c.put_latches.new.values (latch_variables c.args.circuit.now kept) second
    ∙ zero_kept (c.args.circuit.now.variables + 1) c.args.circuit.now.inputs c.args.inputs.now c.args.values.now c.put_inputs.new.values (input_variables c.args.circuit.now kept) first
    ∙ c.requires.zero

pub put_gates-requires-clause-order : goal.put_gates-requires-clause-order
put_gates-requires-clause-order c =
    rw (c.deref-3.ensures.value, c.deref-4.ensures.value) c.circuit.invariant.1

pub put_gates-requires-clause-variables : goal.put_gates-requires-clause-variables
put_gates-requires-clause-variables c =
    let kept : IsCircuit c.args.circuit.now = subst IsCircuit c.circuit.view_is c.circuit.invariant.0 in
    let gates : c.deref-3.result.now ≡ c.args.circuit.now.gates = c.deref-3.ensures.value ∙ ap (λ (k : parts.Circuit). k.gates) c.circuit.view_is in
    let n2 : length c.put_latches.new.values ≡ c.args.circuit.now.variables + 1 = c.put_latches.auto.values ∙ c.put_inputs.auto.values ∙ c.requires.room in
    rw (gates, n2) (gate_variables c.args.circuit.now kept)

pub put_gates-requires-clause-left : goal.put_gates-requires-clause-left
put_gates-requires-clause-left c =
    let kept : IsCircuit c.args.circuit.now = subst IsCircuit c.circuit.view_is c.circuit.invariant.0 in
    let gates : c.deref-3.result.now ≡ c.args.circuit.now.gates = c.deref-3.ensures.value ∙ ap (λ (k : parts.Circuit). k.gates) c.circuit.view_is in
    let n2 : length c.put_latches.new.values ≡ c.args.circuit.now.variables + 1 = c.put_latches.auto.values ∙ c.put_inputs.auto.values ∙ c.requires.room in
    rw (gates, n2) (left_room c.args.circuit.now kept)

pub put_gates-requires-clause-right : goal.put_gates-requires-clause-right
put_gates-requires-clause-right c =
    let kept : IsCircuit c.args.circuit.now = subst IsCircuit c.circuit.view_is c.circuit.invariant.0 in
    let gates : c.deref-3.result.now ≡ c.args.circuit.now.gates = c.deref-3.ensures.value ∙ ap (λ (k : parts.Circuit). k.gates) c.circuit.view_is in
    let n2 : length c.put_latches.new.values ≡ c.args.circuit.now.variables + 1 = c.put_latches.auto.values ∙ c.put_inputs.auto.values ∙ c.requires.room in
    rw (gates, n2) (right_room c.args.circuit.now kept)

pub returns : goal.returns
returns c =
    let kept : IsCircuit c.args.circuit.now = subst IsCircuit c.circuit.view_is c.circuit.invariant.0 in
    let inputs : c.deref.result.now ≡ c.args.circuit.now.inputs = c.deref.ensures.value ∙ ap (λ (k : parts.Circuit). k.inputs) c.circuit.view_is in
    let latches : c.deref-2.result.now ≡ c.args.circuit.now.latches = c.deref-2.ensures.value ∙ ap (λ (k : parts.Circuit). k.latches) c.circuit.view_is in
    let gates : c.deref-3.result.now ≡ c.args.circuit.now.gates = c.deref-3.ensures.value ∙ ap (λ (k : parts.Circuit). k.gates) c.circuit.view_is in
    let first : Puts c.args.circuit.now.inputs c.args.inputs.now c.args.values.now c.put_inputs.new.values = rw inputs at c.put_inputs.ensures in
    let second : Puts (map (λ (latch : Latch). latch.literal) c.args.circuit.now.latches) c.args.latches.now c.put_inputs.new.values c.put_latches.new.values = rw latches at c.put_latches.ensures in
    let third : Settles c.args.circuit.now.gates c.put_latches.new.values c.put_gates.new.values = rw gates at c.put_gates.ensures in
    record {
      settled = settled c.args.circuit.now kept c.args.inputs.now c.args.latches.now c.args.values.now c.put_inputs.new.values c.put_latches.new.values c.put_gates.new.values c.requires.inputs c.requires.latches first second third;
      zero = zero_third c.args.circuit.now kept c.args.inputs.now c.args.latches.now c.args.values.now c.put_inputs.new.values c.put_latches.new.values c.put_gates.new.values c.requires.inputs c.requires.latches first second third ∙ (zero_kept (c.args.circuit.now.variables + 1) (map (λ (latch : Latch). latch.literal) c.args.circuit.now.latches) c.args.latches.now c.put_inputs.new.values c.put_latches.new.values (latch_variables c.args.circuit.now kept) second
          ∙ zero_kept (c.args.circuit.now.variables + 1) c.args.circuit.now.inputs c.args.inputs.now c.args.values.now c.put_inputs.new.values (input_variables c.args.circuit.now kept) first
          ∙ c.requires.zero);
    }
