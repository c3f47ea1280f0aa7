use Rattle.std.proofs.Common.{◌≡◌, ◌+◌, ◌-◌, ◌<◌, Bool, false, List, length, get_or, sym, ap, subst, ◌∙◌, arith}
use Rattle.std.specs.Prelude.{map}
use Rattle.std.specs.Vec.{with_items}
use Rattle.std.proofs.lemmas.List.{with_items_is, length-map}
use Rattle.aiger_text.specs.declared.circuits.Latch.{Latch}
use Rattle.aiger_text.specs.Circuit as parts
use Rattle.aiger_text.specs.CircuitType.{IsCircuit}
use Rattle.aiger_text.specs.Values.{valuation}
use Rattle.aiger_text.specs.Step.{StateModel, HasValues}
use Rattle.aiger_text.proofs.Stepping.{output_room, next_room}
use Rattle.aiger_text.proofs.circuits.Circuit.step.Goals as goal

pub settle-requires-clause-room : goal.settle-requires-clause-room
settle-requires-clause-room c =
    let first : c.deref_mut.result.now ≡ c.state.inside.values.items = c.deref_mut.ensures.value in
    let counted : length c.state.inside.values.items - 1 ≡ c.args.state.now.variables = ap (λ (s : StateModel). s.variables) c.state.view_is in
    let some : 0 < length c.state.inside.values.items = c.state.invariant.0 in
    let wanted : c.args.state.now.variables ≡ c.args.self.now.variables = c.requires.variables in
    let room : length c.state.inside.values.items ≡ c.args.self.now.variables + 1 = omega arith in
    ap length first ∙ room

pub settle-requires-clause-zero : goal.settle-requires-clause-zero
settle-requires-clause-zero c =
    let first : c.deref_mut.result.now ≡ c.state.inside.values.items = c.deref_mut.ensures.value in
    rw first c.state.invariant.1

pub settle-requires-clause-inputs : goal.settle-requires-clause-inputs
settle-requires-clause-inputs c =
    ap length c.deref.ensures.value ∙ ap (λ (s : StateModel). length s.inputs) c.state.view_is ∙ c.requires.inputs

pub settle-requires-clause-latches : goal.settle-requires-clause-latches
settle-requires-clause-latches c =
    ap length c.deref-2.ensures.value ∙ ap (λ (s : StateModel). length s.latches) c.state.view_is ∙ c.requires.latches

pub take_outputs-requires-clause-places : goal.take_outputs-requires-clause-places
take_outputs-requires-clause-places c =
    let outputs : c.deref-3.result.now ≡ c.args.self.now.outputs = c.deref-3.ensures.value ∙ ap (λ (k : parts.Circuit). k.outputs) c.self.view_is in
    ap length c.deref_mut-2.ensures.value ∙ ap (λ (s : StateModel). length s.outputs) c.state.view_is ∙ c.requires.outputs ∙ sym (ap length outputs)

pub take_outputs-requires-clause-zero : goal.take_outputs-requires-clause-zero
take_outputs-requires-clause-zero c =
    let first : c.deref_mut.result.now ≡ c.state.inside.values.items = c.deref_mut.ensures.value in
    let fit : length c.settle.new.values ≡ c.state.inside.values.len = c.settle.auto.values ∙ ap length first ∙ sym c.state.inside.values.ok.0 in
    let kept_values : (with_items c.state.inside.values c.settle.new.values).items ≡ c.settle.new.values = with_items_is c.state.inside.values c.settle.new.values fit in
    let settled : c.deref-4.result.now ≡ c.settle.new.values = c.deref-4.ensures.value ∙ kept_values in
    rw settled c.settle.ensures.zero

pub take_outputs-requires-clause-room : goal.take_outputs-requires-clause-room
take_outputs-requires-clause-room c =
    let kept : IsCircuit c.args.self.now = subst IsCircuit c.self.view_is c.self.invariant.0 in
    let first : c.deref_mut.result.now ≡ c.state.inside.values.items = c.deref_mut.ensures.value in
    let counted : length c.state.inside.values.items - 1 ≡ c.args.state.now.variables = ap (λ (s : StateModel). s.variables) c.state.view_is in
    let some : 0 < length c.state.inside.values.items = c.state.invariant.0 in
    let wanted : c.args.state.now.variables ≡ c.args.self.now.variables = c.requires.variables in
    let room : length c.state.inside.values.items ≡ c.args.self.now.variables + 1 = omega arith in
    let n : length c.settle.new.values ≡ c.args.self.now.variables + 1 = c.settle.auto.values ∙ ap length first ∙ room in
    let fit : length c.settle.new.values ≡ c.state.inside.values.len = c.settle.auto.values ∙ ap length first ∙ sym c.state.inside.values.ok.0 in
    let kept_values : (with_items c.state.inside.values c.settle.new.values).items ≡ c.settle.new.values = with_items_is c.state.inside.values c.settle.new.values fit in
    let settled : c.deref-4.result.now ≡ c.settle.new.values = c.deref-4.ensures.value ∙ kept_values in
    let outputs : c.deref-3.result.now ≡ c.args.self.now.outputs = c.deref-3.ensures.value ∙ ap (λ (k : parts.Circuit). k.outputs) c.self.view_is in
    rw (outputs, settled, n) (output_room c.args.self.now kept)

pub take_latches-requires-clause-places : goal.take_latches-requires-clause-places
take_latches-requires-clause-places c =
    let latches : c.deref-5.result.now ≡ c.args.self.now.latches = c.deref-5.ensures.value ∙ ap (λ (k : parts.Circuit). k.latches) c.self.view_is in
    ap length c.deref_mut-3.ensures.value ∙ ap (λ (s : StateModel). length s.latches) c.state.view_is ∙ c.requires.latches ∙ sym (ap length latches)

pub take_latches-requires-clause-zero : goal.take_latches-requires-clause-zero
take_latches-requires-clause-zero c =
    let first : c.deref_mut.result.now ≡ c.state.inside.values.items = c.deref_mut.ensures.value in
    let fit : length c.settle.new.values ≡ c.state.inside.values.len = c.settle.auto.values ∙ ap length first ∙ sym c.state.inside.values.ok.0 in
    let kept_values : (with_items c.state.inside.values c.settle.new.values).items ≡ c.settle.new.values = with_items_is c.state.inside.values c.settle.new.values fit in
    let settled_too : c.deref-6.result.now ≡ c.settle.new.values = c.deref-6.ensures.value ∙ kept_values in
    rw settled_too c.settle.ensures.zero

pub take_latches-requires-clause-room : goal.take_latches-requires-clause-room
take_latches-requires-clause-room c =
    let kept : IsCircuit c.args.self.now = subst IsCircuit c.self.view_is c.self.invariant.0 in
    let first : c.deref_mut.result.now ≡ c.state.inside.values.items = c.deref_mut.ensures.value in
    let counted : length c.state.inside.values.items - 1 ≡ c.args.state.now.variables = ap (λ (s : StateModel). s.variables) c.state.view_is in
    let some : 0 < length c.state.inside.values.items = c.state.invariant.0 in
    let wanted : c.args.state.now.variables ≡ c.args.self.now.variables = c.requires.variables in
    let room : length c.state.inside.values.items ≡ c.args.self.now.variables + 1 = omega arith in
    let n : length c.settle.new.values ≡ c.args.self.now.variables + 1 = c.settle.auto.values ∙ ap length first ∙ room in
    let fit : length c.settle.new.values ≡ c.state.inside.values.len = c.settle.auto.values ∙ ap length first ∙ sym c.state.inside.values.ok.0 in
    let kept_values : (with_items c.state.inside.values c.settle.new.values).items ≡ c.settle.new.values = with_items_is c.state.inside.values c.settle.new.values fit in
    let settled_too : c.deref-6.result.now ≡ c.settle.new.values = c.deref-6.ensures.value ∙ kept_values in
    let latches : c.deref-5.result.now ≡ c.args.self.now.latches = c.deref-5.ensures.value ∙ ap (λ (k : parts.Circuit). k.latches) c.self.view_is in
    rw (latches, settled_too, n) (next_room c.args.self.now kept)

pub invariant_of-state : goal.invariant_of-state
invariant_of-state c =
    let first : c.deref_mut.result.now ≡ c.state.inside.values.items = c.deref_mut.ensures.value in
    let counted : length c.state.inside.values.items - 1 ≡ c.args.state.now.variables = ap (λ (s : StateModel). s.variables) c.state.view_is in
    let some : 0 < length c.state.inside.values.items = c.state.invariant.0 in
    let wanted : c.args.state.now.variables ≡ c.args.self.now.variables = c.requires.variables in
    let room : length c.state.inside.values.items ≡ c.args.self.now.variables + 1 = omega arith in
    let n : length c.settle.new.values ≡ c.args.self.now.variables + 1 = c.settle.auto.values ∙ ap length first ∙ room in
    let fit : length c.settle.new.values ≡ c.state.inside.values.len = c.settle.auto.values ∙ ap length first ∙ sym c.state.inside.values.ok.0 in
    let kept_values : (with_items c.state.inside.values c.settle.new.values).items ≡ c.settle.new.values = with_items_is c.state.inside.values c.settle.new.values fit in
    let there : 0 < length c.settle.new.values = omega (arith, n) in
    subst (λ (vs : List Bool). (0 < length vs) × (get_or vs 0 false ≡ false)) (sym kept_values) (there, c.settle.ensures.zero)

pub returns : goal.returns
returns c =
    let first : c.deref_mut.result.now ≡ c.state.inside.values.items = c.deref_mut.ensures.value in
    let counted : length c.state.inside.values.items - 1 ≡ c.args.state.now.variables = ap (λ (s : StateModel). s.variables) c.state.view_is in
    let some : 0 < length c.state.inside.values.items = c.state.invariant.0 in
    let wanted : c.args.state.now.variables ≡ c.args.self.now.variables = c.requires.variables in
    let room : length c.state.inside.values.items ≡ c.args.self.now.variables + 1 = omega arith in
    let n : length c.settle.new.values ≡ c.args.self.now.variables + 1 = c.settle.auto.values ∙ ap length first ∙ room in
    let fit : length c.settle.new.values ≡ c.state.inside.values.len = c.settle.auto.values ∙ ap length first ∙ sym c.state.inside.values.ok.0 in
    let kept_values : (with_items c.state.inside.values c.settle.new.values).items ≡ c.settle.new.values = with_items_is c.state.inside.values c.settle.new.values fit in
    let settled : c.deref-4.result.now ≡ c.settle.new.values = c.deref-4.ensures.value ∙ kept_values in
    let settled_too : c.deref-6.result.now ≡ c.settle.new.values = c.deref-6.ensures.value ∙ kept_values in
    let outputs : c.deref-3.result.now ≡ c.args.self.now.outputs = c.deref-3.ensures.value ∙ ap (λ (k : parts.Circuit). k.outputs) c.self.view_is in
    let latches : c.deref-5.result.now ≡ c.args.self.now.latches = c.deref-5.ensures.value ∙ ap (λ (k : parts.Circuit). k.latches) c.self.view_is in
    let old_outputs : length c.take_outputs.new.bits ≡ c.state.inside.outputs.len = c.take_outputs.auto.bits ∙ ap length c.deref_mut-2.ensures.value ∙ sym c.state.inside.outputs.ok.0 in
    let new_outputs : (with_items c.state.inside.outputs c.take_outputs.new.bits).items ≡ c.take_outputs.new.bits = with_items_is c.state.inside.outputs c.take_outputs.new.bits old_outputs in
    let old_latches : length c.take_latches.new.bits ≡ c.state.inside.latches.len = c.take_latches.auto.bits ∙ ap length c.deref_mut-3.ensures.value ∙ sym c.state.inside.latches.ok.0 in
    let new_latches : (with_items c.state.inside.latches c.take_latches.new.bits).items ≡ c.take_latches.new.bits = with_items_is c.state.inside.latches c.take_latches.new.bits old_latches in
    let written : c.take_outputs.new.bits ≡ parts.output_values c.args.self.now (valuation c.settle.new.values) =
    c.take_outputs.ensures ∙ ap (λ (vs : List Bool). parts.literal_values (valuation vs) c.deref-3.result.now) settled ∙ ap (parts.literal_values (valuation c.settle.new.values)) outputs in
    let moved : c.take_latches.new.bits ≡ map (λ latch. parts.literal_value (valuation c.settle.new.values) latch.next) c.args.self.now.latches =
    c.take_latches.ensures ∙ ap (λ (vs : List Bool). map (λ latch. parts.literal_value (valuation vs) latch.next) c.deref-5.result.now) settled_too
    ∙ ap (λ (ls : List Latch). map (λ latch. parts.literal_value (valuation c.settle.new.values) latch.next) ls) latches in
    let same_inputs : c.state.inside.inputs.items ≡ c.args.state.now.inputs = ap (λ (s : StateModel). s.inputs) c.state.view_is in
    let inputs : c.deref.result.now ≡ c.args.state.now.inputs = c.deref.ensures.value ∙ same_inputs in
    let held : c.deref-2.result.now ≡ c.args.state.now.latches = c.deref-2.ensures.value ∙ ap (λ (s : StateModel). s.latches) c.state.view_is in
    let before : HasValues c.args.self.now c.args.state.now.inputs c.args.state.now.latches (valuation c.settle.new.values) =
    subst (λ (ls : List Bool). HasValues c.args.self.now c.args.state.now.inputs ls (valuation c.settle.new.values)) held
    (subst (λ (is : List Bool). HasValues c.args.self.now is c.deref-2.result.now (valuation c.settle.new.values)) inputs c.settle.ensures.settled) in
    let less : length c.settle.new.values - 1 ≡ c.args.state.now.variables = omega (arith, n, wanted) in
    let same_variables : length (with_items c.state.inside.values c.settle.new.values).items - 1 ≡ c.args.state.now.variables = ap (λ (vs : List Bool). length vs - 1) kept_values ∙ less in
    record {
      step = record {
        values = valuation c.settle.new.values;
        before = before;
        writes = new_outputs ∙ written;
        moves = new_latches ∙ moved;
        same_inputs = same_inputs;
        same_variables = same_variables;
      };
      fits = record {
        variables = same_variables ∙ wanted;
        inputs = ap length same_inputs ∙ c.requires.inputs;
        latches = ap length (new_latches ∙ moved) ∙ length-map c.args.self.now.latches (λ latch. parts.literal_value (valuation c.settle.new.values) latch.next);
        outputs = ap length (new_outputs ∙ written) ∙ length-map c.args.self.now.outputs (λ literal. parts.literal_value (valuation c.settle.new.values) literal);
      };
    }
