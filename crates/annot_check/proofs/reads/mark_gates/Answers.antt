use Rattle.std.proofs.Common.{◌≡◌, sym, ap, subst, ◌∙◌}
use Rattle.aiger_text.specs.Circuit.{Circuit}
use Rattle.aiger_text.specs.CircuitType.{IsCircuit}
use Rattle.annot_check.proofs.MarkLemmas.{growing_none, left_gate_room, own_room, right_gate_room, set_in, skip_in}
use Rattle.annot_check.proofs.reads.mark_gates.Goals as goal
use Rattle.annot_check.proofs.reads.mark_gates.Goals.{then-is_next, else-is_next}

pub loop-gate-init : goal.loop-gate-init
loop-gate-init c = growing_none _ _ c.requires

pub is_next-requires-clause-left : goal.is_next-requires-clause-left
is_next-requires-clause-left c =
    let kept : IsCircuit c.args.circuit.now = subst IsCircuit c.circuit.view_is c.circuit.invariant.0 in
    let same : c.deref-gate-items.result.now ≡ c.args.circuit.now.gates = c.deref-gate-items.ensures.value ∙ ap (λ (x : Circuit). x.gates) c.circuit.view_is in
    left_gate_room c.args.circuit.now kept c.deref-gate-items.result.now same c.loop-gate.leads c.loop-gate.invariant.sound.size c.loop-gate.gate-index c.loop-gate-test.true

pub is_next-requires-clause-right : goal.is_next-requires-clause-right
is_next-requires-clause-right c =
    let kept : IsCircuit c.args.circuit.now = subst IsCircuit c.circuit.view_is c.circuit.invariant.0 in
    let same : c.deref-gate-items.result.now ≡ c.args.circuit.now.gates = c.deref-gate-items.ensures.value ∙ ap (λ (x : Circuit). x.gates) c.circuit.view_is in
    right_gate_room c.args.circuit.now kept c.deref-gate-items.result.now same c.loop-gate.leads c.loop-gate.invariant.sound.size c.loop-gate.gate-index c.loop-gate-test.true

pub is_next-requires-clause-own : goal.is_next-requires-clause-own
is_next-requires-clause-own c =
    let kept : IsCircuit c.args.circuit.now = subst IsCircuit c.circuit.view_is c.circuit.invariant.0 in
    let same : c.deref-gate-items.result.now ≡ c.args.circuit.now.gates = c.deref-gate-items.ensures.value ∙ ap (λ (x : Circuit). x.gates) c.circuit.view_is in
    own_room c.args.circuit.now kept c.deref-gate-items.result.now same c.loop-gate.leads c.loop-gate.invariant.sound.size c.loop-gate.gate-index c.loop-gate-test.true

pub bounds-leads-gate : goal.bounds-leads-gate
bounds-leads-gate c =
    let kept : IsCircuit c.args.circuit.now = subst IsCircuit c.circuit.view_is c.circuit.invariant.0 in
    let same : c.deref-gate-items.result.now ≡ c.args.circuit.now.gates = c.deref-gate-items.ensures.value ∙ ap (λ (x : Circuit). x.gates) c.circuit.view_is in
    own_room c.args.circuit.now kept c.deref-gate-items.result.now same c.loop-gate.leads c.loop-gate.invariant.sound.size c.loop-gate.gate-index c.loop-gate-test.true

pub loop-gate-preserved : goal.loop-gate-preserved
loop-gate-preserved c =
    let kept : IsCircuit c.args.circuit.now = subst IsCircuit c.circuit.view_is c.circuit.invariant.0 in
    let same : c.deref-gate-items.result.now ≡ c.args.circuit.now.gates = c.deref-gate-items.ensures.value ∙ ap (λ (x : Circuit). x.gates) c.circuit.view_is in
    elim c.if-is_next.branch [
      | then-is_next w ↦
          rw (w.leads-is, w.grown-is) (set_in c.args.circuit.now kept c.deref-gate-items.result.now same c.args.leads.now c.loop-gate.leads c.loop-gate.grown c.loop-gate.gate-index
          c.loop-gate-test.true c.loop-gate.invariant (sym c.is_next.ensures ∙ w.if-is_next.true))
      | else-is_next w ↦
          rw (w.leads-is, w.grown-is) (skip_in c.args.circuit.now kept c.deref-gate-items.result.now same c.args.leads.now c.loop-gate.leads c.loop-gate.grown c.loop-gate.gate-index
          c.loop-gate-test.true c.loop-gate.invariant (sym c.is_next.ensures ∙ w.if-is_next.false))
    ]
