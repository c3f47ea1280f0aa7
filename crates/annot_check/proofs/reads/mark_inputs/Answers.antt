use Rattle.std.proofs.Common.{◌≡◌, ◌≤◌, List, length, ℕ, ap, subst, ◌∙◌}
use Rattle.aiger_text.specs.Circuit.{Circuit}
use Rattle.aiger_text.specs.CircuitType.{IsCircuit}
use Rattle.annot_check.proofs.MarkLemmas.{marked_all, marked_next_in, marked_none}
use Rattle.annot_check.proofs.reads.mark_inputs.Goals as goal

pub loop-input-init : goal.loop-input-init
loop-input-init c = marked_none _ _ c.requires

pub loop-input-preserved : goal.loop-input-preserved
loop-input-preserved c =
    marked_next_in c.args.circuit.now (subst IsCircuit c.circuit.view_is c.circuit.invariant.0) c.deref-input-items.result.now
    (c.deref-input-items.ensures.value ∙ ap (λ (x : Circuit). x.inputs) c.circuit.view_is) c.loop-input.leads c.loop-input.input-index c.loop-input-test.true
    c.loop-input.invariant

pub returns : goal.returns
returns c =
    let same : c.deref-input-items.result.now ≡ c.args.circuit.now.inputs = c.deref-input-items.ensures.value ∙ ap (λ (x : Circuit). x.inputs) c.circuit.view_is in
    marked_all c.args.circuit.now c.loop-input.leads c.loop-input.input-index
    (subst (λ (xs : List ℕ). length xs ≤ c.loop-input.input-index) same c.loop-input-test.false) c.loop-input.invariant
