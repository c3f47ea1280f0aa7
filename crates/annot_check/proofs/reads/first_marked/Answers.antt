use Rattle.std.proofs.Common.{◌≡◌, ◌<◌, ◌≤◌, true, get_or, List, length, ℕ, ap, subst, ◌∙◌}
use Rattle.aiger_text.specs.Circuit.{Circuit}
use Rattle.aiger_text.specs.CircuitType.{IsCircuit}
use Rattle.annot_check.specs.Marks.{marked}
use Rattle.annot_check.proofs.MarkLemmas.{first_there, none_there, output_rooms}
use Rattle.annot_check.proofs.reads.first_marked.Goals as goal

pub bounds-leads-output : goal.bounds-leads-output
bounds-leads-output c =
    output_rooms c.args.circuit.now (subst IsCircuit c.circuit.view_is c.circuit.invariant.0) c.deref-output-items.result.now
    (c.deref-output-items.ensures.value ∙ ap (λ (x : Circuit). x.outputs) c.circuit.view_is) c.args.leads.now c.requires.sound.size c.loop-place.place c.loop-place-test.true

pub returns-then-leads-output : goal.returns-then-leads-output
returns-then-leads-output c =
    let same : c.deref-output-items.result.now ≡ c.args.circuit.now.outputs = c.deref-output-items.ensures.value ∙ ap (λ (x : Circuit). x.outputs) c.circuit.view_is in
    first_there c.args.circuit.now c.args.leads.now c.requires.sound c.requires.closed c.loop-place.place
    (subst (λ (xs : List ℕ). c.loop-place.place < length xs) same c.loop-place-test.true)
    (subst (λ (xs : List ℕ). marked c.args.leads.now (get_or xs c.loop-place.place 0) ≡ true) same c.if-leads-output.true)
    c.loop-place.invariant

pub returns : goal.returns
returns c =
    let same : c.deref-output-items.result.now ≡ c.args.circuit.now.outputs = c.deref-output-items.ensures.value ∙ ap (λ (x : Circuit). x.outputs) c.circuit.view_is in
    none_there c.args.circuit.now c.args.leads.now c.requires.sound c.requires.closed c.loop-place.place
    (subst (λ (xs : List ℕ). length xs ≤ c.loop-place.place) same c.loop-place-test.false) c.loop-place.invariant
