use Rattle.std.proofs.Common.{◌≡◌, ◌+◌, ◌≤◌, length, sym, ap, subst, ◌∙◌, arith}
use Rattle.std.proofs.lemmas.Result.{IfOk-weaker}
use Rattle.machine_model.specs.Machine.{size_of}
use Rattle.aiger_text.specs.Circuit.{Circuit}
use Rattle.aiger_text.specs.CircuitType.{AreSorted, IsCircuit}
use Rattle.gate_build.specs.Table.{circuit_of, latches_for, latches_of, latches_with, literals_from, outputs_of}
use Rattle.gate_build.proofs.Whole.{is_circuit, sorted, few_latches, nexts_good}
use Rattle.gate_build.proofs.Bounds.{few_variables}
use Rattle.gate_build.proofs.Made.{circuit-made, length-made}
use Rattle.gate_build.proofs.circuits.put_together.Goals as goal
use Rattle.gate_build.proofs.circuits.put_together.Goals.{After-len, In_ok-names-2}

-- how many gates there are
few_gates : (c : After-len) → c.len.result ≤ 67562
few_gates c =
    let few : c.args.machine.now.reads + latches_of c.args.machine.now + length (outputs_of c.args.machine.now).gates ≤ 67562 =
    few_variables c.args.machine.now c.args.read_names.now c.args.write_names.now c.requires.reads c.requires.writes c.requires.small in
    omega (arith, few, length-made c.args.machine.now c.args.functions c.requires.functions, c.len.ensures, c.args.functions.gates.ok.0)

pub overflow_cast-len : goal.overflow_cast-len
overflow_cast-len c = let few : c.len.result ≤ 67562 = few_gates (goal.at.overflow_cast-len c).After-len in omega (arith, few)

pub overflow_add-reads-2 : goal.overflow_add-reads-2
overflow_add-reads-2 c =
    let few : c.len.result ≤ 67562 = few_gates (goal.at.overflow_add-reads-2 c).After-len in
    let reads : c.args.machine.now.reads ≤ 8 = c.requires.small.reads in
    omega (arith, few, reads, c.reads-reads.ensures.value, c.latches_for-latches.ensures.few)

pub latch_list-requires : goal.latch_list-requires
latch_list-requires c =
    let reads : c.args.machine.now.reads ≤ 8 = c.requires.small.reads in
    let latches : latches_of c.args.machine.now ≤ 3 = few_latches (size_of c.args.machine.now) in
    let nexts : length c.deref.result.now ≡ latches_of c.args.machine.now =
    ap length (c.deref.ensures.value ∙ c.requires.functions.nexts) ∙ (nexts_good c.args.machine.now c.args.read_names.now c.args.write_names.now c.requires.reads c.requires.writes).places in
    omega (arith, reads, latches, nexts, c.reads-reads.ensures.value)

-- the circuit of the parts that were made
abbrev parts : In_ok-names-2 → Circuit
parts c = record {
  variables = c.reads-reads.result + c.latches_for-latches.result + c.len.result;
  inputs = c.in_ok-literals.field-0.items;
  latches = c.in_ok-latch_list.field-0.items;
  outputs = c.args.functions.outputs.items;
  gates = c.args.functions.gates.items;
  input_names = c.in_ok-names.field-0.items;
  output_names = c.in_ok-names-2.field-0.items;
}

whole : (c : In_ok-names-2) → parts c ≡ circuit_of c.args.machine.now c.args.read_names.now c.args.write_names.now
whole c =
    let n : c.reads-reads.result ≡ c.args.machine.now.reads = c.reads-reads.ensures.value in
    let l : c.latches_for-latches.result ≡ latches_of c.args.machine.now = c.latches_for-latches.ensures.value ∙ ap latches_for c.size.ensures.value in
    circuit-made c.args.machine.now c.args.read_names.now c.args.write_names.now c.args.functions c.requires.functions
    (c.reads-reads.result + c.latches_for-latches.result + c.len.result) c.in_ok-literals.field-0.items c.in_ok-latch_list.field-0.items c.in_ok-names.field-0.items c.in_ok-names-2.field-0.items
    (omega (arith, n, l, length-made c.args.machine.now c.args.functions c.requires.functions, c.len.ensures, c.args.functions.gates.ok.0))
    (c.in_ok-literals.ensures ∙ ap (literals_from 0) n)
    (c.in_ok-latch_list.ensures ∙ ap (λ k. latches_with k c.deref.result.now) n ∙ ap (latches_with c.args.machine.now.reads) c.deref.ensures.value)
    c.in_ok-names.ensures c.in_ok-names-2.ensures

pub of_sorted_gates-requires-clause-circuit : goal.of_sorted_gates-requires-clause-circuit
of_sorted_gates-requires-clause-circuit c =
    subst (λ (x : Circuit). IsCircuit x) (sym (whole (goal.at.of_sorted_gates-requires-clause-circuit c).In_ok-names-2))
    (is_circuit c.args.machine.now c.args.read_names.now c.args.write_names.now c.requires.reads c.requires.writes)

pub of_sorted_gates-requires-clause-sorted : goal.of_sorted_gates-requires-clause-sorted
of_sorted_gates-requires-clause-sorted c =
    subst (λ (x : Circuit). AreSorted x.gates) (sym (whole (goal.at.of_sorted_gates-requires-clause-sorted c).In_ok-names-2))
    (sorted c.args.machine.now c.args.read_names.now c.args.write_names.now c.requires.reads c.requires.writes)

pub returns : goal.returns
returns c =
    let a = (goal.at.returns c).In_ok-names-2 in
    IfOk-weaker c.of_sorted_gates.result (λ x. x ≡ parts a) (λ x. x ≡ circuit_of c.args.machine.now c.args.read_names.now c.args.write_names.now) (λ x e. e ∙ whole a) c.of_sorted_gates.ensures
