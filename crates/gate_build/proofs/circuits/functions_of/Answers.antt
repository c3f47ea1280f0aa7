use Rattle.std.proofs.Common.{◌≡◌, ◌+◌, sym, ap, ◌∙◌, arith}
use Rattle.gate_build.specs.Table.{AllBuilt, first_gate, gates_from, latches_for, latches_of, nexts_of, outputs_of}
use Rattle.gate_build.proofs.Made.{nexts-made, outputs-made}
use Rattle.gate_build.proofs.circuits.functions_of.Goals as goal

pub returns : goal.returns
returns c =
    let n : c.reads-reads.result ≡ c.args.machine.now.reads = c.reads-reads.ensures.value in
    let l : c.latches_for-latches.result ≡ latches_of c.args.machine.now = c.latches_for-latches.ensures.value ∙ ap latches_for c.size.ensures.value in
    let first : c.reads-reads.result + c.latches_for-latches.result + 1 ≡ first_gate c.args.machine.now = omega (arith, n, l) in
    let nexts : nexts_of c.args.machine.now ≡ record { gates = c.all.new.gates.keys; literals = c.in_ok-nexts.nexts.items } =
    nexts-made c.args.machine.now c.latches_for-latches.result c.writes.result c.new-gates.result.keys c.all.new.gates.keys c.all-2.new.gates.keys c.in_ok-nexts.nexts.items c.in_ok-outputs.outputs.items
    c.new-gates.ensures.empty l c.writes.ensures.value c.in_ok-nexts.ensures.value c.in_ok-outputs.ensures.value in
    let outputs : outputs_of c.args.machine.now ≡ record { gates = c.all-2.new.gates.keys; literals = c.in_ok-outputs.outputs.items } =
    outputs-made c.args.machine.now c.latches_for-latches.result c.writes.result c.new-gates.result.keys c.all.new.gates.keys c.all-2.new.gates.keys c.in_ok-nexts.nexts.items c.in_ok-outputs.outputs.items
    c.new-gates.ensures.empty l c.writes.ensures.value c.in_ok-nexts.ensures.value c.in_ok-outputs.ensures.value in
    record {
      nexts = ap (λ (b : AllBuilt). b.literals) (sym nexts);
      outputs = ap (λ (b : AllBuilt). b.literals) (sym outputs);
      gates = c.in_ok-made.ensures ∙ ap (λ k. gates_from k c.as_slice.result.now) first
          ∙ ap (gates_from (first_gate c.args.machine.now)) (c.as_slice.ensures.keys ∙ ap (λ (b : AllBuilt). b.gates) (sym outputs));
    }
