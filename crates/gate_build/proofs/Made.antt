-- The circuit from its parts as the code makes them.
use Rattle.std.proofs.Common.{◌≡◌, ℕ, ◌+◌, List, [], length, Some, Option, sym, ap, ◌∙◌}
use Rattle.std.specs.Prelude.{map}
use Rattle.std.proofs.lemmas.List.FromFn.{length-map-range_with_len}
use Rattle.machine_model.specs.Machine.{MachineModel}
use Rattle.aiger_text.specs.declared.circuits.Latch.{Latch}
use Rattle.aiger_text.specs.Circuit.{Circuit}
use Rattle.gate_build.specs.declared.gates.Operands.{Operands}
use Rattle.gate_build.specs.declared.circuits.Functions.{Functions}
use Rattle.gate_build.specs.Bits.{AreFunctionsOf}
use Rattle.gate_build.specs.Table.{AllBuilt, all_of, circuit_of, first_gate, gate_from, latches_of, latches_with, literals_from, next_bit, nexts_of, outputs_of, written_bit}

module _ (m : MachineModel) (latches writes : ℕ) (keys0 keys1 keys2 : List Operands) (nexts outputs : List ℕ)
    (none : keys0 ≡ []) (is_latches : latches ≡ latches_of m) (is_writes : writes ≡ m.writes)
    (is_nexts : all_of m (next_bit m) latches keys0 ≡ record { gates = keys1; literals = nexts })
    (is_outputs : all_of m (written_bit m) writes keys1 ≡ record { gates = keys2; literals = outputs }) where
  pub nexts-made : nexts_of m ≡ record { gates = keys1; literals = nexts }
  nexts-made = ap (λ n. all_of m (next_bit m) n []) (sym is_latches) ∙ ap (all_of m (next_bit m) latches) (sym none) ∙ is_nexts

  pub outputs-made : outputs_of m ≡ record { gates = keys2; literals = outputs }
  outputs-made = ap (λ (b : AllBuilt). all_of m (written_bit m) m.writes b.gates) nexts-made ∙ ap (λ n. all_of m (written_bit m) n keys1) (sym is_writes) ∙ is_outputs

pub circuit-made : (m : MachineModel) (read_names write_names : List (List ℕ)) (f : Functions) → AreFunctionsOf m f
    → (variables : ℕ) (inputs : List ℕ) (latches : List Latch) (in_names out_names : List (Option (List ℕ)))
    → variables ≡ m.reads + latches_of m + length (outputs_of m).gates → inputs ≡ literals_from 0 m.reads → latches ≡ latches_with m.reads f.nexts.items
    → in_names ≡ map (λ name. Some name) read_names → out_names ≡ map (λ name. Some name) write_names
    → (let c : Circuit = record { variables = variables; inputs = inputs; latches = latches; outputs = f.outputs.items; gates = f.gates.items; input_names = in_names; output_names = out_names } in c)
    ≡ circuit_of m read_names write_names
circuit-made m read_names write_names f made variables inputs latches in_names out_names v i l x y =
    let d : latches ≡ latches_with m.reads (nexts_of m).literals = l ∙ ap (latches_with m.reads) made.nexts in
    λ j. record { variables = v j; inputs = i j; latches = d j; outputs = made.outputs j; gates = made.gates j; input_names = x j; output_names = y j }

pub length-made : (m : MachineModel) (f : Functions) → AreFunctionsOf m f → length f.gates.items ≡ length (outputs_of m).gates
length-made m f made = ap length made.gates ∙ length-map-range_with_len (gate_from (first_gate m) (outputs_of m).gates) 0 (length (outputs_of m).gates)
