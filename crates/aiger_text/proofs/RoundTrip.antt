-- What is written of a circuit states, read back, the circuit.
use Rattle.std.proofs.Common.{◌≡◌, ℕ, ◌+◌, ◌-◌, ◌^◌, ◌<◌, ◌≤◌, Option, Some, None, List, [], ◌∷◌, ◌++◌, length, replicate, refl, sym, ap, subst, ◌∙◌, arith, decimal}
use Rattle.std.specs.Prelude.{map, option_map, Ok}
use Rattle.std.specs.List.{AllZip}
use Rattle.std.proofs.lemmas.List.{append-nil, append_assoc, length-append, length-map}
use Rattle.std.proofs.lemmas.List.Elements.{All-append}
use Rattle.text_limits.specs.declared.TheConstants.{CIRCUIT_VARIABLES}
use Rattle.aiger_text.specs.declared.circuits.Latch.{Latch}
use Rattle.aiger_text.specs.declared.symbols.Named.TheVariants.{AnInput, AnOutput}
use Rattle.aiger_text.specs.Circuit.{Circuit}
use Rattle.aiger_text.specs.CircuitType.{IsCircuit}
use Rattle.aiger_text.specs.CircuitText.{header_line, latch_line, gate_line, name_lines, text_of_lines, circuit_lines, circuit_text, comment_text, IsLatchLine}
use Rattle.aiger_text.specs.CircuitFile.{File, Parts, Names, States, lines_of, ending_from, no_names, circuit_parts, and_then, file_of}
use Rattle.aiger_text.specs.RoundTrip.{IsWritable, StatesOnly, WrittenIsRead, CommentsAreRead, written_file, lines_from, first_name_line}
use Rattle.aiger_text.proofs.Scanning.{HasPiece, has_piece}
use Rattle.aiger_text.proofs.Numbers.{Lacks}
use Rattle.aiger_text.proofs.FormsRead.{is_latch_line}
use Rattle.aiger_text.proofs.BodyRead.{whole, all_known, has_append}
use Rattle.aiger_text.proofs.FileRead.{parts_read}
use Rattle.aiger_text.proofs.NamesRead.{names_read, names-lack, how_many, length-name_lines, lines_from-append}
use Rattle.aiger_text.proofs.ReadingsStated.{comment_read}
use Rattle.aiger_text.proofs.Assembly.{with_ending}
use Rattle.aiger_text.proofs.FileFacts.{files_state_one_thing, faults_state_nothing}

latch_lines_are : (latches : List Latch) → AllZip IsLatchLine latches (map latch_line latches)
latch_lines_are [] = tt
latch_lines_are (latch ∷ latches) = (is_latch_line latch, latch_lines_are latches)

module _ (c : Circuit) (kept : IsCircuit c) (few : length c.outputs < 2 ^ 64) (fits : IsWritable c) (comment : Option (List ℕ)) where
  abbrev input_lines : List (List ℕ)
  input_lines = name_lines AnInput 0 c.input_names

  abbrev output_lines : List (List ℕ)
  output_lines = name_lines AnOutput 0 c.output_names

  abbrev inputs_in : List (Option (List ℕ)) → List ℕ → Names
  inputs_in names lines = record {
    inputs = names;
    outputs = replicate (length c.outputs) None;
    input_lines = lines;
    latch_lines = replicate (length c.latches) 0;
    output_lines = replicate (length c.outputs) 0;
  }

  abbrev outputs_in : List (Option (List ℕ)) → List ℕ → Names
  outputs_in names lines = record {
    inputs = c.input_names;
    outputs = names;
    input_lines = lines_from (first_name_line c) c.input_names;
    latch_lines = replicate (length c.latches) 0;
    output_lines = lines;
  }

  abbrev behind_inputs : ℕ
  behind_inputs = first_name_line c + how_many c.input_names

  abbrev behind_names : ℕ
  behind_names = behind_inputs + how_many c.output_names

  abbrev names : Names
  names = outputs_in c.output_names (lines_from behind_inputs c.output_names)

  small_inputs : 0 + length c.input_names < 2 ^ 64
  small_inputs =
      let room : length c.inputs + (length c.latches + length c.gates) ≤ c.variables = kept.room in
      let size : c.variables ≤ CIRCUIT_VARIABLES = fits.size in
      omega (arith, room, size, kept.input_places)

  small_outputs : 0 + length c.output_names < 2 ^ 64
  small_outputs = omega (arith, few, kept.output_places)

  ending_read : ending_from (no_names (whole c kept fits.size)) (first_name_line c) (input_lines ++ output_lines ++ lines_of (comment_text comment))
      ≡ Ok (record { names = names; line = behind_names; comment = comment })
  ending_read =
      let i : length c.inputs ≡ length c.input_names = sym kept.input_places in
      let o : length c.outputs ≡ length c.output_names = sym kept.output_places in
      let last : HasPiece (lines_of (comment_text comment)) = has_piece (comment_text comment) in
      (λ k. ending_from (inputs_in (replicate (i k) None) (replicate (i k) 0)) (first_name_line c) (append_assoc input_lines output_lines (lines_of (comment_text comment)) k))
      ∙ names_read AnInput inputs_in (λ xs ls. refl) (λ xs ls n place name. refl) [] [] 0 (first_name_line c) c.input_names (output_lines ++ (lines_of (comment_text comment))) refl refl small_inputs fits.input_names
      (has_append output_lines (lines_of (comment_text comment)) last)
      ∙ (λ k. ending_from (outputs_in (replicate (o k) None) (replicate (o k) 0)) behind_inputs (output_lines ++ (lines_of (comment_text comment))))
      ∙ names_read AnOutput outputs_in (λ xs ls. refl) (λ xs ls n place name. refl) [] [] 0 behind_inputs c.output_names (lines_of (comment_text comment)) refl refl small_outputs fits.output_names last
      ∙ comment_read names behind_names comment

  abbrev parts : Parts
  parts = record { draft = whole c kept fits.size; ending = record { names = names; line = behind_names; comment = comment } }

  abbrev bytes : List ℕ
  bytes = circuit_text c ++ comment_text comment

  bytes_are : circuit_text c ++ comment_text comment
      ≡ text_of_lines (header_line c 0 ∷ map decimal c.inputs ++ map latch_line c.latches ++ map decimal c.outputs ++ map gate_line c.gates ++ (input_lines ++ output_lines)) ++ comment_text comment
  bytes_are =
      ap (λ (ls : List (List ℕ)). text_of_lines ls ++ comment_text comment)
      (append_assoc (header_line c 0 ∷ map decimal c.inputs ++ map latch_line c.latches ++ map decimal c.outputs ++ map gate_line c.gates) input_lines output_lines)

  parts_are : circuit_parts (circuit_text c ++ comment_text comment) ≡ Ok parts
  parts_are =
      ap circuit_parts bytes_are
      ∙ parts_read c kept fits.size few 0 (omega arith) (map latch_line c.latches) (latch_lines_are c.latches) (input_lines ++ output_lines)
      (All-append (Lacks 10) input_lines output_lines (names-lack AnInput 0 c.input_names small_inputs fits.input_names) (names-lack AnOutput 0 c.output_names small_outputs fits.output_names)) (comment_text comment)
      ∙ ap (and_then (with_ending (whole c kept fits.size))) ending_read

  lines_count : length (circuit_lines c) + 1 ≡ behind_names
  lines_count =
      let header : List (List ℕ) = header_line c 0 ∷ map decimal c.inputs in
      let a : length (circuit_lines c) ≡ length (header_line c 0 ∷ map decimal c.inputs ++ map latch_line c.latches ++ map decimal c.outputs ++ map gate_line c.gates ++ input_lines) + length output_lines =
      length-append (header_line c 0 ∷ map decimal c.inputs ++ map latch_line c.latches ++ map decimal c.outputs ++ map gate_line c.gates ++ input_lines) output_lines in
      let b : length (header_line c 0 ∷ map decimal c.inputs ++ map latch_line c.latches ++ map decimal c.outputs ++ map gate_line c.gates ++ input_lines)
      ≡ length (header_line c 0 ∷ map decimal c.inputs ++ map latch_line c.latches ++ map decimal c.outputs ++ map gate_line c.gates) + length input_lines =
      length-append (header_line c 0 ∷ map decimal c.inputs ++ map latch_line c.latches ++ map decimal c.outputs ++ map gate_line c.gates) input_lines in
      let d : length (header_line c 0 ∷ map decimal c.inputs ++ map latch_line c.latches ++ map decimal c.outputs ++ map gate_line c.gates)
      ≡ length (header_line c 0 ∷ map decimal c.inputs ++ map latch_line c.latches ++ map decimal c.outputs) + length (map gate_line c.gates) =
      length-append (header_line c 0 ∷ map decimal c.inputs ++ map latch_line c.latches ++ map decimal c.outputs) (map gate_line c.gates) in
      let e : length (header_line c 0 ∷ map decimal c.inputs ++ map latch_line c.latches ++ map decimal c.outputs)
      ≡ length (header_line c 0 ∷ map decimal c.inputs ++ map latch_line c.latches) + length (map decimal c.outputs) =
      length-append (header_line c 0 ∷ map decimal c.inputs ++ map latch_line c.latches) (map decimal c.outputs) in
      let f : length (header_line c 0 ∷ map decimal c.inputs ++ map latch_line c.latches) ≡ length (header_line c 0 ∷ map decimal c.inputs) + length (map latch_line c.latches) =
      length-append (header_line c 0 ∷ map decimal c.inputs) (map latch_line c.latches) in
      let i : length (map decimal c.inputs) ≡ length c.inputs = rw length-map refl in
      let l : length (map latch_line c.latches) ≡ length c.latches = rw length-map refl in
      let o : length (map decimal c.outputs) ≡ length c.outputs = rw length-map refl in
      let g : length (map gate_line c.gates) ≡ length c.gates = rw length-map refl in
      omega (arith, a, b, d, e, f, i, l, o, g, length-name_lines AnInput 0 c.input_names, length-name_lines AnOutput 0 c.output_names)

  name_lines_are : lines_from (first_name_line c) (c.input_names ++ c.output_names) ≡ lines_from (first_name_line c) c.input_names ++ lines_from behind_inputs c.output_names
  name_lines_are = lines_from-append (first_name_line c) c.input_names c.output_names

  abbrev file : File
  file = record (written_file c) { comment_at = option_map (λ text. length (circuit_text c ++ comment_text comment) - length text) comment }

  file_is : file ≡ file_of (length (circuit_text c ++ comment_text comment)) parts
  file_is = λ k. record {
    circuit = c;
    comment_at = option_map (λ text. length (circuit_text c ++ comment_text comment) - length text) comment;
    comment_line = lines_count k;
    name_lines = name_lines_are k;
  }

  states : States (circuit_text c ++ comment_text comment) file
  states = record { parts = parts; lines = parts_are; uses = all_known c kept fits.size; no_cycle = λ k h on. kept.no_cycle _ on; file_is = file_is }

  states_only : StatesOnly (circuit_text c ++ comment_text comment) file
  states_only = record {
    states = states;
    only = λ other is. files_state_one_thing (circuit_text c ++ comment_text comment) other file is states;
    no_fault = λ fault is. faults_state_nothing (circuit_text c ++ comment_text comment) file fault states is;
  }

pub written_is_read : (c : Circuit) → IsCircuit c → length c.outputs < 2 ^ 64 → WrittenIsRead c
written_is_read c kept few fits = subst (λ (bytes : List ℕ). StatesOnly bytes (written_file c)) (append-nil (circuit_text c)) (states_only c kept few fits None)

pub comments_are_read : (c : Circuit) → IsCircuit c → length c.outputs < 2 ^ 64 → CommentsAreRead c
comments_are_read c kept few comment fits =
    let n : length (circuit_text c ++ comment_text (Some comment)) ≡ length (circuit_text c) + length (comment_text (Some comment)) = length-append (circuit_text c) (comment_text (Some comment)) in
    let m : length (comment_text (Some comment)) ≡ length comment + 2 = omega arith in
    let e : length (circuit_text c ++ comment_text (Some comment)) - length comment ≡ length (circuit_text c) + 2 = omega (arith, n, m) in
    subst (λ (at : ℕ). StatesOnly (circuit_text c ++ comment_text (Some comment)) (record (written_file c) { comment_at = Some at })) e (states_only c kept few fits (Some comment))
