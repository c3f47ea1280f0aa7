-- The signals of a circuit whose counts and names were found good.
use Rattle.std.proofs.Common.{◌≡◌, ◌≤◌, None, List, length, sym, ◌∙◌, arith}
use Rattle.std.specs.Prelude.{All}
use Rattle.std.proofs.lemmas.Slice.Zip.{AllZip-long}
use Rattle.letters_and_lassos.specs.declared.kinds.Side.TheVariants.{System}
use Rattle.aiger_text.specs.CircuitFile.{File}
use Rattle.aiger_text.specs.CircuitType.{IsCircuit}
use Rattle.annot_check.specs.declared.pairs.Pair.{Pair}
use Rattle.annot_check.specs.Causes.{CanBeChecked}
use Rattle.document_check.specs.Facts.{Facts}
use Rattle.circuit_names.specs.Lines.{stated_line}
use Rattle.document_check.specs.Facts.{names_in}
use Rattle.document_check.specs.FirstBad as facts_lines
use Rattle.circuit_names.specs.Names.{IsNameIfAny, Names}
use Rattle.circuit_names.proofs.Fitting.{fits}
use Rattle.verify_answer.specs.Reply.{AreReady}
use Rattle.verify_answer.specs.Verified.{HasSignals}

module _ (names : Names) (file : File) (kept : IsCircuit file.circuit) where
  pub has_signals : stated_line names System file ≡ None → HasSignals names.inputs names.outputs file.circuit
  has_signals none =
      let fit = fits names System file none in
      record {
        input_count = sym kept.input_places ∙ sym (AllZip-long IsNameIfAny file.circuit.input_names names.inputs fit.inputs);
        output_count = sym kept.output_places ∙ sym (AllZip-long IsNameIfAny file.circuit.output_names names.outputs fit.outputs);
        input_names = fit.inputs;
        output_names = fit.outputs;
      }

-- within the limits, a list of pairs for so many latches can be checked
pub can_be_checked : (facts : Facts) (file : File) → IsCircuit file.circuit → (pairs : List Pair) → AreReady facts → facts_lines.stated_line facts System file ≡ None
    → All (λ (pair : Pair). length pair.code ≡ length file.circuit.latches) pairs → CanBeChecked file.circuit (length facts.inputs) pairs
can_be_checked facts file kept pairs ready none codes =
    let signals = has_signals (names_in facts) file kept none in
    let reads : length file.circuit.inputs ≡ length facts.inputs = signals.input_count in
    let writes : length file.circuit.outputs ≡ length facts.outputs = signals.output_count in
    let few_reads : facts.system.inputs ≤ 8 = ready.problem.inputs in
    let few_writes : facts.system.outputs ≤ 8 = ready.problem.outputs in
    let read_names : facts.system.inputs ≡ length facts.inputs = ready.inputs in
    let written_names : facts.system.outputs ≡ length facts.outputs = ready.outputs in
    record { reads = reads; few_inputs = omega (arith, few_reads, read_names); few_outputs = omega (arith, few_writes, written_names, writes); codes = codes }
