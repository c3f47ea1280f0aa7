-- The numbers of a circuit's signals, where its counts and names were found good.
use Rattle.std.proofs.Common.{◌≡◌, ◌<◌, None, List, length, refl, sym, ◌∙◌, arith}
use Rattle.std.specs.Prelude.{All}
use Rattle.std.proofs.lemmas.Slice.Zip.{AllZip-long}
use Rattle.letters_and_lassos.specs.declared.kinds.Side.TheVariants.{System}
use Rattle.aiger_text.specs.CircuitFile.{File}
use Rattle.aiger_text.specs.CircuitType.{IsCircuit}
use Rattle.annot_check.specs.declared.pairs.Pair.{Pair}
use Rattle.annot_check.specs.Causes.{CanBeChecked}
use Rattle.circuit_names.specs.Names.{IsNameIfAny}
use Rattle.circuit_names.proofs.Fitting.{fits}
use Rattle.circuit_check.specs.Duty.{IsReady, Owed}
use Rattle.circuit_check.specs.FirstBad.{names_line}

module _ (owed : Owed) (file : File) (kept : IsCircuit file.circuit) where
  pub counted : names_line owed file ≡ None → (length file.circuit.inputs ≡ length owed.names.inputs) × (length file.circuit.outputs ≡ length owed.names.outputs)
  counted none =
      let fit = fits owed.names System file none in (
        sym kept.input_places ∙ sym (AllZip-long IsNameIfAny file.circuit.input_names owed.names.inputs fit.inputs),
        sym kept.output_places ∙ sym (AllZip-long IsNameIfAny file.circuit.output_names owed.names.outputs fit.outputs),
      )

  pub few_inputs : IsReady owed → names_line owed file ≡ None → length file.circuit.inputs < 17
  few_inputs ready none =
      let same : length file.circuit.inputs ≡ length owed.names.inputs = (counted none).0 in
      let few : length owed.names.inputs < 17 = ready.few_inputs in
      omega (arith, same, few)

  -- the pairs of an annotation can be checked
  pub can_be_checked : (pairs : List Pair) → IsReady owed → names_line owed file ≡ None → All (λ (pair : Pair). length pair.code ≡ length file.circuit.latches) pairs
      → CanBeChecked file.circuit (length file.circuit.inputs) pairs
  can_be_checked pairs ready none codes =
      let same : length file.circuit.outputs ≡ length owed.names.outputs = (counted none).1 in
      let few : length owed.names.outputs < 17 = ready.few_outputs in
      record { reads = refl; few_inputs = few_inputs ready none; few_outputs = omega (arith, same, few); codes = codes }
