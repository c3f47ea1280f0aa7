-- A circuit's names make no difference to its runs, to its kind and to what it keeps.
use Rattle.std.proofs.Common.{◌≡◌, ℕ, List, [], ◌∷◌, length, suc, refl, ap, sym, ◌∙◌}
use Rattle.std.specs.Prelude.{Some, map}
use Rattle.letters_and_lassos.specs.declared.kinds.Kind.{Kind}
use Rattle.letters_and_lassos.specs.declared.kinds.Kind.TheVariants.{Mealy, Moore}
use Rattle.letters_and_lassos.specs.declared.kinds.Side.{Side}
use Rattle.letters_and_lassos.specs.declared.kinds.Side.TheVariants.{System, Environment}
use Rattle.letters_and_lassos.specs.Word.{Word}
use Rattle.aiger_text.specs.Circuit.{Circuit, IsCircuitOfKind, IsCircuitRun, Valuation}
use Rattle.aiger_text.specs.CircuitType.{IsCircuit}
use Rattle.verify_answer.specs.Verified.{HasSignals, named_as}

length_named : (names : List (List ℕ)) → length (map Some names) ≡ length names
length_named [] = refl
length_named (n ∷ ns) = ap suc (length_named ns)

module _ (inputs outputs : List (List ℕ)) (c : Circuit) where
  pub run_unnamed : (side : Side) (w : Word) (values : ℕ → Valuation) → IsCircuitRun side (named_as inputs outputs c) w values → IsCircuitRun side c w values
  run_unnamed System w values run = record { lasso = run.lasso; resets = run.resets; steps = run.steps; gates = run.gates; reads = run.reads; writes = run.writes }
  run_unnamed Environment w values run = record { lasso = run.lasso; resets = run.resets; steps = run.steps; gates = run.gates; reads = run.reads; writes = run.writes }

  pub kind_named : (kind : Kind) → IsCircuitOfKind kind c → IsCircuitOfKind kind (named_as inputs outputs c)
  kind_named Mealy of_kind = tt
  kind_named Moore of_kind = record {
    same_outputs = λ v w in_v in_w i k run_v run_w less_i less_k same.
        of_kind.same_outputs v w in_v in_w i k (run_unnamed System v in_v run_v) (run_unnamed System w in_w run_w) less_i less_k same;
  }

  pub circuit_named : IsCircuit c → HasSignals inputs outputs c → IsCircuit (named_as inputs outputs c)
  circuit_named is signals = record {
    room = is.room;
    definable = λ k x less. let d = is.definable k x less in record { even = d.even; a_variable = d.a_variable; in_range = d.in_range };
    once = is.once;
    all_defined = λ k x less. let d = is.all_defined k x less in record { in_range = d.in_range; defined = d.defined };
    no_cycle = is.no_cycle;
    input_places = length_named inputs ∙ sym signals.input_count;
    output_places = length_named outputs ∙ sym signals.output_count;
  }
