-- A circuit on whose run lassos its side's form is never true does what the side owes.
use Rattle.std.proofs.Common.{◌≡◌, sym, ◌∙◌}
use Rattle.std.specs.Prelude.{List, Some, map}
use Rattle.std.proofs.lemmas.Bool.{not-false}
use Rattle.letters_and_lassos.specs.declared.kinds.Side.TheVariants.{System, Environment}
use Rattle.letters_and_lassos.specs.Kinds.{other_kind}
use Rattle.ltl_formula.specs.declared.nodes.FormulaId.{FormulaId}
use Rattle.ltl_formula.specs.declared.nodes.Node.{Node}
use Rattle.aiger_text.specs.Circuit.{Circuit, IsCircuitOfKind}
use Rattle.aiger_text.specs.CircuitType.{IsCircuit}
use Rattle.circuit_laws.specs.Laws.{LosingCircuitsDefeat}
use Rattle.named_annotation.specs.Laws.{IsNeverTrue}
use Rattle.satisfaction.specs.Wanted.{Wanted}
use Rattle.satisfaction.specs.Satisfaction.{CircuitDefeats, CircuitSatisfies}
use Rattle.solve_ground.specs.SolveText.{IsFormOf}

-- a circuit of the kind, with these names
module _ (nodes : List Node) (x : Wanted) (form : FormulaId) (c : Circuit) where
  pub satisfies : IsFormOf System nodes x form → IsNeverTrue System c nodes form → IsCircuitOfKind x.kind c
      → c.input_names ≡ map Some x.inputs → c.output_names ≡ map Some x.outputs → CircuitSatisfies x c
  satisfies is never kind inputs outputs = record {
    kind = kind;
    inputs = inputs;
    outputs = outputs;
    means = λ w run. not-false (x.means w) (sym (is.says w run.1.lasso.ring) ∙ never.never w run.0 run.1);
  }

  pub defeats : LosingCircuitsDefeat → IsCircuit c → IsFormOf Environment nodes x form → IsNeverTrue Environment c nodes form
      → IsCircuitOfKind (other_kind x.kind) c → c.input_names ≡ map Some x.outputs → c.output_names ≡ map Some x.inputs → CircuitDefeats x c
  defeats losing circuit is never kind inputs outputs =
      (losing x c (record { circuit = circuit; kind = kind; inputs = inputs; outputs = outputs })).0
      (λ w run. sym (is.says w run.1.lasso.ring) ∙ never.never w run.0 run.1)
