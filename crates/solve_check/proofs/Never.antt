-- No circuit satisfies what another defeats.
use Rattle.std.proofs.Common.{◌≡◌, ℕ, length, sym, ap, ◌∙◌, true≢false}
use Rattle.std_lemmas.proofs.Lists.{as_many}
use Rattle.letters_and_lassos.specs.declared.kinds.Side.TheVariants.{System}
use Rattle.letters_and_lassos.specs.Word.{HasRing, Word}
use Rattle.aiger_text.specs.Circuit.{Circuit, HasStates}
use Rattle.aiger_text.specs.CircuitType.{IsCircuit}
use Rattle.circuit_machines.specs.Laws.{CircuitsAreMachines, HasMachine}
use Rattle.satisfaction.specs.Wanted.{Wanted}
use Rattle.satisfaction.specs.Satisfaction.{CircuitDefeats, CircuitSatisfies, IsSystemFor}

-- the same signals and kind are wanted, and on each lasso the same is true
pub record AreTheSame (x y : Wanted) : Type 0 where
  pub inputs : x.inputs ≡ y.inputs
  pub outputs : x.outputs ≡ y.outputs
  pub kind : x.kind ≡ y.kind
  pub means : (w : Word) → HasRing w → x.means w ≡ y.means w

module _ (machines : CircuitsAreMachines) (x y : Wanted) (same : AreTheSame x y) (n : ℕ) (c : Circuit) (circuit : IsCircuit c) (states : HasStates c n) where
  system_of : (owes : CircuitSatisfies x c) (has : HasMachine x.kind c n) → IsSystemFor y has.machine
  system_of owes has = record {
    machine = has.is_machine;
    kind = has.kind_is ∙ same.kind;
    reads = has.reads ∙ as_many c.input_names x.inputs (length c.inputs) circuit.input_places owes.inputs ∙ ap length same.inputs;
    writes = has.writes ∙ as_many c.output_names x.outputs (length c.outputs) circuit.output_places owes.outputs ∙ ap length same.outputs;
  }

  -- the play of its machine with the other circuit is a run lasso of both
  pub never_both : (e : Circuit) → CircuitSatisfies x c → CircuitDefeats y e → ⊥
  never_both e owes defeats =
      let has : HasMachine x.kind c n = machines x.kind c n circuit owes.kind states in
      let system : IsSystemFor y has.machine = system_of owes has in
      let played = defeats.plays has.machine system in
      let run = (has.runs.runs System played.0).1 played.1.of_system in
      true≢false (sym (owes.means played.0 run) ∙ same.means played.0 run.1.lasso.ring ∙ defeats.loses has.machine played.0 system played.1)
