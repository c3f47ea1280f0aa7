-- What machines owe to one thing that is wanted they owe to another one with the same names, kind and truth.
use Rattle.std.proofs.Common.{ℕ, length, sym, ap, ◌∙◌, true≢false}
use Rattle.std_lemmas.proofs.Lists.{as_many}
use Rattle.letters_and_lassos.specs.declared.kinds.Side.TheVariants.{System}
use Rattle.letters_and_lassos.specs.Kinds.{other_kind}
use Rattle.machine_model.specs.Machine.{MachineModel}
use Rattle.aiger_text.specs.Circuit.{Circuit, HasStates}
use Rattle.aiger_text.specs.CircuitType.{IsCircuit}
use Rattle.circuit_machines.specs.Laws.{CircuitsAreMachines, HasMachine}
use Rattle.limit_laws.specs.Taken.{IsSameWanted}
use Rattle.satisfaction.specs.Wanted.{Wanted}
use Rattle.satisfaction.specs.Satisfaction.{CanLose, CircuitDefeats, CircuitSatisfies, Defeats, EachCanLose, IsEnvironmentFor, IsSystemFor, NoneSatisfies, Satisfies}

pub back : (x y : Wanted) → IsSameWanted x y → IsSameWanted y x
back x y same = record {
  inputs = sym same.inputs;
  outputs = sym same.outputs;
  kind_is = sym same.kind_is;
  truth = λ w ring. sym (same.truth w ring);
}

module _ (x y : Wanted) (same : IsSameWanted x y) where
  system_for : (m : MachineModel) → IsSystemFor x m → IsSystemFor y m
  system_for m is = record {
    machine = is.machine;
    kind = is.kind ∙ same.kind_is;
    reads = is.reads ∙ ap length same.inputs;
    writes = is.writes ∙ ap length same.outputs;
  }

  environment_for : (e : MachineModel) → IsEnvironmentFor x e → IsEnvironmentFor y e
  environment_for e is = record {
    machine = is.machine;
    kind = is.kind ∙ ap other_kind same.kind_is;
    reads = is.reads ∙ ap length same.outputs;
    writes = is.writes ∙ ap length same.inputs;
  }

  pub satisfies : (m : MachineModel) → Satisfies x m → Satisfies y m
  satisfies m is = record {
    system = system_for m is.system;
    means = λ w run. sym (same.truth w run.1.ring) ∙ is.means w run;
  }

  pub can_lose : (e : MachineModel) → CanLose x e → CanLose y e
  can_lose e is = record {
    word = is.word;
    run = is.run;
    means = sym (same.truth is.word is.run.1.ring) ∙ is.means;
  }

module _ (x y : Wanted) (same : IsSameWanted x y) where
  pub defeats : (e : MachineModel) → Defeats x e → Defeats y e
  defeats e is = record {
    environment = environment_for x y same e is.environment;
    plays = λ m system. is.plays m (system_for y x (back x y same) m system);
    loses = λ m w system play. sym (same.truth w play.of_system.1.ring) ∙ is.loses m w (system_for y x (back x y same) m system) play;
  }

  pub none_satisfies : (k : ℕ) → NoneSatisfies x k → NoneSatisfies y k
  none_satisfies k none m size is = none m size (satisfies y x (back x y same) m is)

  pub each_can_lose : (k : ℕ) → EachCanLose x k → EachCanLose y k
  each_can_lose k each e size environment = can_lose x y same e (each e size (environment_for y x (back x y same) e environment))

  -- no circuit defeats where a machine satisfies
  pub machine_and_circuit : (m : MachineModel) (c : Circuit) → Satisfies x m → CircuitDefeats y c → ⊥
  machine_and_circuit m c is defeat =
      let system : IsSystemFor y m = system_for x y same m is.system in
      let played = defeat.plays m system in
      true≢false (sym (is.means played.0 played.1.of_system) ∙ same.truth played.0 played.1.of_system.1.ring ∙ defeat.loses m played.0 system played.1)

module _ (machines : CircuitsAreMachines) (x y : Wanted) (same : IsSameWanted x y) (n : ℕ) (c : Circuit) (circuit : IsCircuit c) (states : HasStates c n) where
  system_of : (owes : CircuitSatisfies y c) (has : HasMachine y.kind c n) → IsSystemFor y has.machine
  system_of owes has = record {
    machine = has.is_machine;
    kind = has.kind_is;
    reads = has.reads ∙ as_many c.input_names y.inputs (length c.inputs) circuit.input_places owes.inputs;
    writes = has.writes ∙ as_many c.output_names y.outputs (length c.outputs) circuit.output_places owes.outputs;
  }

  -- no machine defeats where a circuit satisfies
  pub circuit_and_machine : (e : MachineModel) → CircuitSatisfies y c → Defeats x e → ⊥
  circuit_and_machine e owes defeat =
      let has : HasMachine y.kind c n = machines y.kind c n circuit owes.kind states in
      let system : IsSystemFor x has.machine = system_for y x (back x y same) has.machine (system_of owes has) in
      let played = defeat.plays has.machine system in
      let run = (has.runs.runs System played.0).1 played.1.of_system in
      true≢false (sym (owes.means played.0 run) ∙ sym (same.truth played.0 played.1.of_system.1.ring) ∙ defeat.loses has.machine played.0 system played.1)
