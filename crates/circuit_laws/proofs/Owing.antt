use Rattle.std.proofs.Common.{◌≡◌, ℕ, ◌<◌, false, length, refl, sym, ap, subst, ◌∙◌}
use Rattle.satisfaction.proofs.Owed.{not_the_other}
use Rattle.std_lemmas.proofs.Lists.{as_many}
use Rattle.letters_and_lassos.specs.declared.kinds.Kind.{Kind}
use Rattle.letters_and_lassos.specs.declared.kinds.Kind.TheVariants.{Mealy, Moore}
use Rattle.letters_and_lassos.specs.declared.kinds.Side.TheVariants.{Environment, System}
use Rattle.letters_and_lassos.specs.Kinds.{other_kind}
use Rattle.letters_and_lassos.specs.Word.{Word}
use Rattle.machine_model.specs.Machine.{MachineModel, size_of}
use Rattle.machine_model.specs.Run.{ArePartners, IsPlay}
use Rattle.machine_model.proofs.Tables.{size_pos}
use Rattle.side_automata.specs.Laws.{EveryPairHasAPlay}
use Rattle.side_automata.proofs.Repeats.{is_machine, is_play, repeats}
use Rattle.aiger_text.specs.Circuit.{Circuit, HasStates}
use Rattle.aiger_text.specs.CircuitType.{IsCircuit}
use Rattle.gate_build.specs.Laws.{IsRunOfCircuit}
use Rattle.satisfaction.specs.Wanted.{Wanted}
use Rattle.satisfaction.specs.Satisfaction.{CircuitDefeats, CircuitSatisfies, Defeats, IsSystemFor, Satisfies}
use Rattle.satisfaction.specs.Laws.{DefeatingCannotLose}
use Rattle.circuit_machines.specs.Laws.{CircuitsAreMachines, CircuitsHaveStates, HasMachine}
use Rattle.circuit_laws.specs.Laws.{IsCounterCircuit, LosingCircuitsDefeat, NoMachineNoCircuit, NoMachineNoDefeat, NoSmallCircuitDefeats, NoSmallCircuitSatisfies}

-- a machine of n states that satisfies, or defeats
record SomeSatisfies (x : Wanted) (n : ℕ) : Type 0 where
  machine : MachineModel
  size : size_of machine ≡ n
  satisfies : Satisfies x machine

record SomeDefeats (x : Wanted) (n : ℕ) : Type 0 where
  machine : MachineModel
  size : size_of machine ≡ n
  defeats : Defeats x machine

module _ (machines : CircuitsAreMachines) (x : Wanted) (n : ℕ) (c : Circuit) (circuit : IsCircuit c) (states : HasStates c n) where
  of_system : CircuitSatisfies x c → SomeSatisfies x n
  of_system owes =
      let has : HasMachine x.kind c n = machines x.kind c n circuit owes.kind states in
      record {
        machine = has.machine;
        size = has.size;
        satisfies = record {
          system = record {
            machine = has.is_machine;
            kind = has.kind_is;
            reads = has.reads ∙ as_many c.input_names x.inputs (length c.inputs) circuit.input_places owes.inputs;
            writes = has.writes ∙ as_many c.output_names x.outputs (length c.outputs) circuit.output_places owes.outputs;
          };
          means = λ w run. owes.means w ((has.runs.runs System w).1 run);
        };
      }

  of_environment : CircuitDefeats x c → SomeDefeats x n
  of_environment owes =
      let has : HasMachine (other_kind x.kind) c n = machines (other_kind x.kind) c n circuit owes.kind states in
      record {
        machine = has.machine;
        size = has.size;
        defeats = record {
          environment = record {
            machine = has.is_machine;
            kind = has.kind_is;
            reads = has.reads ∙ as_many c.input_names x.outputs (length c.inputs) circuit.input_places owes.inputs;
            writes = has.writes ∙ as_many c.output_names x.inputs (length c.outputs) circuit.output_places owes.outputs;
          };
          plays = λ m system.
              let played = owes.plays m system in
              (played.0, record { of_system = played.1.of_system; of_environment = (has.runs.runs Environment played.0).0 played.1.of_circuit });
          loses = λ m w system play.
              owes.loses m w system (record { of_system = play.of_system; of_circuit = (has.runs.runs Environment w).1 play.of_environment });
        };
      }

pub no_machine_no_circuit : CircuitsAreMachines → NoMachineNoCircuit
no_machine_no_circuit machines x n none c circuit states owes =
    let some : SomeSatisfies x n = of_system machines x n c circuit states owes in
    none some.machine some.size some.satisfies

pub no_small_circuit_satisfies : CircuitsAreMachines → NoSmallCircuitSatisfies
no_small_circuit_satisfies machines x n none k few c circuit states owes =
    let some : SomeSatisfies x k = of_system machines x k c circuit states owes in
    let pos : 0 < size_of some.machine = size_pos some.machine some.satisfies.system.machine.shape in
    none k (subst (λ (s : ℕ). 0 < s) some.size pos) few some.machine some.size some.satisfies

pub no_machine_no_defeat : CircuitsAreMachines → DefeatingCannotLose → NoMachineNoDefeat
no_machine_no_defeat machines cannot_lose x n each c circuit states owes =
    let some : SomeDefeats x n = of_environment machines x n c circuit states owes in
    cannot_lose x some.machine some.defeats (each some.machine some.size some.defeats.environment)

pub no_small_circuit_defeats : CircuitsAreMachines → DefeatingCannotLose → NoSmallCircuitDefeats
no_small_circuit_defeats machines cannot_lose x n each k few c circuit states owes =
    let some : SomeDefeats x k = of_environment machines x k c circuit states owes in
    let pos : 0 < size_of some.machine = size_pos some.machine some.defeats.environment.machine.shape in
    cannot_lose x some.machine some.defeats
    (each k (subst (λ (s : ℕ). 0 < s) some.size pos) few some.machine some.size some.defeats.environment)

other_twice : (k : Kind) → other_kind (other_kind k) ≡ k
other_twice Mealy = refl
other_twice Moore = refl

module _ (x : Wanted) (c : Circuit) (counter : IsCounterCircuit x c) (n : ℕ) (has : HasMachine (other_kind x.kind) c n) where
  abbrev e : MachineModel
  e = has.machine

  reads_outputs : e.reads ≡ length x.outputs
  reads_outputs = has.reads ∙ as_many c.input_names x.outputs (length c.inputs) counter.circuit.input_places counter.inputs

  writes_inputs : e.writes ≡ length x.inputs
  writes_inputs = has.writes ∙ as_many c.output_names x.inputs (length c.outputs) counter.circuit.output_places counter.outputs

  are_partners : (m : MachineModel) → IsSystemFor x m → ArePartners m e
  are_partners m system = record {
    kinds = λ same. not_the_other x.kind (sym system.kind ∙ same ∙ has.kind_is);
    inputs = system.reads ∙ sym writes_inputs;
    outputs = system.writes ∙ sym reads_outputs;
  }

  defeats : EveryPairHasAPlay → ((w : Word) → IsRunOfCircuit c Environment w → x.means w ≡ false) → CircuitDefeats x c
  defeats every_pair loses = record {
    kind = counter.kind;
    inputs = counter.inputs;
    outputs = counter.outputs;
    plays = λ m system.
        let played : (w : Word) × IsPlay m e w = every_pair m e system.machine has.is_machine (are_partners m system) in
        (played.0, record { of_system = played.1.of_system; of_circuit = (has.runs.runs Environment played.0).1 played.1.of_environment });
    loses = λ m w system play. loses w play.of_circuit;
  }

  -- each run lasso is a play against the machine that repeats it
  each_loses : CircuitDefeats x c → (w : Word) → IsRunOfCircuit c Environment w → x.means w ≡ false
  each_loses owes w run =
      let ran = (has.runs.runs Environment w).0 run in
      let system : IsSystemFor x (repeats e w ran.0 ran.1) = record {
        machine = is_machine e w ran.0 ran.1;
        kind = ap other_kind has.kind_is ∙ other_twice x.kind;
        reads = writes_inputs;
        writes = reads_outputs;
      } in
      owes.loses (repeats e w ran.0 ran.1) w system (record { of_system = (is_play e w ran.0 ran.1).of_system; of_circuit = run })

pub losing_circuits_defeat : CircuitsHaveStates → CircuitsAreMachines → EveryPairHasAPlay → LosingCircuitsDefeat
losing_circuits_defeat have_states machines every_pair x c counter =
    let states : (n : ℕ) × HasStates c n = have_states c counter.circuit in
    let has : HasMachine (other_kind x.kind) c states.0 = machines (other_kind x.kind) c states.0 counter.circuit counter.kind states.1 in
    (defeats x c counter states.0 has every_pair, each_loses x c counter states.0 has)
