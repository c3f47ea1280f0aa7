-- Laws of what machines and circuits owe.
use Rattle.std.specs.Prelude.{◌≡◌, ◌↔◌, true, false, map, Some}
use Rattle.letters_and_lassos.specs.declared.kinds.Side.TheVariants.{System, Environment}
use Rattle.letters_and_lassos.specs.Kinds.{other_kind}
use Rattle.letters_and_lassos.specs.Word.{Word}
use Rattle.ltl_formula.specs.Tree.{Tree}
use Rattle.machine_model.specs.Machine.{MachineModel}
use Rattle.machine_model.specs.Run.{IsRun}
use Rattle.machine_model.specs.Automaton.{AutomatonModel}
use Rattle.machine_model.specs.Accepts.{Accepts, SideAccepts}
use Rattle.aiger_text.specs.Circuit.{Circuit, IsCircuitOfKind}
use Rattle.gate_build.specs.Laws.{HasTheRunsOf}
use Rattle.side_automata.specs.Sides.{AcceptsWhere}
use Rattle.satisfaction.specs.Wanted.{Wanted, Says}
use Rattle.satisfaction.specs.Satisfaction.{IsSystemFor, IsEnvironmentFor, Satisfies, Defeats, CanLose, CircuitSatisfies, CircuitDefeats}

-- the system's side accepts exactly the machines that satisfy
abbrev pub AcceptedSystemsSatisfy : Type 0
AcceptedSystemsSatisfy =
    (x : Wanted) (f : Tree) (a : AutomatonModel) (m : MachineModel) → Says f x → AcceptsWhere false f a → IsSystemFor x m
    → SideAccepts a System m ↔ Satisfies x m

-- the environment's side accepts exactly the machines that defeat every machine of the system, of any size
abbrev pub AcceptedEnvironmentsDefeat : Type 0
AcceptedEnvironmentsDefeat =
    (x : Wanted) (f : Tree) (a : AutomatonModel) (e : MachineModel) → Says f x → AcceptsWhere true f a → IsEnvironmentFor x e
    → SideAccepts a Environment e ↔ Defeats x e

-- a machine of the environment with a run lasso that its automaton accepts can lose
abbrev pub RejectedEnvironmentsCanLose : Type 0
RejectedEnvironmentsCanLose =
    (x : Wanted) (f : Tree) (a : AutomatonModel) (e : MachineModel) (w : Word) → Says f x → AcceptsWhere true f a
    → IsRun e Environment w → Accepts a w → CanLose x e

-- a machine of the environment that defeats every machine can't lose
abbrev pub DefeatingCannotLose : Type 0
DefeatingCannotLose = (x : Wanted) (e : MachineModel) → Defeats x e → CanLose x e → ⊥

-- the circuit has the kind and the runs of a machine, and these names of what it reads and of what it writes
pub record IsCircuitFor (m : MachineModel) (c : Circuit) : Type 0 where
  pub kind : IsCircuitOfKind m.kind c
  pub runs : HasTheRunsOf m c

-- a circuit with the runs of a machine that satisfies does so too
abbrev pub CircuitsSatisfy : Type 0
CircuitsSatisfy =
    (x : Wanted) (m : MachineModel) (c : Circuit) → Satisfies x m → IsCircuitFor m c → c.input_names ≡ map Some x.inputs
    → c.output_names ≡ map Some x.outputs → CircuitSatisfies x c

-- a circuit with the runs of a machine that defeats every machine does so too
abbrev pub CircuitsDefeat : Type 0
CircuitsDefeat =
    (x : Wanted) (e : MachineModel) (c : Circuit) → Defeats x e → IsCircuitFor e c → c.input_names ≡ map Some x.outputs
    → c.output_names ≡ map Some x.inputs → CircuitDefeats x c
