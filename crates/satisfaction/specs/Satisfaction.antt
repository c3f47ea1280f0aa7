-- What machines and circuits owe to what is wanted (bounded synthesis of Finkbeiner and Schewe; the duality of Mealy and Moore
-- machines).
use Rattle.std.specs.Prelude.{◌≡◌, ℕ, true, false, length, map, Some}
use Rattle.letters_and_lassos.specs.declared.kinds.Side.TheVariants.{System, Environment}
use Rattle.letters_and_lassos.specs.Kinds.{other_kind}
use Rattle.letters_and_lassos.specs.Word.{Word}
use Rattle.machine_model.specs.Machine.{MachineModel, IsMachine, size_of}
use Rattle.machine_model.specs.Run.{IsPlay, IsRun}
use Rattle.aiger_text.specs.Circuit.{Circuit, IsCircuitOfKind}
use Rattle.gate_build.specs.Laws.{IsRunOfCircuit}
use Rattle.satisfaction.specs.Wanted.{Wanted}

-- a machine of the system, of any size: of the kind that is wanted, it reads the inputs and writes the outputs
pub record IsSystemFor (x : Wanted) (m : MachineModel) : Type 0 where
  pub machine : IsMachine m
  pub kind : m.kind ≡ x.kind
  pub reads : m.reads ≡ length x.inputs
  pub writes : m.writes ≡ length x.outputs

-- a machine of the environment, of any size: of the other kind, it reads the outputs and writes the inputs
pub record IsEnvironmentFor (x : Wanted) (m : MachineModel) : Type 0 where
  pub machine : IsMachine m
  pub kind : m.kind ≡ other_kind x.kind
  pub reads : m.reads ≡ length x.outputs
  pub writes : m.writes ≡ length x.inputs

-- a machine of the system satisfies: what is wanted is true on each of its run lassos
pub record Satisfies (x : Wanted) (m : MachineModel) : Type 0 where
  pub system : IsSystemFor x m
  pub means : (w : Word) → IsRun m System w → x.means w ≡ true

-- a machine of the environment defeats: each machine of the system, of any size, has a play with it, and on each such play
-- what is wanted is false
pub record Defeats (x : Wanted) (e : MachineModel) : Type 0 where
  pub environment : IsEnvironmentFor x e
  pub plays : (m : MachineModel) → IsSystemFor x m → (w : Word) × IsPlay m e w
  pub loses : (m : MachineModel) (w : Word) → IsSystemFor x m → IsPlay m e w → x.means w ≡ false

-- a machine of the environment that doesn't defeat, as it has a run lasso on which what is wanted is true
pub record CanLose (x : Wanted) (e : MachineModel) : Type 0 where
  pub word : Word
  pub run : IsRun e Environment word
  pub means : x.means word ≡ true

-- no machine of n states satisfies
abbrev pub NoneSatisfies : Wanted → ℕ → Type 0
NoneSatisfies x n = (m : MachineModel) → size_of m ≡ n → Satisfies x m → ⊥

-- each machine of the environment of n states can lose
abbrev pub EachCanLose : Wanted → ℕ → Type 0
EachCanLose x n = (e : MachineModel) → size_of e ≡ n → IsEnvironmentFor x e → CanLose x e

-- a circuit of the system satisfies: it is of the kind that is wanted, has the names in order, and on each of its run lassos
-- what is wanted is true
pub record CircuitSatisfies (x : Wanted) (c : Circuit) : Type 0 where
  pub kind : IsCircuitOfKind x.kind c
  pub inputs : c.input_names ≡ map Some x.inputs
  pub outputs : c.output_names ≡ map Some x.outputs
  pub means : (w : Word) → IsRunOfCircuit c System w → x.means w ≡ true

-- a lasso that is a run lasso of a machine of the system and of a circuit of the environment
pub record IsPlayWith (c : Circuit) (m : MachineModel) (w : Word) : Type 0 where
  pub of_system : IsRun m System w
  pub of_circuit : IsRunOfCircuit c Environment w

-- a circuit of the environment defeats every machine: it is of the other kind, reads the outputs and writes the inputs, by their
-- names in order; each machine of the system, of any size, has a play with it, and on each such play what is wanted is false
pub record CircuitDefeats (x : Wanted) (c : Circuit) : Type 0 where
  pub kind : IsCircuitOfKind (other_kind x.kind) c
  pub inputs : c.input_names ≡ map Some x.outputs
  pub outputs : c.output_names ≡ map Some x.inputs
  pub plays : (m : MachineModel) → IsSystemFor x m → (w : Word) × IsPlayWith c m w
  pub loses : (m : MachineModel) (w : Word) → IsSystemFor x m → IsPlayWith c m w → x.means w ≡ false
