-- The machines of circuits (AIGER 1.9; textbooks of automata: Mealy and Moore machines).
use Rattle.std.specs.Prelude.{◌≡◌, ℕ, length}
use Rattle.letters_and_lassos.specs.declared.kinds.Kind.{Kind}
use Rattle.machine_model.specs.Machine.{IsMachine, MachineModel, size_of}
use Rattle.aiger_text.specs.Circuit.{Circuit, HasStates, IsCircuitOfKind}
use Rattle.aiger_text.specs.CircuitType.{IsCircuit}
use Rattle.gate_build.specs.Laws.{HasTheRunsOf}

-- Each circuit has a number of states: the values of its latches that occur in its runs can be listed.
abbrev pub CircuitsHaveStates : Type 0
CircuitsHaveStates = (c : Circuit) → IsCircuit c → (n : ℕ) × HasStates c n

-- it has one such number
abbrev pub StatesAreCounted : Type 0
StatesAreCounted = (c : Circuit) (n k : ℕ) → HasStates c n → HasStates c k → n ≡ k

-- a machine of this kind and of n states with the circuit's runs, whichever side it plays, and with its signals
pub record HasMachine (kind : Kind) (c : Circuit) (n : ℕ) : Type 0 where
  pub machine : MachineModel
  pub is_machine : IsMachine machine
  pub kind_is : machine.kind ≡ kind
  pub reads : machine.reads ≡ length c.inputs
  pub writes : machine.writes ≡ length c.outputs
  pub size : size_of machine ≡ n
  pub runs : HasTheRunsOf machine c

-- Each circuit has a machine of each kind that it is of, with just as many states as the circuit. So each circuit has a Mealy
-- machine, and one whose outputs hang on its state alone a Moore machine.
abbrev pub CircuitsAreMachines : Type 0
CircuitsAreMachines = (kind : Kind) (c : Circuit) (n : ℕ) → IsCircuit c → IsCircuitOfKind kind c → HasStates c n → HasMachine kind c n
