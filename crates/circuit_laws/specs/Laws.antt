-- What circuits owe, by what machines of their sizes owe (bounded synthesis of Finkbeiner and Schewe; AIGER 1.9).
use Rattle.std.specs.Prelude.{◌≡◌, ◌↔◌, ℕ, ◌<◌, ◌≤◌, false, map, Some}
use Rattle.letters_and_lassos.specs.declared.kinds.Side.TheVariants.{Environment}
use Rattle.letters_and_lassos.specs.Kinds.{other_kind}
use Rattle.letters_and_lassos.specs.Word.{Word}
use Rattle.aiger_text.specs.Circuit.{Circuit, HasStates, IsCircuitOfKind}
use Rattle.aiger_text.specs.CircuitType.{IsCircuit}
use Rattle.gate_build.specs.Laws.{IsRunOfCircuit}
use Rattle.satisfaction.specs.Wanted.{Wanted}
use Rattle.satisfaction.specs.Satisfaction.{CircuitDefeats, CircuitSatisfies, EachCanLose, NoneSatisfies}

-- no circuit with n states satisfies, and none defeats, however many inputs, latches and gates it has
abbrev pub NoCircuitSatisfies : Wanted → ℕ → Type 0
NoCircuitSatisfies x n = (c : Circuit) → IsCircuit c → HasStates c n → CircuitSatisfies x c → ⊥

abbrev pub NoCircuitDefeats : Wanted → ℕ → Type 0
NoCircuitDefeats x n = (c : Circuit) → IsCircuit c → HasStates c n → CircuitDefeats x c → ⊥

-- where no machine of n states satisfies, no circuit with n states does
abbrev pub NoMachineNoCircuit : Type 0
NoMachineNoCircuit = (x : Wanted) (n : ℕ) → NoneSatisfies x n → NoCircuitSatisfies x n

-- where no machine of 1 to n states satisfies, no circuit with at most n states does
abbrev pub NoSmallCircuitSatisfies : Type 0
NoSmallCircuitSatisfies =
    (x : Wanted) (n : ℕ) → ((k : ℕ) → 0 < k → k ≤ n → NoneSatisfies x k) → (k : ℕ) → k ≤ n → NoCircuitSatisfies x k

-- where each machine of the environment of n states can lose, no circuit with n states defeats
abbrev pub NoMachineNoDefeat : Type 0
NoMachineNoDefeat = (x : Wanted) (n : ℕ) → EachCanLose x n → NoCircuitDefeats x n

-- where each machine of the environment of 1 to n states can lose, no circuit with at most n states defeats
abbrev pub NoSmallCircuitDefeats : Type 0
NoSmallCircuitDefeats =
    (x : Wanted) (n : ℕ) → ((k : ℕ) → 0 < k → k ≤ n → EachCanLose x k) → (k : ℕ) → k ≤ n → NoCircuitDefeats x k

-- a circuit for the environment: of the other kind, it reads the outputs and writes the inputs, by their names in order
pub record IsCounterCircuit (x : Wanted) (c : Circuit) : Type 0 where
  pub circuit : IsCircuit c
  pub kind : IsCircuitOfKind (other_kind x.kind) c
  pub inputs : c.input_names ≡ map Some x.outputs
  pub outputs : c.output_names ≡ map Some x.inputs

-- Such a circuit defeats every machine of the system, of any size, exactly where what is wanted is false on each of its run lassos
-- as the environment's (the duality of Mealy and Moore machines).
abbrev pub LosingCircuitsDefeat : Type 0
LosingCircuitsDefeat =
    (x : Wanted) (c : Circuit) → IsCounterCircuit x c
    → ((w : Word) → IsRunOfCircuit c Environment w → x.means w ≡ false) ↔ CircuitDefeats x c
