-- The circuit of a machine's table (this project's own; AIGER 1.9).
use Rattle.std.specs.Prelude.{ℕ, zero, suc, ◌+◌, ◌*◌, ◌/◌, ◌%◌, ◌^◌, Bool, false, nat_le, nat_lt, Some, List, [], ◌∷◌, ◌++◌, length, map, slice_index, slice_index_or, if◌then◌else◌}
use Rattle.std.specs.List.{range_with_len}
use Rattle.letters_and_lassos.specs.Signals.{has}
use Rattle.machine_model.specs.Machine.{MachineModel, next_of, size_of, writes_of}
use Rattle.aiger_text.specs.declared.circuits.Latch.{Latch}
use Rattle.aiger_text.specs.declared.circuits.Gate.{Gate}
use Rattle.aiger_text.specs.Circuit.{Circuit}
use Rattle.gate_build.specs.declared.gates.Operands.{Operands}
use Rattle.gate_build.specs.Gates.{Built, split_of}

-- the number of binary digits of n - 1, n being at most 8
abbrev pub latches_for : ℕ → ℕ
latches_for n = if nat_le n 1 then 0 else if nat_le n 2 then 1 else if nat_le n 4 then 2 else 3

abbrev pub latches_of : MachineModel → ℕ
latches_of m = latches_for (size_of m)

-- the literals of so many variables, those before them being `from` variables
abbrev pub literals_from : ℕ → ℕ → List ℕ
literals_from from count = map (λ k. 2 * (from + k + 1)) (range_with_len 0 count)

-- variables: the inputs, then the latches, then the gates
abbrev pub first_gate : MachineModel → ℕ
first_gate m = m.reads + latches_of m + 1

abbrev pub input_literals : MachineModel → List ℕ
input_literals m = literals_from 0 m.reads

abbrev pub latch_literals : MachineModel → List ℕ
latch_literals m = literals_from m.reads (latches_of m)

-- the literals that are split on
abbrev pub split_literals : MachineModel → List ℕ
split_literals m = latch_literals m ++ input_literals m

-- A number stands for a state's code, its low bits, and a read letter above them. Bit j of the next state, and bit o of
-- what is written: a code that is no state goes to state 0 and writes nothing.
abbrev pub next_bit : MachineModel → ℕ → ℕ → Bool
next_bit m j n = if nat_lt (n % 2 ^ latches_of m) (size_of m) then has (next_of m (n % 2 ^ latches_of m) (n / 2 ^ latches_of m)) j else false

abbrev pub written_bit : MachineModel → ℕ → ℕ → Bool
written_bit m o n = if nat_lt (n % 2 ^ latches_of m) (size_of m) then has (writes_of m (n % 2 ^ latches_of m) (n / 2 ^ latches_of m)) o else false

-- functions built in order
pub record AllBuilt : Type 0 where
  pub gates : List Operands
  pub literals : List ℕ

unfoldable pub all_of : MachineModel → (ℕ → ℕ → Bool) → ℕ → List Operands → AllBuilt
all_of m tests zero gates = record { gates = gates; literals = [] }
all_of m tests (suc n) gates = more (all_of m tests n gates)
  where
    more : AllBuilt → AllBuilt
    more before = added (split_of (first_gate m) (tests n) (split_literals m) 0 1 before.gates)
      where
        added : Built → AllBuilt
        added made = record { gates = made.gates; literals = before.literals ++ made.literal ∷ [] }

-- the next functions of the latches, then the outputs
abbrev pub nexts_of : MachineModel → AllBuilt
nexts_of m = all_of m (next_bit m) (latches_of m) []

abbrev pub outputs_of : MachineModel → AllBuilt
outputs_of m = all_of m (written_bit m) m.writes (nexts_of m).gates

-- gate k of these
abbrev pub gate_from : ℕ → List Operands → ℕ → Gate
gate_from first gates k = let pair = slice_index_or gates k (record { greater = 0; lesser = 0 }) in record { literal = 2 * (first + k); left = pair.greater; right = pair.lesser }

abbrev pub gates_from : ℕ → List Operands → List Gate
gates_from first gates = map (gate_from first gates) (range_with_len 0 (length gates))

-- latch j, which resets to 0
abbrev pub latch_from : ℕ → List ℕ → ℕ → Latch
latch_from from nexts j = record { literal = 2 * (from + j + 1); next = slice_index nexts j; reset = false }

abbrev pub latches_with : ℕ → List ℕ → List Latch
latches_with from nexts = map (latch_from from nexts) (range_with_len 0 (length nexts))

-- the circuit of a machine of at most 8 states
abbrev pub circuit_of : MachineModel → List (List ℕ) → List (List ℕ) → Circuit
circuit_of m read_names write_names = record {
  variables = m.reads + latches_of m + length (outputs_of m).gates;
  inputs = input_literals m;
  latches = latches_with m.reads (nexts_of m).literals;
  outputs = (outputs_of m).literals;
  gates = gates_from (first_gate m) (outputs_of m).gates;
  input_names = map (λ name. Some name) read_names;
  output_names = map (λ name. Some name) write_names;
}
