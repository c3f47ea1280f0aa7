-- The bits of a machine's table as the code names them (this project's own).
use Rattle.std.specs.Prelude.{◌≡◌, ℕ, ◌*◌, ◌^◌, ◌<◌, ◌≤◌, Bool, List, length, All}
use Rattle.machine_model.specs.Machine.{MachineModel}
use Rattle.gate_build.specs.declared.tables.Bit.{Bit}
use Rattle.gate_build.specs.declared.tables.Bit.TheVariants.{Next, Written}
use Rattle.gate_build.specs.declared.circuits.Part.{Part}
use Rattle.gate_build.specs.declared.circuits.Part.TheVariants.{AllNexts, AllWritten}
use Rattle.gate_build.specs.declared.circuits.Functions.{Functions}
use Rattle.gate_build.specs.Table.{first_gate, gates_from, latches_of, next_bit, nexts_of, outputs_of, split_literals, written_bit}

-- the test of a bit of the table
abbrev pub bit_of : MachineModel → Bit → ℕ → Bool
bit_of m (Next j) = next_bit m j
bit_of m (Written o) = written_bit m o

-- the bit of a part of the table at a place
abbrev pub bit_in : Part → ℕ → Bit
bit_in AllNexts j = Next j
bit_in AllWritten j = Written j

-- the literals that are split on, of which there are few, one for each bit of a number
pub record IsSplit (m : MachineModel) (literals : List ℕ) : Type 0 where
  pub value : literals ≡ split_literals m
  pub early : All (λ l. l < 2 ^ 31) literals
  pub few : length literals ≤ 11
  pub whole : 2 ^ length literals ≡ 2 ^ latches_of m * 2 ^ m.reads

-- what the code makes of the functions of a machine's table
pub record AreFunctionsOf (m : MachineModel) (f : Functions) : Type 0 where
  pub nexts : f.nexts.items ≡ (nexts_of m).literals
  pub outputs : f.outputs.items ≡ (outputs_of m).literals
  pub gates : f.gates.items ≡ gates_from (first_gate m) (outputs_of m).gates
