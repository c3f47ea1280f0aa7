-- What the reader has of a file's lines of numbers (this project's own).
use Rattle.std.specs.Prelude.{◌≡◌, ℕ, ◌+◌, ◌≤◌, ◌⊎◌, false, Result, Err, length, slice_index_or}
use Rattle.text_limits.specs.declared.TheConstants.{CIRCUIT_VARIABLES}
use Rattle.aiger_text.specs.declared.bodies.Statements.{Statements}
use Rattle.aiger_text.specs.declared.faults.CircuitFault.{CircuitFault}
use Rattle.aiger_text.specs.declared.faults.CircuitFault.TheVariants.{NoMemory}
use Rattle.aiger_text.specs.declared.bodies.Body.{Body}
use Rattle.aiger_text.specs.CircuitFile as file
use Rattle.aiger_text.specs.CircuitFile.{Draft, defines, lines_of}

abbrev pub stated : Statements → Draft
stated s = record { counts = s.counts; inputs = s.inputs.items; latches = s.latches.items; outputs = s.outputs.items; gates = s.gates.items }

abbrev pub shown : Body → file.Body
shown b = record { draft = stated b.statements; line = b.number; rest = lines_of b.rest.now }

-- the variables that the lines so far define are marked
pub record IsMarked (s : Statements) : Type 0 where
  pub size : s.counts.variables ≤ CIRCUIT_VARIABLES
  pub room : length s.defined.items ≡ s.counts.variables + 1
  pub marks : (v : ℕ) → slice_index_or s.defined.items v false ≡ defines (stated s) v

-- the reading fails for want of memory, or by its own fault
abbrev pub IsFaultOf : {X : Type 0} → Result X CircuitFault → CircuitFault → Type 0
IsFaultOf reading fault = (fault ≡ NoMemory) ⊎ (reading ≡ Err fault)
