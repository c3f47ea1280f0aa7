-- What the reader has of a whole file (this project's own).
use Rattle.std.specs.Prelude.{◌≡◌, ℕ, ◌+◌, ◌≤◌, Ok, List, length}
use Rattle.aiger_text.specs.declared.reading.Parts.{Parts}
use Rattle.aiger_text.specs.CircuitFile as file
use Rattle.aiger_text.specs.CircuitFile.{circuit_parts}
use Rattle.aiger_text.specs.Statements.{stated, IsMarked}
use Rattle.aiger_text.specs.Labels.{shown_ending}
use Rattle.aiger_text.specs.Sound.{IsSoundDraft}

abbrev pub shown_parts : Parts → file.Parts
shown_parts p = record { draft = stated p.statements; ending = shown_ending p.ending }

-- these parts were read of the file
pub record IsRead (bytes : List ℕ) (p : Parts) : Type 0 where
  pub parts : circuit_parts bytes ≡ Ok (shown_parts p)
  pub marked : IsMarked p.statements
  pub sound : IsSoundDraft (stated p.statements)
  pub room : p.statements.counts.inputs + (p.statements.counts.latches + p.statements.counts.gates) ≤ p.statements.counts.variables
  pub input_names : length p.ending.labels.inputs.items ≡ length p.statements.inputs.items
  pub output_names : length p.ending.labels.outputs.items ≡ length p.statements.outputs.items
