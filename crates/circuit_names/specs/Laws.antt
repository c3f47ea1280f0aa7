-- Laws of the names of circuits (this project's own).
use Rattle.std.specs.Prelude.{◌≡◌, ◌↔◌, true, None, is_some}
use Rattle.std.specs.List.{list_all}
use Rattle.letters_and_lassos.specs.declared.kinds.Side.{Side}
use Rattle.aiger_text.specs.Circuit.{Circuit}
use Rattle.aiger_text.specs.CircuitFile.{File}
use Rattle.circuit_names.specs.Lines.{stated_line}
use Rattle.circuit_names.specs.Names.{FitsNames, HasNames, Names}

-- A circuit without fault has no line that fails exactly where its counts and its names are the text's, as far as it has names; and it has
-- the text's names exactly where none is missing.
pub record NamesAreTold : Type 0 where
  pub line : (names : Names) (side : Side) (file : File) → (stated_line names side file ≡ None) ↔ FitsNames names side file.circuit
  pub whole : (names : Names) (side : Side) (c : Circuit) → list_all is_some c.input_names ≡ true → list_all is_some c.output_names ≡ true
      → FitsNames names side c → HasNames names side c
  pub named : (names : Names) (side : Side) (c : Circuit) → HasNames names side c → FitsNames names side c
