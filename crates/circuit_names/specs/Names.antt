-- The names of a text's signals, as a circuit of either side has them (this project's own).
use Rattle.std.specs.Prelude.{◌≡◌, ℕ, List, Option, Some, IfSome, map}
use Rattle.std.specs.List.{AllZip}
use Rattle.letters_and_lassos.specs.declared.kinds.Side.{Side}
use Rattle.letters_and_lassos.specs.declared.kinds.Side.TheVariants.{System, Environment}
use Rattle.aiger_text.specs.Circuit.{Circuit}
use Rattle.circuit_names.specs.declared.names.TextNames.{TextNames}

-- the names of the inputs and of the outputs, in their order
pub record Names : Type 0 where
  pub inputs : List (List ℕ)
  pub outputs : List (List ℕ)

abbrev pub names_of : TextNames → Names
names_of t = record { inputs = t.inputs.now; outputs = t.outputs.now }

-- the names that a circuit has for its inputs, and for its outputs: those of an environment's machine are the other way round
abbrev pub read_names : Names → Side → List (List ℕ)
read_names names System = names.inputs
read_names names Environment = names.outputs

abbrev pub written_names : Names → Side → List (List ℕ)
written_names names System = names.outputs
written_names names Environment = names.inputs

-- a circuit of this side has the text's numbers of inputs and outputs, and each has the text's name for it
pub record HasNames (names : Names) (side : Side) (c : Circuit) : Type 0 where
  pub inputs : c.input_names ≡ map (λ name. Some name) (read_names names side)
  pub outputs : c.output_names ≡ map (λ name. Some name) (written_names names side)

-- a name is the wanted one where it isn't missing
abbrev pub IsNameIfAny : Option (List ℕ) → List ℕ → Type 0
IsNameIfAny name wanted = IfSome name (λ bytes. bytes ≡ wanted)

-- the same, where names may be missing
pub record FitsNames (names : Names) (side : Side) (c : Circuit) : Type 0 where
  pub inputs : AllZip IsNameIfAny c.input_names (read_names names side)
  pub outputs : AllZip IsNameIfAny c.output_names (written_names names side)
