-- Laws of circuits (AIGER 1.9).
use Rattle.std.specs.Prelude.{◌≡◌, ◌↔◌, ℕ, ◌+◌, ◌<◌, Bool, List, length}
use Rattle.letters_and_lassos.specs.declared.kinds.Side.{Side}
use Rattle.letters_and_lassos.specs.Word.{Word, SameWord, nth_letter}
use Rattle.letters_and_lassos.specs.Signals.{has}
use Rattle.aiger_text.specs.Circuit.{Circuit, HasStates, HasStatesFor, IsCircuitRun, Occurs, OccursFor, Valuation, first_read, literal_value}
use Rattle.aiger_text.specs.CircuitType.{IsDefined}
use Rattle.aiger_text.specs.Step.{HasValues}

-- two valuations of one step agree: where the inputs and the latches have the same values, so has each constant
-- and each literal of a variable that the circuit defines
abbrev pub ValuationsAgree : Circuit → Type 0
ValuationsAgree c =
    (inputs latches : List Bool) (v w : Valuation) → HasValues c inputs latches v → HasValues c inputs latches w
    → (literal : ℕ) → IsDefined c literal → literal_value v literal ≡ literal_value w literal

-- the circuit reads the same at each number of two words
pub record ReadsTheSame (side : Side) (c : Circuit) (v w : Word) : Type 0 where
  pub inputs : (j k : ℕ) → k < length c.inputs →
      has (nth_letter v j).0 (first_read side c + k) ≡ has (nth_letter w j).0 (first_read side c + k)

-- two run lassos that read the same are the same word
abbrev pub RunsAreDetermined : Circuit → Type 0
RunsAreDetermined c =
    (side : Side) (v w : Word) (in_v in_w : ℕ → Valuation) → IsCircuitRun side c v in_v → IsCircuitRun side c w in_w
    → ReadsTheSame side c v w → SameWord v w

-- whichever side the circuit plays, the same values of its latches occur, and as many
pub record StatesAreOfEitherSide (c : Circuit) : Type 0 where
  pub occurs : (side : Side) (latches : List Bool) → OccursFor side c latches ↔ Occurs c latches
  pub number : (side : Side) (n : ℕ) → HasStatesFor side c n ↔ HasStates c n

abbrev pub EitherSideHasTheStates : Type 0
EitherSideHasTheStates = (c : Circuit) → StatesAreOfEitherSide c
