-- Laws of the text of witnesses (this project's own).
use Rattle.std.specs.Prelude.{◌≡◌, ℕ, Some, None, List}
use Rattle.witness_text.specs.declared.lines.Following.{Following}
use Rattle.witness_text.specs.declared.lines.Following.TheVariants.{Nothing}
use Rattle.witness_text.specs.Lines.{witness_text}
use Rattle.witness_text.specs.Reading.{WitnessLines, WitnessProof, Reads, IsFirstBadLine, witness_of}
use Rattle.witness_text.specs.States.{States, IsWellFormed}

-- Good lines are those of the witness and the logs that they state.
pub record IsStated (following : Following) (bytes : List ℕ) (lines : WitnessLines) : Type 0 where
  pub proof : WitnessProof
  pub of_lines : witness_of lines ≡ Some proof
  pub states : States following bytes proof

-- Bytes are read in one way. They state one witness with its logs at most, and that exactly where no line is bad; else one line is
-- the first. What is written of a witness and its logs states them.
pub record WitnessesAreDetermined : Type 0 where
  pub one_reading : (f : Following) (first : ℕ) (bytes : List ℕ) (a b : WitnessLines) → Reads f first bytes a → Reads f first bytes b → a ≡ b
  pub one_witness : (f : Following) (bytes : List ℕ) (p q : WitnessProof) → States f bytes p → States f bytes q → p ≡ q
  pub good_lines : (f : Following) (first : ℕ) (bytes : List ℕ) (lines : WitnessLines) → Reads f first bytes lines → lines.bad ≡ None → IsStated f bytes lines
  pub all_good : (f : Following) (first : ℕ) (bytes : List ℕ) (lines : WitnessLines) (p : WitnessProof) → Reads f first bytes lines → States f bytes p
      → (lines.bad ≡ None) × (witness_of lines ≡ Some p)
  pub one_bad_line : (f : Following) (first : ℕ) (bytes : List ℕ) (n m : ℕ) → IsFirstBadLine f first bytes n → IsFirstBadLine f first bytes m → n ≡ m
  pub stated_not_bad : (f : Following) (first : ℕ) (bytes : List ℕ) (p : WitnessProof) (n : ℕ) → States f bytes p → IsFirstBadLine f first bytes n → ⊥
  pub written : (p : WitnessProof) → IsWellFormed p → States Nothing (witness_text p.witness p.logs) p
