-- Laws of the test of circuits (this project's own).
use Rattle.std.specs.Prelude.{◌≡◌, ℕ, List}
use Rattle.aiger_text.specs.CircuitFile.{File}
use Rattle.named_annotation.specs.NamedStates.{Named}
use Rattle.circuit_check.specs.Duty.{Owed}
use Rattle.circuit_check.specs.FirstBad.{Annotates, IsFirstBad, IsValidFor}

-- of a file at most one line is the first bad one, and none where its annotation is valid
pub record FirstBadLinesAreDetermined : Type 0 where
  pub one_line : (owed : Owed) (bytes : List ℕ) (n m : ℕ) → IsFirstBad owed bytes n → IsFirstBad owed bytes m → n ≡ m
  pub valid_has_none : (owed : Owed) (bytes : List ℕ) (file : File) (named : Named) (n : ℕ) → Annotates owed bytes file named
      → IsValidFor owed file named → IsFirstBad owed bytes n → ⊥
