-- What a command does to a shelf (this project's own).
use Rattle.std.specs.Prelude.{◌≡◌, ℕ, Option, List}
use Rattle.input_output.specs.Files.{Files}

-- the files that the shelf tells, and how often taking each name had failed before, and has failed after
pub record ShelfStep : Type 0 where
  pub files : Option Files
  pub before : List ℕ → ℕ
  pub after : List ℕ → ℕ

-- the step from one state of a shelf to a later one
abbrev pub step_of : {S : Type 0} → (S → Option Files) → (S → List ℕ → ℕ) → S → S → ShelfStep
step_of files faults old new = record { files = files old; before = faults old; after = faults new }

-- no count of it rose
abbrev pub IsUnchanged : ShelfStep → Type 0
IsUnchanged step = (name : List ℕ) → step.after name ≡ step.before name
