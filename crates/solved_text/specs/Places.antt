-- Where the lines of a document stand, as they were read (this project's own).
use Rattle.std.specs.Prelude.{◌≤◌, ℕ, ◌+◌, ◌^◌, ◌<◌, List, length, drop, IfSome}
use Rattle.solved_text.specs.declared.annotation.AnnotationPlace.{AnnotationPlace}
use Rattle.solved_text.specs.Reading.{SolvedLines}

-- an annotation stands among the bytes, and each of its lines has a number of 64 bits
pub record StandsAmong (bytes : List ℕ) (place : AnnotationPlace) : Type 0 where
  pub within : place.at ≤ length bytes
  pub numbered : place.line + length (drop place.at bytes) + 2 < 2 ^ 64

-- the verdict's line and those of the annotation, where it stands, have numbers of 64 bits
pub record AreNumbered (bytes : List ℕ) (lines : SolvedLines) : Type 0 where
  pub verdict : lines.verdict_line + 10 < 2 ^ 64
  pub annotation : IfSome lines.annotation (StandsAmong bytes)
