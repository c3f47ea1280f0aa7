-- A text that `solve` takes by its own kinds, and the same text taken with the kind of its machines given (this project's own).
use Rattle.std.specs.Prelude.{◌≡◌, ℕ, List, Some, None}
use Rattle.spec_faults.specs.declared.code.SpecCode.{SpecCode}
use Rattle.solve_ground.specs.declared.texts.SolveText.{SolveText}
use Rattle.solve_ground.specs.SolveText.{IsSolveFault, IsSolveText}

-- Where the text isn't converted it is the same with that kind given. Converted or not, it has no fault so: a list that is made anew
-- with the shifted forms has room for both forms of its whole only where the list as written has, too.
pub record OwnKindsAreGiven : Type 0 where
  pub plain : (text : List ℕ) (t : SolveText) → IsSolveText text None t → t.semantics ≡ None → IsSolveText text (Some t.kind) t
  pub no_fault : (text : List ℕ) (t : SolveText) (code : SpecCode) (place : ℕ) → IsSolveText text None t → IsSolveFault text (Some t.kind) code place → ⊥
