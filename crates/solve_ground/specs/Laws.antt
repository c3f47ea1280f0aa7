-- Laws of texts as `solve` takes them (this project's own).
use Rattle.std.specs.Prelude.{◌≡◌, ℕ, List, Option, Some}
use Rattle.text_limits.specs.declared.Limits.{Limits}
use Rattle.text_limits.specs.declared.TheConstants.{LARGE_LIMITS}
use Rattle.letters_and_lassos.specs.declared.kinds.Kind.{Kind}
use Rattle.spec_faults.specs.declared.code.SpecCode.{SpecCode}
use Rattle.solve_ground.specs.declared.texts.SolveText.{SolveText}
use Rattle.solve_ground.specs.SolveText.{IsFaultWithin, IsTextWithin, forms_seen}

-- two texts are the same but for where their names stand in memory
pub record IsSameText (t t' : SolveText) : Type 0 where
  pub inputs : t.inputs.items ≡ t'.inputs.items
  pub outputs : t.outputs.items ≡ t'.outputs.items
  pub kind : t.kind ≡ t'.kind
  pub semantics : t.semantics ≡ t'.semantics
  pub forms : forms_seen t ≡ forms_seen t'

-- Within limits a text is one thing as `solve` takes it, or has one first fault, and never both. Which kind is given makes no difference to a fault.
pub record AreDetermined (limits : Limits) : Type 0 where
  pub one_text : (text : List ℕ) (given : Option Kind) (t t' : SolveText) → IsTextWithin limits text given t → IsTextWithin limits text given t' → IsSameText t t'
  pub no_fault : (text : List ℕ) (given : Option Kind) (t : SolveText) (code : SpecCode) (place : ℕ) → IsTextWithin limits text given t
      → IsFaultWithin limits text given code place → ⊥
  pub one_fault : (text : List ℕ) (given : Option Kind) (code code' : SpecCode) (place place' : ℕ) → IsFaultWithin limits text given code place
      → IsFaultWithin limits text given code' place' → (code ≡ code') × (place ≡ place')
  pub any_kind : (text : List ℕ) (kind other : Kind) (code : SpecCode) (place : ℕ) → IsFaultWithin limits text (Some kind) code place
      → IsFaultWithin limits text (Some other) code place

-- the same within the limits of `solve`, and within any
abbrev pub SolveTextsAreDetermined : Type 0
SolveTextsAreDetermined = AreDetermined LARGE_LIMITS

abbrev pub TextsAreDetermined : Type 0
TextsAreDetermined = (limits : Limits) → AreDetermined limits
