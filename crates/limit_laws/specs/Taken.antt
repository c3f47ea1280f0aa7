-- Texts that `synth` takes are taken by `solve`, and want the same (this project's own).
use Rattle.std.specs.Prelude.{◌≡◌, ℕ, List, Option}
use Rattle.letters_and_lassos.specs.Word.{Word, HasRing}
use Rattle.letters_and_lassos.specs.declared.kinds.Kind.{Kind}
use Rattle.spec_faults.specs.declared.code.SpecCode.{SpecCode}
use Rattle.satisfaction.specs.Wanted.{Wanted}
use Rattle.tlsf_expand.specs.FlatText.{FlatText}
use Rattle.spec_problems.specs.OfText.{IsFirstFault}
use Rattle.text_ground.specs.Ground.{IsWantedBy}
use Rattle.solve_ground.specs.SolveText.{IsSolveFault}
use Rattle.solve_ground.specs.Taken.{IsTakenAs}

-- the same names, the same kind, and the same truth on each lasso
pub record IsSameWanted (x y : Wanted) : Type 0 where
  pub inputs : x.inputs ≡ y.inputs
  pub outputs : x.outputs ≡ y.outputs
  pub kind_is : x.kind ≡ y.kind
  pub truth : (w : Word) → HasRing w → x.means w ≡ y.means w

-- a text without a first fault under a given kind, or under none, has no fault as `solve` takes it
abbrev pub SmallTextsAreTaken : Type 0
SmallTextsAreTaken = (text : List ℕ) (given : Option Kind) → ((code : SpecCode) (place : ℕ) → IsFirstFault text given code place → ⊥) → (code : SpecCode) (place : ℕ) → IsSolveFault text given code place → ⊥

-- what `synth` wants of a text is what `solve` wants of it
abbrev pub TakenTextsWantTheSame : Type 0
TakenTextsWantTheSame = (text : List ℕ) (given : Option Kind) (x : Wanted) (flat : FlatText) (y : Wanted) → IsWantedBy text given x → IsTakenAs text given flat y → IsSameWanted x y
