-- What the parts of the code answer (this project's own).
use Rattle.std.specs.Prelude.{◌≡◌, ℕ, not, Option, Some, None, length}
use Rattle.letters_and_lassos.specs.Word.{Word, HasRing}
use Rattle.ltl_formula.specs.NormalForm.{IsNormal}
use Rattle.ltl_formula.specs.Nodes.{IsNodeList, IsNodeIn, tree_at}
use Rattle.ltl_formula.specs.Tree.{Tree}
use Rattle.ltl_formula.specs.Truth.{holds}
use Rattle.kind_conversion.specs.declared.conversion.ConvertedList.{ConvertedList}
use Rattle.kind_conversion.specs.declared.shifts.Shift.{Shift}
use Rattle.letters_and_lassos.specs.declared.kinds.Kind.{Kind}
use Rattle.ltl_formula.specs.declared.faults.AddFault.{AddFault}
use Rattle.spec_faults.specs.declared.code.SpecCode.{SpecCode}
use Rattle.spec_faults.specs.declared.code.SpecCode.TheVariants.{TooManyNodes}
use Rattle.spec_faults.specs.declared.code.SpecFault.{SpecFault}
use Rattle.spec_faults.specs.declared.code.SpecFault.TheVariants.{At, NoMemory}
use Rattle.tlsf_expand.specs.declared.spec.Spec.{Spec}
use Rattle.tlsf_expand.specs.FlatText.{spec_seen}
use Rattle.solve_ground.specs.declared.forms.Forms.{Forms}
use Rattle.solve_ground.specs.declared.texts.SolveText.{SolveText}
use Rattle.solve_ground.specs.Forms.{BothForms, forms_taken}
use Rattle.solve_ground.specs.SolveText.{forms_seen}
use Rattle.solve_ground.specs.Taken.{spoken_word}

abbrev pub forms_made : Forms → BothForms
forms_made f = record { nodes = f.formulas; negated = f.negated; normal = f.normal }

-- both forms of a formula: the one is true on exactly the lassos on which it is false, the other where it is true
pub record AreFormsOf (f : Tree) (forms : BothForms) : Type 0 where
  pub list : IsNodeList forms.nodes
  pub negated_stands : IsNodeIn forms.nodes forms.negated
  pub negated_normal : IsNormal (tree_at forms.nodes forms.negated)
  pub negated_says : (w : Word) → HasRing w → holds w (tree_at forms.nodes forms.negated) 0 ≡ not (holds w f 0)
  pub normal_stands : IsNodeIn forms.nodes forms.normal
  pub normal_normal : IsNormal (tree_at forms.nodes forms.normal)
  pub normal_says : (w : Word) → HasRing w → holds w (tree_at forms.nodes forms.normal) 0 ≡ holds w f 0

-- the list that is taken says of a lasso what the formula as written says of the word that is spoken of
pub record SaysTaken (shift : Option Shift) (inputs : ℕ) (f : Tree) (c : ConvertedList) : Type 0 where
  pub stands : IsNodeIn c.formulas c.whole
  pub says : (w : Word) → HasRing w → holds w (tree_at c.formulas c.whole) 0 ≡ holds (spoken_word shift inputs w) f 0

-- the fault of a list that has no room, or want of memory
abbrev pub fault_of : AddFault → SpecFault
fault_of AddFault.TooManyNodes = At TooManyNodes 0
fault_of AddFault.NoMemory = NoMemory

-- the list has no room, which is told at byte 0
pub record IsFull {A : Type 0} (code : SpecCode) (place : ℕ) (made : Option A) : Type 0 where
  pub code_is : code ≡ TooManyNodes
  pub at : place ≡ 0
  pub none : made ≡ None

-- the text that a flat text gives, so taken, with both forms of its whole in a list of at most so many nodes
pub record IsWithForms (most : ℕ) (spec : Spec) (shift : Option Shift) (semantics : Option Kind) (t : SolveText) : Type 0 where
  pub inputs : t.inputs.items ≡ spec.inputs.items
  pub outputs : t.outputs.items ≡ spec.outputs.items
  pub kind_is : t.kind ≡ spec.kind
  pub semantics_is : t.semantics ≡ semantics
  pub forms : forms_taken most shift (spec_seen spec) ≡ Some (forms_seen t)
  pub taken : ConvertedList
  pub says : SaysTaken shift (length spec.inputs.items) (tree_at spec.formulas spec.whole) taken
  pub of_taken : AreFormsOf (tree_at taken.formulas taken.whole) (forms_seen t)

-- there is no room for them
abbrev pub HasNoForms : ℕ → Spec → Option Shift → SpecCode → ℕ → Type 0
HasNoForms most spec shift code place = IsFull code place (forms_taken most shift (spec_seen spec))
