-- What `solve`, and the test of its documents, know of a text (this project's own).
use Rattle.std.specs.Prelude.{◌≡◌, ◌≤◌, ◌+◌, ℕ, Bool, not, List, Option, Some, None, length}
use Rattle.letters_and_lassos.specs.declared.kinds.Kind.{Kind}
use Rattle.letters_and_lassos.specs.declared.kinds.Side.{Side}
use Rattle.letters_and_lassos.specs.declared.kinds.Side.TheVariants.{System, Environment}
use Rattle.letters_and_lassos.specs.Word.{Word, HasRing}
use Rattle.ltl_formula.specs.declared.nodes.FormulaId.{FormulaId}
use Rattle.ltl_formula.specs.declared.nodes.Node.{Node}
use Rattle.ltl_formula.specs.NormalForm.{IsNormal}
use Rattle.ltl_formula.specs.Nodes.{IsNodeList, IsNodeIn, tree_at}
use Rattle.ltl_formula.specs.Truth.{holds}
use Rattle.spec_faults.specs.declared.code.SpecCode.{SpecCode}
use Rattle.spec_faults.specs.declared.code.SpecCode.TheVariants.{TooManyNodes}
use Rattle.text_limits.specs.declared.Limits.{Limits}
use Rattle.text_limits.specs.declared.TheConstants.{LARGE_LIMITS}
use Rattle.tlsf_syntax.specs.Text.{Text}
use Rattle.tlsf_reader.specs.Reads.{Reads}
use Rattle.tlsf_reader.specs.Faults.{IsReadingFault}
use Rattle.tlsf_expand.specs.Expansion.{expanded, flat_fault}
use Rattle.tlsf_expand.specs.FlatText.{FlatText, flat_in}
use Rattle.satisfaction.specs.Wanted.{Wanted}
use Rattle.solve_ground.specs.declared.texts.SolveText.{SolveText}
use Rattle.solve_ground.specs.Taken.{IsTakenWithin, converted_from, taken_kind, taken_shift}
use Rattle.solve_ground.specs.Forms.{BothForms, forms_taken}

-- both forms in the list of a text that was taken
abbrev pub forms_seen : SolveText → BothForms
forms_seen t = record { nodes = t.formulas; negated = t.negated; normal = t.normal }

-- a side's form is true exactly where the side loses: the negated one where what is wanted is false, the normal one where it is true
abbrev pub loses_where : Side → Bool → Bool
loses_where System truth = not truth
loses_where Environment truth = truth

-- a formula in normal form that is true on exactly the lassos on which the side loses
pub record IsFormOf (side : Side) (nodes : List Node) (x : Wanted) (form : FormulaId) : Type 0 where
  pub stands : IsNodeIn nodes form
  pub normal : IsNormal (tree_at nodes form)
  pub says : (w : Word) → HasRing w → holds w (tree_at nodes form) 0 ≡ loses_where side (x.means w)

-- Exactly what is known of a text within limits: how it is taken, its names, and both forms in the list that is made of it.
pub record IsTextWithin (limits : Limits) (text : List ℕ) (given : Option Kind) (t : SolveText) : Type 0 where
  pub flat : FlatText
  pub wanted : Wanted
  pub taken : IsTakenWithin limits text given flat wanted
  pub inputs : t.inputs.items ≡ wanted.inputs
  pub outputs : t.outputs.items ≡ wanted.outputs
  pub kind_is : t.kind ≡ wanted.kind
  pub semantics : t.semantics ≡ converted_from given taken.tree
  pub forms : forms_taken limits.nodes (taken_shift given taken.tree) flat ≡ Some (forms_seen t)
  pub list : IsNodeList t.formulas
  pub negated : IsFormOf System t.formulas wanted t.negated
  pub normal : IsFormOf Environment t.formulas wanted t.normal
  pub few_inputs : length t.inputs.items ≤ limits.signals
  pub few_outputs : length t.outputs.items ≤ limits.signals
  pub few_signals : length t.inputs.items + length t.outputs.items ≤ limits.all_signals

-- the same within the limits of `solve`
abbrev pub IsSolveText : List ℕ → Option Kind → SolveText → Type 0
IsSolveText = IsTextWithin LARGE_LIMITS

-- The first fault of a text as `solve` takes it within limits: one of reading, one of expansion, or no room for the
-- converted list and both forms, which is told at byte 0.
pub data IsFaultWithin (limits : Limits) (text : List ℕ) (given : Option Kind) : SpecCode → ℕ → Type 0 where
  of_reading : (code : SpecCode) (place : ℕ) → IsReadingFault text code place → IsFaultWithin limits text given code place
  of_expansion : (tree : Text) (code : SpecCode) (place : ℕ) → Reads text tree
      → flat_fault limits tree (Some (taken_kind given tree)) ≡ Some (record { code = code; place = place })
      → IsFaultWithin limits text given code place
  of_forms : (tree : Text) (flat : FlatText) → Reads text tree
      → flat_in (expanded limits tree (Some (taken_kind given tree))) ≡ Some flat
      → forms_taken limits.nodes (taken_shift given tree) flat ≡ None → IsFaultWithin limits text given TooManyNodes 0

-- the same within the limits of `solve`
abbrev pub IsSolveFault : List ℕ → Option Kind → SpecCode → ℕ → Type 0
IsSolveFault = IsFaultWithin LARGE_LIMITS
