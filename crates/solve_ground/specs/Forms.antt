-- The list in which both forms of a text's whole are made, as `solve` takes it (this project's own).
use Rattle.std.specs.Prelude.{ℕ, true, false, List, Option, Some, None, length, option_and_then}
use Rattle.letters_and_lassos.specs.declared.kinds.Side.{Side}
use Rattle.letters_and_lassos.specs.declared.kinds.Side.TheVariants.{System, Environment}
use Rattle.ltl_formula.specs.declared.nodes.FormulaId.{FormulaId}
use Rattle.ltl_formula.specs.declared.nodes.Node.{Node}
use Rattle.ltl_formula.specs.Added.{Built}
use Rattle.ltl_formula.specs.Nodes.{tree_at}
use Rattle.ltl_normal.specs.NormalNodes.{form_in}
use Rattle.kind_conversion.specs.declared.conversion.ConvertedList.{ConvertedList}
use Rattle.kind_conversion.specs.declared.shifts.Shift.{Shift}
use Rattle.kind_conversion.specs.ShiftedList.{converted_of}
use Rattle.tlsf_expand.specs.FlatText.{FlatText}

-- a list with both forms of a formula: what the system keeps from being true, and what the environment does
pub record BothForms : Type 0 where
  pub nodes : List Node
  pub negated : FormulaId
  pub normal : FormulaId

-- what a side keeps from being true
abbrev pub form_of : Side → BothForms → FormulaId
form_of System forms = forms.negated
form_of Environment forms = forms.normal

-- what was made, if it was, and the list after it
abbrev pub and_made : {A : Type 0} → Built → (List Node → FormulaId → Option A) → Option A
and_made built go_on = option_and_then (go_on built.nodes) built.made

-- both forms of a formula in a list of at most so many nodes, the negated one first; none where there is no room
abbrev pub forms_of : ℕ → List Node → FormulaId → Option BothForms
forms_of most nodes whole =
    and_made (form_in most false (tree_at nodes whole) nodes) (λ with_negated negated.
    and_made (form_in most true (tree_at nodes whole) with_negated) (λ with_both normal.
    Some (record { nodes = with_both; negated = negated; normal = normal })))

-- the list and the whole that are taken: as they are written, or made anew with the shifted forms; none where there is no room
abbrev pub list_taken : ℕ → Option Shift → ℕ → List Node → FormulaId → Option ConvertedList
list_taken most None inputs nodes whole = let c : ConvertedList = record { formulas = nodes; whole = whole } in Some c
list_taken most (Some shift) inputs nodes whole = converted_of most shift inputs nodes whole

-- both forms of a flat text's whole so taken
abbrev pub forms_taken : ℕ → Option Shift → FlatText → Option BothForms
forms_taken most shift flat =
    option_and_then (λ (c : ConvertedList). forms_of most c.formulas c.whole)
    (list_taken most shift (length flat.expanded.inputs) flat.formulas flat.expanded.whole)
