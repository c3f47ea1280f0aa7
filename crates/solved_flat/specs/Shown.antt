-- The names that signals have in formulas as they are taken: with X before a signal that is shifted (TLSF 1.1).
use Rattle.std.specs.Prelude.{◌≡◌, ◌+◌, ℕ, Bool, true, false, List, ◌++◌, Option, None, Some, codes, length, map}
use Rattle.ltl_formula.specs.Text.{formula_text, prefixed}
use Rattle.ltl_formula.specs.Tree.{SignalsBelow, Tree}
use Rattle.kind_conversion.specs.declared.shifts.Shift.{Shift}
use Rattle.kind_conversion.specs.declared.shifts.Shift.TheVariants.{Inputs, Outputs}
use Rattle.kind_conversion.specs.ShiftedForm.{shifted_form}
use Rattle.tlsf_expand.specs.Expansion.{Expanded}
use Rattle.flat_lines.specs.FlatLines.{all_names}

abbrev pub takes_inputs : Option Shift → Bool
takes_inputs None = false
takes_inputs (Some Inputs) = true
takes_inputs (Some Outputs) = false

abbrev pub takes_outputs : Option Shift → Bool
takes_outputs None = false
takes_outputs (Some Inputs) = false
takes_outputs (Some Outputs) = true

-- a name, of the next position where its signal is shifted
abbrev pub shown_name : Bool → List ℕ → List ℕ
shown_name true name = prefixed (codes "X") name
shown_name false name = name

abbrev pub shown_names : Option Shift → Expanded → List (List ℕ)
shown_names shift x = map (shown_name (takes_inputs shift)) x.inputs ++ map (shown_name (takes_outputs shift)) x.outputs

-- a formula as it is taken: as it is written, or in its shifted form
abbrev pub taken_form : Option Shift → ℕ → Tree → Tree
taken_form None inputs f = f
taken_form (Some shift) inputs f = shifted_form shift inputs f

-- written with these names, a formula over the signals of a text is as it is taken
abbrev pub ShownFormulasAreTaken : Type 0
ShownFormulasAreTaken = (shift : Option Shift) (x : Expanded) (f : Tree) → SignalsBelow (length x.inputs + length x.outputs) f
    → formula_text (shown_names shift x) f ≡ formula_text (all_names x) (taken_form shift (length x.inputs) f)
