-- A text's formulas with some of its guarantees, in a list of their own (this project's own).
use Rattle.std.specs.Prelude.{Bool, true, false, List, [], ◌∷◌, Option, None, Some}
use Rattle.text_limits.specs.declared.TheConstants.{SMALL_LIMITS}
use Rattle.ltl_formula.specs.declared.nodes.FormulaId.{FormulaId}
use Rattle.ltl_formula.specs.declared.nodes.Node.{Node}
use Rattle.ltl_formula.specs.Tree.{Tree}
use Rattle.ltl_formula.specs.declared.faults.AddFault.{AddFault}
use Rattle.spec_faults.specs.declared.code.SpecFault.{SpecFault}
use Rattle.tlsf_values.specs.declared.work.Work.{Work}
use Rattle.tlsf_values.specs.Outcomes.{Outcome, gives, fails, go_on}
use Rattle.tlsf_expand.specs.Signals.{work_within}
use Rattle.tlsf_expand.specs.Sections.{in_order, whole_value}
use Rattle.tlsf_expand.specs.Standing.{formulas_at, section_trees}
use Rattle.tlsf_syntax.specs.declared.sections.Sections.{Sections}
use Rattle.unrealizable_core.specs.declared.whole.Reduced.{Reduced}
use Rattle.unrealizable_core.specs.Put.{put_all}

-- those that are kept, by their places
abbrev pub kept : {A : Type 0} → List Bool → List A → List A
kept [] xs = []
kept (keep ∷ keeps) [] = []
kept (true ∷ keeps) (x ∷ xs) = x ∷ kept keeps xs
kept (false ∷ keeps) (x ∷ xs) = kept keeps xs

-- the formulas of the sections, of the guarantees those that are kept
abbrev pub kept_sections : List Node → List Bool → Sections (List FormulaId) → Sections (List Tree)
kept_sections nodes keep ids = record (section_trees nodes ids) { guarantee = kept keep (formulas_at nodes ids.guarantee) }

-- the formulas of the sections, put into a list in order
abbrev pub put_sections : Sections (List Tree) → Work → Outcome (Sections (List FormulaId))
put_sections s w = in_order put_all s w

-- the formula of the whole in a list of its own: after the formulas of the sections come the nodes that join them, as in a text that
-- is expanded
abbrev pub reduced : Bool → Sections (List Tree) → Outcome FormulaId
reduced strict s = go_on (put_sections s (work_within SMALL_LIMITS)) (λ ids w. whole_value strict ids w)

-- the list with the formula of the whole; there is none where the list would have too many nodes
abbrev pub reduced_in : Outcome FormulaId → Option Reduced
reduced_in (gives whole w) = Some (record { formulas = w.formulas; whole = whole })
reduced_in (fails code place) = None

-- a list of its own has no other fault than want of room
abbrev pub add_fault : SpecFault → AddFault
add_fault (SpecFault.At code place) = AddFault.TooManyNodes
add_fault SpecFault.NoMemory = AddFault.NoMemory
