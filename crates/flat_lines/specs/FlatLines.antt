-- A flat text written out (this project's own): its kind, the names of its signals, and a line for each formula of each
-- section.
use Rattle.std.specs.Prelude.{ℕ, Bool, List, [], ◌∷◌, ◌++◌, All, codes, flat_map, length, map, if◌then◌else◌}
use Rattle.letters_and_lassos.specs.declared.kinds.Kind.{Kind}
use Rattle.letters_and_lassos.specs.Kinds.{kind_word}
use Rattle.ltl_formula.specs.declared.nodes.Node.{Node}
use Rattle.ltl_formula.specs.Nodes.{IsNodeList, IsNodeIn, tree_at}
use Rattle.ltl_formula.specs.ListSignals.{HasSignalsBelow}
use Rattle.ltl_formula.specs.Text.{formula_text}
use Rattle.tlsf_expand.specs.Expansion.{Expanded}
use Rattle.tlsf_expand.specs.FlatText.{FlatText}
use Rattle.tlsf_tokens.specs.declared.symbol.Section.{Section}
use Rattle.tlsf_tokens.specs.declared.symbol.Section.TheVariants.{Initially, Preset, Require, Assert, Assume, Guarantee}
use Rattle.flat_lines.specs.declared.lines.Line.{Line}
use Rattle.flat_lines.specs.declared.lines.Line.TheVariants.{Kinds, Inputs, Outputs, Formula}

abbrev pub section_word : Section → List ℕ
section_word Initially = codes "initially"
section_word Preset = codes "preset"
section_word Require = codes "require"
section_word Assert = codes "assert"
section_word Assume = codes "assume"
section_word Guarantee = codes "guarantee"

abbrev pub kind_line : Kind → Bool → List ℕ
kind_line kind strict = codes "kind " ++ kind_word kind ++ (if strict then codes " strict" else [])

-- a word, and each name with a blank before it
abbrev pub names_line : List ℕ → List (List ℕ) → List ℕ
names_line word names = word ++ flat_map (λ name. 32 ∷ name) names

abbrev pub all_names : Expanded → List (List ℕ)
all_names x = x.inputs ++ x.outputs

-- the lines in their order: sections are in the order of TLSF 1.1
abbrev pub lines_in : Expanded → List Line
lines_in x =
    (Kinds ∷ Inputs ∷ Outputs ∷ []) ++ map (Formula Initially) x.sections.initially ++ map (Formula Preset) x.sections.preset
    ++ map (Formula Require) x.sections.require ++ map (Formula Assert) x.sections.assert
    ++ map (Formula Assume) x.sections.assume ++ map (Formula Guarantee) x.sections.guarantee

-- a line where signals have these names in formulas
abbrev pub line_by : List (List ℕ) → FlatText → Line → List ℕ
line_by names flat Kinds = kind_line flat.expanded.kind flat.expanded.strict
line_by names flat Inputs = names_line (codes "inputs") flat.expanded.inputs
line_by names flat Outputs = names_line (codes "outputs") flat.expanded.outputs
line_by names flat (Formula section id) = section_word section ++ 32 ∷ formula_text names (tree_at flat.formulas id)

-- a line with its end
abbrev pub ended_line : List (List ℕ) → FlatText → Line → List ℕ
ended_line names flat line = line_by names flat line ++ 10 ∷ []

-- the flat text written out, where signals have these names in formulas
abbrev pub flat_bytes_by : List (List ℕ) → FlatText → List ℕ
flat_bytes_by names flat = flat_map (ended_line names flat) (lines_in flat.expanded)

-- the flat text written out
abbrev pub flat_bytes : FlatText → List ℕ
flat_bytes flat = flat_bytes_by (all_names flat.expanded) flat

-- the formula of a line stands in the list
abbrev pub LineStands : List Node → Line → Type 0
LineStands nodes (Formula section id) = IsNodeIn nodes id
LineStands nodes _ = Unit {0}

-- each formula stands in the list, which is one of formulas, and each signal has a name
pub record CanBeWritten (flat : FlatText) : Type 0 where
  pub list : IsNodeList flat.formulas
  pub stand : All (LineStands flat.formulas) (lines_in flat.expanded)
  pub named : HasSignalsBelow (length (all_names flat.expanded)) flat.formulas
