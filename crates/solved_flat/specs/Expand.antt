-- The answer of `expand --solve` to a text, and with `--nodes` the list of formulas behind it (this project's own). A kind that is given stands for
-- those that the text names.
use Rattle.std.specs.Prelude.{◌≡◌, ℕ, zero, suc, Bool, true, false, List, [], ◌∷◌, ◌++◌, Option, codes, decimal, length, slice_index_or}
use Rattle.letters_and_lassos.specs.declared.kinds.Kind.{Kind}
use Rattle.spec_faults.specs.declared.code.SpecCode.{SpecCode}
use Rattle.ltl_formula.specs.declared.nodes.FormulaId.{FormulaId}
use Rattle.ltl_formula.specs.declared.nodes.Node.{Node}
use Rattle.ltl_formula.specs.declared.nodes.Node.TheVariants.{True, False, Signal, Not, Next, Finally, Globally, And, Or, Implies, Equiv, Until, Release, WeakUntil}
use Rattle.ltl_formula.specs.Nodes.{node_at}
use Rattle.kind_conversion.specs.declared.shifts.Shift.{Shift}
use Rattle.tlsf_expand.specs.FlatText.{FlatText}
use Rattle.flat_lines.specs.FlatLines.{all_names, flat_bytes_by}
use Rattle.solve_ground.specs.declared.texts.SolveText.{SolveText}
use Rattle.solve_ground.specs.SolveText.{IsSolveFault, IsSolveText}
use Rattle.solve_ground.specs.Taken.{taken_shift}
use Rattle.program_replies.specs.Lines.{refusal_line}
use Rattle.solved_flat.specs.Shown.{shown_names}

-- ---- the list of formulas

-- an operator, and the ids of its parts
abbrev pub of_one : List ℕ → FormulaId → List ℕ
of_one sign a = sign ++ 32 ∷ decimal a.0

abbrev pub of_two : List ℕ → FormulaId → FormulaId → List ℕ
of_two sign a b = of_one sign a ++ 32 ∷ decimal b.0

-- what a node is: a truth, a signal with its name, or an operator over nodes that stand before
abbrev pub node_words : List (List ℕ) → Node → List ℕ
node_words names True = codes "true"
node_words names False = codes "false"
node_words names (Signal s) = codes "signal " ++ slice_index_or names s []
node_words names (Not a) = of_one (codes "!") a
node_words names (Next a) = of_one (codes "X") a
node_words names (Finally a) = of_one (codes "F") a
node_words names (Globally a) = of_one (codes "G") a
node_words names (And a b) = of_two (codes "&&") a b
node_words names (Or a b) = of_two (codes "||") a b
node_words names (Implies a b) = of_two (codes "->") a b
node_words names (Equiv a b) = of_two (codes "<->") a b
node_words names (Until a b) = of_two (codes "U") a b
node_words names (Release a b) = of_two (codes "R") a b
node_words names (WeakUntil a b) = of_two (codes "W") a b

-- the line of the node at a place, which is its id
abbrev pub node_line : List (List ℕ) → List Node → ℕ → List ℕ
node_line names nodes place = codes "node " ++ decimal place ++ 32 ∷ (node_words names (node_at nodes place) ++ 10 ∷ [])

-- the lines of the first nodes of a list, so many
abbrev pub first_node_lines : List (List ℕ) → List Node → ℕ → List ℕ
first_node_lines names nodes zero = []
first_node_lines names nodes (suc place) = first_node_lines names nodes place ++ node_line names nodes place

abbrev pub node_lines : List (List ℕ) → List Node → List ℕ
node_lines names nodes = first_node_lines names nodes (length nodes)

-- ---- the answer

-- the list of formulas, where it is asked for
abbrev pub listed : Bool → FlatText → List Node → List ℕ
listed true flat nodes = node_lines (all_names flat.expanded) nodes
listed false flat nodes = []

-- the flat text, with X before each signal that is shifted, and behind it the list of formulas where it is asked for
abbrev pub expansion_bytes : Bool → Option Shift → FlatText → List Node → List ℕ
expansion_bytes with_nodes shift flat nodes = flat_bytes_by (shown_names shift flat.expanded) flat ++ listed with_nodes flat nodes

-- The bytes and the status: the line of the text's first fault as `solve` takes it, or the text as it is taken, written out flat.
pub data ExpandSolveAnswers (text : List ℕ) (given : Option Kind) (with_nodes : Bool) (bytes : List ℕ) (status : ℕ) : Type 0 where
  refused : (code : SpecCode) (place : ℕ) → status ≡ 1 → IsSolveFault text given code place → bytes ≡ refusal_line code place
      → ExpandSolveAnswers text given with_nodes bytes status
  written : (known : SolveText) (is : IsSolveText text given known) → status ≡ 0
      → bytes ≡ expansion_bytes with_nodes (taken_shift given is.taken.tree) is.flat known.formulas → ExpandSolveAnswers text given with_nodes bytes status
