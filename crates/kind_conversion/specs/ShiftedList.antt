use Rattle.std.specs.Prelude.{ℕ, Bool, false, List, [], ◌∷◌, ◌++◌, Option, None, Some, option_and_then, option_map, slice_index_or, if◌then◌else◌}
use Rattle.ltl_formula.specs.declared.nodes.FormulaId.{FormulaId}
use Rattle.ltl_formula.specs.declared.nodes.Node.{Node}
use Rattle.ltl_formula.specs.declared.nodes.Node.TheVariants.{True, False, Signal, Not, Next, Finally, Globally, And, Or, Implies, Equiv, Until, Release, WeakUntil}
use Rattle.ltl_formula.specs.Added.{Built, added}
use Rattle.kind_conversion.specs.declared.shifts.Shift.{Shift}
use Rattle.kind_conversion.specs.declared.conversion.ConvertedList.{ConvertedList}
use Rattle.kind_conversion.specs.Shifts.{is_shifted}

-- the list that is made anew, and the ids in it of the shifted forms of the nodes as written, in their order
pub record ShiftedList : Type 0 where
  pub nodes : List Node
  pub forms : List FormulaId

-- the shifted form of a node that stands before
abbrev pub form_at : List FormulaId → FormulaId → FormulaId
form_at forms part = slice_index_or forms part.0 (record { 0 = 0 })

-- the node over the shifted forms of its parts
abbrev pub over_forms : List FormulaId → Node → Node
over_forms forms True = True
over_forms forms False = False
over_forms forms (Signal s) = Signal s
over_forms forms (Not a) = Not (form_at forms a)
over_forms forms (Next a) = Next (form_at forms a)
over_forms forms (Finally a) = Finally (form_at forms a)
over_forms forms (Globally a) = Globally (form_at forms a)
over_forms forms (And a b) = And (form_at forms a) (form_at forms b)
over_forms forms (Or a b) = Or (form_at forms a) (form_at forms b)
over_forms forms (Implies a b) = Implies (form_at forms a) (form_at forms b)
over_forms forms (Equiv a b) = Equiv (form_at forms a) (form_at forms b)
over_forms forms (Until a b) = Until (form_at forms a) (form_at forms b)
over_forms forms (Release a b) = Release (form_at forms a) (form_at forms b)
over_forms forms (WeakUntil a b) = WeakUntil (form_at forms a) (form_at forms b)

-- whether the node is a shifted signal
abbrev pub is_shifted_node : Shift → ℕ → Node → Bool
is_shifted_node shift inputs (Signal s) = is_shifted shift inputs s
is_shifted_node shift inputs _ = false

-- X of what was made, if it was
abbrev pub then_next : ℕ → Built → Built
then_next most built = on_made built.made
  where
    on_made : Option FormulaId → Built
    on_made (Some id) = added most built.nodes (Next id)
    on_made None = built

-- the shifted form of one node, put into the list: of a shifted signal the signal and then its X
abbrev pub put_form : ℕ → Shift → ℕ → List FormulaId → Node → List Node → Built
put_form most shift inputs forms node nodes =
    if is_shifted_node shift inputs node then then_next most (added most nodes (over_forms forms node)) else added most nodes (over_forms forms node)

-- the shifted forms of more nodes, in their order; none where the list has no room
abbrev pub put_forms : ℕ → Shift → ℕ → List Node → ShiftedList → Option ShiftedList
put_forms most shift inputs [] made = Some made
put_forms most shift inputs (node ∷ nodes) made =
    let built : Built = put_form most shift inputs made.forms node made.nodes in
    option_and_then (λ id. put_forms most shift inputs nodes (record { nodes = built.nodes; forms = made.forms ++ id ∷ [] })) built.made

-- the list of a converted text and the id of its whole; none where the list has no room (this project's own)
abbrev pub converted_of : ℕ → Shift → ℕ → List Node → FormulaId → Option ConvertedList
converted_of most shift inputs nodes whole =
    option_map (λ made. let c : ConvertedList = record { formulas = made.nodes; whole = form_at made.forms whole } in c)
    (put_forms most shift inputs nodes (record { nodes = []; forms = [] }))
