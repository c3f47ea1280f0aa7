-- The flat formulas of a text's sections, with those that are added for signals of a type, and the formula of the whole: this
-- project's profile of TLSF 1.1.
use Rattle.std.specs.Prelude.{Bool, true, false, List, [], ◌∷◌, ◌++◌, None}
use Rattle.ltl_formula.specs.declared.nodes.FormulaId.{FormulaId}
use Rattle.ltl_formula.specs.declared.nodes.Node.TheVariants as node
use Rattle.tlsf_syntax.specs.Tree.{Tree}
use Rattle.tlsf_values.specs.declared.work.Work.{Work}
use Rattle.tlsf_values.specs.Outcomes.{Outcome, gives, go_on, made}
use Rattle.tlsf_values.specs.Names.{Names}
use Rattle.tlsf_values.specs.Patterns.{values_made}
use Rattle.tlsf_values.specs.SectionValues.{section_value}
use Rattle.tlsf_syntax.specs.declared.sections.Sections.{Sections}
use Rattle.tlsf_expand.specs.Signals.{TypedSignal, Signals}

-- ---- the sections

-- one section after the other
abbrev pub in_order : {A B : Type 0} → (A → Work → Outcome B) → Sections A → Work → Outcome (Sections B)
in_order f s w =
    go_on (f s.initially w) (λ initially w. go_on (f s.preset w) (λ preset w. go_on (f s.require w) (λ require w.
    go_on (f s.assert w) (λ assert w. go_on (f s.assume w) (λ assume w. go_on (f s.guarantee w) (λ guarantee w.
    gives (record { initially = initially; preset = preset; require = require; assert = assert; assume = assume; guarantee = guarantee }) w))))))

abbrev pub written_sections : Names → Sections (List Tree) → Work → Outcome (Sections (List FormulaId))
written_sections names s w = in_order (section_value names) s w

-- one of the type's values stands at the signal: a formula for each, which counts no evaluation
abbrev pub added_value : List TypedSignal → Work → Outcome (List FormulaId)
added_value [] w = gives [] w
added_value (t ∷ ts) w = go_on (values_made t.place t.first t.values None w) (λ id w. go_on (added_value ts w) (λ ids w. gives (id ∷ ids) w))

-- those of inputs stand at the end of REQUIRE, those of outputs at the end of ASSERT
abbrev pub with_added : Sections (List FormulaId) → List FormulaId → List FormulaId → Sections (List FormulaId)
with_added s of_inputs of_outputs =
    record { initially = s.initially; preset = s.preset; require = s.require ++ of_inputs; assert = s.assert ++ of_outputs; assume = s.assume; guarantee = s.guarantee }

abbrev pub sections_value : Signals → Sections (List Tree) → Work → Outcome (Sections (List FormulaId))
sections_value signals s w =
    go_on (written_sections signals.names s w) (λ written w. go_on (added_value signals.typed_inputs w) (λ of_inputs w.
    go_on (added_value signals.typed_outputs w) (λ of_outputs w. gives (with_added written of_inputs of_outputs) w)))

-- ---- the whole, whose faults have place 0

abbrev pub joined_more : FormulaId → List FormulaId → Work → Outcome FormulaId
joined_more so_far [] w = gives so_far w
joined_more so_far (id ∷ ids) w = go_on (made 0 (node.And so_far id) w) (λ both w. joined_more both ids w)

-- the formulas of a section joined to the left; without any it is true
abbrev pub conjoined : List FormulaId → Work → Outcome FormulaId
conjoined [] w = made 0 node.True w
conjoined (id ∷ ids) w = joined_more id ids w

-- `e -> (s && ((G E && A) -> (G S && H)))`, the parts from left to right before the whole
abbrev pub standard_value : Sections (List FormulaId) → Work → Outcome FormulaId
standard_value x w =
    go_on (conjoined x.initially w) (λ e w. go_on (conjoined x.preset w) (λ s w.
    go_on (conjoined x.require w) (λ E w. go_on (made 0 (node.Globally E) w) (λ always_E w.
    go_on (conjoined x.assume w) (λ A w. go_on (made 0 (node.And always_E A) w) (λ given w.
    go_on (conjoined x.assert w) (λ S w. go_on (made 0 (node.Globally S) w) (λ always_S w.
    go_on (conjoined x.guarantee w) (λ H w. go_on (made 0 (node.And always_S H) w) (λ owed w.
    go_on (made 0 (node.Implies given owed) w) (λ kept w. go_on (made 0 (node.And s kept) w) (λ all w.
    made 0 (node.Implies e all) w))))))))))))

-- `e -> (s && (S W !E) && ((G E && A) -> H))`
abbrev pub strict_value : Sections (List FormulaId) → Work → Outcome FormulaId
strict_value x w =
    go_on (conjoined x.initially w) (λ e w. go_on (conjoined x.preset w) (λ s w.
    go_on (conjoined x.assert w) (λ S w. go_on (conjoined x.require w) (λ E w.
    go_on (made 0 (node.Not E) w) (λ broken w. go_on (made 0 (node.WeakUntil S broken) w) (λ until_broken w.
    go_on (made 0 (node.And s until_broken) w) (λ both w. go_on (made 0 (node.Globally E) w) (λ always_E w.
    go_on (conjoined x.assume w) (λ A w. go_on (made 0 (node.And always_E A) w) (λ given w.
    go_on (conjoined x.guarantee w) (λ H w. go_on (made 0 (node.Implies given H) w) (λ kept w.
    go_on (made 0 (node.And both kept) w) (λ all w. made 0 (node.Implies e all) w)))))))))))))

abbrev pub whole_value : Bool → Sections (List FormulaId) → Work → Outcome FormulaId
whole_value false x w = standard_value x w
whole_value true x w = strict_value x w
