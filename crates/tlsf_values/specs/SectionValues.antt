-- The flat formulas of a section: this project's profile of TLSF 1.1.
use Rattle.std.specs.Prelude.{ℕ, List, [], ◌∷◌}
use Rattle.ltl_formula.specs.declared.nodes.FormulaId.{FormulaId}
use Rattle.spec_faults.specs.declared.code.SpecCode.TheVariants.{WrongSort}
use Rattle.tlsf_syntax.specs.Tree.{Tree}
use Rattle.tlsf_values.specs.declared.value.Value.{Value}
use Rattle.tlsf_values.specs.declared.value.Value.TheVariants.{Truth, Flat}
use Rattle.tlsf_values.specs.declared.work.Work.{Work}
use Rattle.tlsf_values.specs.Outcomes.{Outcome, gives, fails, go_on, made}
use Rattle.tlsf_values.specs.Names.{Names}
use Rattle.tlsf_values.specs.Formulas.{truth_node}
use Rattle.tlsf_values.specs.Values.{span_start, value_at}

-- a formula of a section: a truth becomes a node
abbrev pub section_formula : ℕ → Value → Work → Outcome FormulaId
section_formula place (Truth b) w = made place (truth_node b) w
section_formula place (Flat id) w = gives id w
section_formula place _ w = fails WrongSort place

abbrev pub section_value : Names → List Tree → Work → Outcome (List FormulaId)
section_value names [] w = gives [] w
section_value names (t ∷ ts) w =
    go_on (value_at names [] t 0 w) (λ v w. go_on (section_formula (span_start t) v w) (λ id w. go_on (section_value names ts w) (λ ids w. gives (id ∷ ids) w)))
