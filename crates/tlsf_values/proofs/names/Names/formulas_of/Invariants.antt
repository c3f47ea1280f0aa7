use Rattle.std.proofs.Common.{◌≡◌, ◌++◌, map, drop}
use Rattle.ltl_formula.specs.Nodes.{Grows}
use Rattle.tlsf_values.specs.NamesSeen.{names_seen}
use Rattle.tlsf_values.specs.Outcomes.{gives, go_on}
use Rattle.tlsf_values.specs.SectionValues.{section_value}
use Rattle.tlsf_syntax.specs.Seen.{expr_seen}
use Rattle.tlsf_values.proofs.names.Names.formulas_of.Given as goal

abbrev pub invariant-loop-expr : goal.invariant-loop-expr
invariant-loop-expr l =
    Grows l.fn.work.formulas l.work.formulas ×
    (section_value (names_seen l.self) (map expr_seen l.exprs) l.fn.work
    ≡ go_on (section_value (names_seen l.self) (map expr_seen (drop l.expr-index l.exprs)) l.work) (λ more w. gives (l.ids.items ++ more) w))
