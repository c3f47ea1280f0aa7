use Rattle.std.proofs.Common.{◌≡◌, map, drop}
use Rattle.ltl_formula.specs.Nodes.{Grows}
use Rattle.tlsf_syntax.specs.Seen.{pattern_seen}
use Rattle.tlsf_values.specs.Patterns.{values_joined}
use Rattle.tlsf_values.proofs.work.Work.values_joined.Given as goal

abbrev pub invariant-loop-value : goal.invariant-loop-value
invariant-loop-value l =
    (values_joined l.place l.first (map pattern_seen l.fn.values) l.fn.so_far l.fn.self ≡ values_joined l.place l.first (map pattern_seen (drop l.value-index l.values)) l.joined l.self) × Grows l.fn.self.formulas l.self.formulas
