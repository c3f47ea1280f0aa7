use Rattle.std.proofs.Common.{◌≡◌, map, drop}
use Rattle.tlsf_syntax.specs.Seen.{pattern_seen}
use Rattle.tlsf_values.specs.Patterns.{are_wide}
use Rattle.tlsf_values.proofs.patterns.are_so_wide.Given as goal

abbrev pub invariant-loop-value : goal.invariant-loop-value
invariant-loop-value l = are_wide l.width (map pattern_seen l.fn.values) ≡ are_wide l.width (map pattern_seen (drop l.value-index l.values))
