use Rattle.std.proofs.Common.{◌≡◌, map, drop}
use Rattle.tlsf_syntax.specs.Seen.{pattern_seen}
use Rattle.tlsf_expand.specs.Signals.{other_width}
use Rattle.tlsf_expand.proofs.enumerations.other_width_among.Given as goal

abbrev pub invariant-loop-value : goal.invariant-loop-value
invariant-loop-value l = other_width l.width (map pattern_seen l.fn.values) ≡ other_width l.width (map pattern_seen (drop l.value-index l.values))
