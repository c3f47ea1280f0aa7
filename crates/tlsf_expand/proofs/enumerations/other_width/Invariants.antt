use Rattle.std.proofs.Common.{◌≡◌, map, drop}
use Rattle.tlsf_values.specs.Patterns.{all_values}
use Rattle.tlsf_syntax.specs.Seen.{member_seen}
use Rattle.tlsf_expand.specs.Signals.{other_width}
use Rattle.tlsf_expand.proofs.enumerations.other_width.Given as goal

abbrev pub invariant-loop-member : goal.invariant-loop-member
invariant-loop-member l =
    other_width l.width (all_values (map member_seen l.fn.members)) ≡ other_width l.width (all_values (map member_seen (drop l.member-index l.members)))
