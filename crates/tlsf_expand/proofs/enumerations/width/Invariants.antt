use Rattle.std.proofs.Common.{◌≡◌, map, drop}
use Rattle.tlsf_values.specs.Patterns.{all_values}
use Rattle.tlsf_syntax.specs.Seen.{member_seen}
use Rattle.tlsf_expand.specs.Signals.{width_of}
use Rattle.tlsf_expand.proofs.enumerations.width.Given as goal

abbrev pub invariant-loop-member : goal.invariant-loop-member
invariant-loop-member l = width_of (all_values (map member_seen l.fn.members)) ≡ width_of (all_values (map member_seen (drop l.member-index l.members)))
