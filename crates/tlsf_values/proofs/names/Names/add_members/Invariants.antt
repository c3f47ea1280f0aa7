use Rattle.std.proofs.Common.{◌≡◌, map, drop}
use Rattle.tlsf_values.specs.Names.{with_members}
use Rattle.tlsf_values.specs.NamesSeen.{names_seen}
use Rattle.tlsf_syntax.specs.Seen.{member_seen}
use Rattle.tlsf_values.proofs.names.Names.add_members.Given as goal

abbrev pub invariant-loop-member : goal.invariant-loop-member
invariant-loop-member l = with_members (names_seen l.fn.self) (map member_seen l.fn.members) ≡ with_members (names_seen l.self) (map member_seen (drop l.member-index l.members))
