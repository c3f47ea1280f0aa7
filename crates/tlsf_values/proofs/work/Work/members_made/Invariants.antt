use Rattle.std.proofs.Common.{◌≡◌, None, map, drop}
use Rattle.ltl_formula.specs.Nodes.{Grows}
use Rattle.tlsf_values.specs.Patterns.{all_values, values_made}
use Rattle.tlsf_syntax.specs.Seen.{member_seen}
use Rattle.tlsf_values.proofs.work.Work.members_made.Given as goal

abbrev pub invariant-loop-member : goal.invariant-loop-member
invariant-loop-member l =
    (values_made l.place l.first (all_values (map member_seen l.fn.members)) None l.fn.self ≡ values_made l.place l.first (all_values (map member_seen (drop l.member-index l.members))) l.so_far l.self) × Grows l.fn.self.formulas l.self.formulas
