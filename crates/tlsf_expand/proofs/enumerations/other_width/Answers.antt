use Rattle.std.proofs.Common.{sym, ap, map, drop, ◌+◌, ◌∙◌}
use Rattle.tlsf_values.specs.Patterns.{all_values}
use Rattle.tlsf_values.proofs.PatternLemmas.{seen_from}
use Rattle.tlsf_syntax.specs.Seen.{member_seen, pattern_seen}
use Rattle.tlsf_expand.specs.Signals.{first_of, other_width}
use Rattle.tlsf_expand.proofs.Laying.{other_width_append}
use Rattle.tlsf_expand.proofs.enumerations.other_width.Goals as goal

pub returns-in-Some : goal.returns-in-Some
returns-in-Some c =
    let rest = all_values (map member_seen (drop (c.loop-member.member-index + 1) c.args.members.now)) in
    let h = rw c.deref.ensures.value at c.in-Some.ensures in
    sym (c.loop-member.invariant
    ∙ ap (other_width c.args.width) (seen_from c.args.members.now c.loop-member.member-index c.member-item.result c.loop-member-test.true c.member-item.is)
    ∙ other_width_append c.args.width (map pattern_seen c.member-item.result.values.items) rest ∙ ap (λ o. first_of o (other_width c.args.width rest)) (sym h))

pub loop-member-preserved : goal.loop-member-preserved
loop-member-preserved c =
    let rest = all_values (map member_seen (drop (c.loop-member.member-index + 1) c.args.members.now)) in
    let h = rw c.deref.ensures.value at c.in_default.ensures in
    c.loop-member.invariant
    ∙ ap (other_width c.args.width) (seen_from c.args.members.now c.loop-member.member-index c.member-item.result c.loop-member-test.true c.member-item.is)
    ∙ other_width_append c.args.width (map pattern_seen c.member-item.result.values.items) rest ∙ ap (λ o. first_of o (other_width c.args.width rest)) (sym h)
