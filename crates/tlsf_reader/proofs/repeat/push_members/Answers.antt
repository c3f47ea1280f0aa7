use Rattle.std.proofs.Common.{rules, ◌<◌, length, refl}
use Rattle.tlsf_syntax.specs.Seen.{word_seen}
use Rattle.tlsf_reader.proofs.Repeats.{one_more_word}
use Rattle.tlsf_reader.proofs.repeat.push_members.Goals as goal

pub loop-member-preserved : goal.loop-member-preserved
loop-member-preserved c =
    let within : c.loop-member.member-index < length c.args.members.now = search rules in
    one_more_word (λ w. word_seen w.now) (λ m. word_seen m.word) c.args.words.now.items c.loop-member.words.items c.push.new.self.items _ c.args.members.now c.loop-member.member-index c.member-item.result _ c.in_ok-push.ensures.items refl
    c.member-item.is within c.loop-member.invariant
