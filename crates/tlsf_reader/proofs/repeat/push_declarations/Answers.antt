use Rattle.std.proofs.Common.{rules, ◌<◌, length, refl}
use Rattle.tlsf_syntax.specs.Seen.{word_seen}
use Rattle.tlsf_reader.proofs.Repeats.{one_more_word}
use Rattle.tlsf_reader.proofs.repeat.push_declarations.Goals as goal

pub loop-declaration-preserved : goal.loop-declaration-preserved
loop-declaration-preserved c =
    let within : c.loop-declaration.declaration-index < length c.args.declarations.now = search rules in
    one_more_word (λ w. word_seen w.now) (λ m. word_seen m.word) c.args.words.now.items c.loop-declaration.words.items c.push.new.self.items _ c.args.declarations.now c.loop-declaration.declaration-index c.declaration-item.result _ c.in_ok-push.ensures.items refl
    c.declaration-item.is within c.loop-declaration.invariant
