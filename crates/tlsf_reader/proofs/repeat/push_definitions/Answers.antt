use Rattle.std.proofs.Common.{rules, ◌<◌, length, map}
use Rattle.tlsf_syntax.specs.Seen.{word_seen, definition_seen}
use Rattle.tlsf_reader.proofs.Repeats.{more_definition_words}
use Rattle.tlsf_reader.proofs.repeat.push_definitions.Goals as goal

pub loop-definition-preserved : goal.loop-definition-preserved
loop-definition-preserved c =
    let within : c.loop-definition.definition-index < length c.args.definitions.now = search rules in
    more_definition_words definition_seen (map (λ w. word_seen w.now) c.args.words.now.items) (map (λ w. word_seen w.now) c.loop-definition.words.items) (map (λ w. word_seen w.now) c.push_definition.new.words.items)
    c.args.definitions.now c.loop-definition.definition-index c.definition-item.result _ c.in_ok-push_definition.ensures c.definition-item.is within c.loop-definition.invariant
