use Rattle.std.proofs.Common.{rules, ◌<◌, length, map}
use Rattle.tlsf_reader.specs.Parts.{words_of_definitions, definitions_of}
use Rattle.tlsf_syntax.specs.Seen.{word_seen}
use Rattle.tlsf_reader.specs.TextView.{block_view, part_view}
use Rattle.tlsf_reader.proofs.Repeats.{more_block_words, more_part_words}
use Rattle.tlsf_reader.proofs.repeat.words.Goals as goal

pub loop-block-preserved : goal.loop-block-preserved
loop-block-preserved c =
    let within : c.loop-block.block-index < length c.deref-block-items.result.now = search rules in
    more_block_words block_view (map (λ w. word_seen w.now) c.loop-block.words.items) (map (λ w. word_seen w.now) c.push_block.new.words.items) c.deref-block-items.result.now c.loop-block.block-index c.block-item.result _ c.in_ok-push_block.ensures
    c.block-item.is within c.loop-block.invariant

pub loop-part-preserved : goal.loop-part-preserved
loop-part-preserved c =
    let within : c.loop-part.part-index < length c.deref-part-items.result.now = search rules in
    more_part_words part_view (words_of_definitions (definitions_of (map block_view c.args.written.now.blocks.items))) (map (λ w. word_seen w.now) c.loop-part.words.items) (map (λ w. word_seen w.now) c.push_part.new.words.items)
    c.deref-part-items.result.now c.loop-part.part-index c.part-item.result _ c.in_ok-push_part.ensures c.part-item.is within c.loop-part.invariant
