use Rattle.std.proofs.Common.{◌≡◌, ◌++◌, map, take}
use Rattle.tlsf_reader.specs.Parts.{definitions_of, words_of_definitions, words_of_parts}
use Rattle.tlsf_syntax.specs.Seen.{word_seen}
use Rattle.tlsf_reader.specs.TextView.{block_view, part_view}
use Rattle.tlsf_reader.proofs.repeat.words.Given as goal

abbrev pub invariant-loop-block : goal.invariant-loop-block
invariant-loop-block l = map (λ w. word_seen w.now) l.words.items ≡ words_of_definitions (definitions_of (map block_view (take l.block-index l.block-items)))

abbrev pub invariant-loop-part : goal.invariant-loop-part
invariant-loop-part l =
    map (λ w. word_seen w.now) l.words.items ≡ words_of_definitions (definitions_of (map block_view l.written.blocks.items)) ++ words_of_parts (map part_view (take l.part-index l.part-items))
