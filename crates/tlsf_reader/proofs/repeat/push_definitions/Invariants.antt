use Rattle.std.proofs.Common.{◌≡◌, ◌++◌, map, take}
use Rattle.tlsf_reader.specs.Parts.{words_of_definitions}
use Rattle.tlsf_syntax.specs.Seen.{word_seen, definition_seen}
use Rattle.tlsf_reader.proofs.repeat.push_definitions.Given as goal

abbrev pub invariant-loop-definition : goal.invariant-loop-definition
invariant-loop-definition l = map (λ w. word_seen w.now) l.words.items ≡ map (λ w. word_seen w.now) l.fn.words.items ++ words_of_definitions (map definition_seen (take l.definition-index l.definitions))
