use Rattle.std.proofs.Common.{◌≡◌, ◌++◌, map, take}
use Rattle.tlsf_syntax.specs.Seen.{word_seen}
use Rattle.tlsf_reader.proofs.repeat.push_declarations.Given as goal

abbrev pub invariant-loop-declaration : goal.invariant-loop-declaration
invariant-loop-declaration l = map (λ w. word_seen w.now) l.words.items ≡ map (λ w. word_seen w.now) l.fn.words.items ++ map (λ d. word_seen d.word) (take l.declaration-index l.declarations)
