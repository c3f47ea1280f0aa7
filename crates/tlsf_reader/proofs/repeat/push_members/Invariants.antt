use Rattle.std.proofs.Common.{◌≡◌, ◌++◌, map, take}
use Rattle.tlsf_syntax.specs.Seen.{word_seen}
use Rattle.tlsf_reader.proofs.repeat.push_members.Given as goal

abbrev pub invariant-loop-member : goal.invariant-loop-member
invariant-loop-member l = map (λ w. word_seen w.now) l.words.items ≡ map (λ w. word_seen w.now) l.fn.words.items ++ map (λ m. word_seen m.word) (take l.member-index l.members)
