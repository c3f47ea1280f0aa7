use Rattle.std.proofs.Common.{◌≡◌, map, take}
use Rattle.tlsf_reader.specs.Lexed.{lexeme_from}
use Rattle.tlsf_reader.specs.Seen.{seen}
use Rattle.tlsf_reader.proofs.lexeme.lexemes.Given as goal

abbrev pub invariant-loop-token : goal.invariant-loop-token
invariant-loop-token l = map seen l.list.items ≡ map (lexeme_from l.text) (take l.token-index l.tokens)
