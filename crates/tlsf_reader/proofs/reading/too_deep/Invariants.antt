use Rattle.std.proofs.Common.{◌≡◌, map, take}
use Rattle.tlsf_reader.specs.Seen.{seen}
use Rattle.tlsf_reader.specs.Faults.{symbols_of}
use Rattle.tlsf_reader.proofs.reading.too_deep.Given as goal

abbrev pub invariant-loop-lexeme : goal.invariant-loop-lexeme
invariant-loop-lexeme l = l.symbols.items ≡ symbols_of (map seen (take l.lexeme-index l.lexemes))
