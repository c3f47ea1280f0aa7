-- The code's lexemes as the grammar sees them.
use Rattle.tlsf_syntax.specs.Lexemes.{Lexeme as GrammarLexeme}
use Rattle.tlsf_reader.specs.declared.lexeme.Lexeme.{Lexeme}

abbrev pub seen : Lexeme → GrammarLexeme
seen l = record { symbol = l.symbol; text = l.text.now; start = l.start; end = l.end }
