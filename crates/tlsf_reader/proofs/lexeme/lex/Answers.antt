use Rattle.tlsf_reader.proofs.Lexing.{tokens_of}
use Rattle.tlsf_reader.proofs.lexeme.lex.Goals as goal

pub lexemes-requires : goal.lexemes-requires
lexemes-requires c = rw c.deref.ensures.value (tokens_of _ _ _ _ c.in_ok-list.ensures.in_order c.in_ok-list.ensures.stop)
