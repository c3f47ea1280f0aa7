-- Spans of derived trees.
use Rattle.std.proofs.Common.{◌≡◌, List, refl}
use Rattle.tlsf_syntax.specs.Tree.{Tree, tree_span}
use Rattle.tlsf_syntax.specs.Lexemes.{Lexeme, span_of}
use Rattle.tlsf_syntax.specs.declared.level.Level.{Level}
use Rattle.tlsf_syntax.specs.Expressions.{Derives, of_tighter}

pub whole : (n : Level) (ls : List Lexeme) (t : Tree) → Derives n ls t → tree_span t ≡ span_of ls
whole n ls t (of_tighter m k ms u a b) = whole m ms u b
whole n ls t _ = refl
