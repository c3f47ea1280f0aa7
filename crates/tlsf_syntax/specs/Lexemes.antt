-- What the grammar sees of a text: its tokens, each with its symbol, its bytes and its place.
use Rattle.std.specs.Prelude.{◌≡◌, ℕ, ◌+◌, ◌*◌, ◌-◌, ℤ, pos, if◌then◌else◌, nat_lt, List, [], ◌∷◌, Option, None, Some}
use Rattle.tlsf_syntax.specs.declared.expr.Span.{Span}
use Rattle.tlsf_tokens.specs.declared.symbol.Symbol.{Symbol}
use Rattle.tlsf_syntax.specs.Tree.{Named}

pub record Lexeme : Type 0 where
  pub symbol : Symbol
  pub text : List ℕ
  pub start : ℕ
  pub end : ℕ

-- the list is one lexeme of this symbol
abbrev pub Is : Symbol → Lexeme → Type 0
Is symbol l = l.symbol ≡ symbol

abbrev pub lexeme_span : Lexeme → Span
lexeme_span l = record { start = l.start; end = l.end }

abbrev pub word_of : Lexeme → Named
word_of l = record { name = l.text; span = lexeme_span l }

-- the byte after the last lexeme, or `end` where there is none
abbrev pub end_from : ℕ → List Lexeme → ℕ
end_from end [] = end
end_from end (l ∷ ls) = end_from l.end ls

-- from the first byte of the first lexeme to the byte after the last one
abbrev pub span_of : List Lexeme → Span
span_of [] = record { start = 0; end = 0 }
span_of (l ∷ ls) = record { start = l.start; end = end_from l.end ls }

abbrev pub decimal_from : ℕ → List ℕ → ℕ
decimal_from n [] = n
decimal_from n (digit ∷ digits) = decimal_from (n * 10 + (digit - 48)) digits

-- a literal's number, where it fits 64 bits signed
abbrev pub literal_of : List ℕ → Option ℤ
literal_of digits = if nat_lt (decimal_from 0 digits) 9223372036854775808 then Some (pos (decimal_from 0 digits)) else None
