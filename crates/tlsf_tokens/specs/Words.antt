-- The classes of bytes and the tables of words and signs of TLSF 1.1, with what this profile leaves out.
use Rattle.std.specs.Prelude.{ℕ, Bool, ◌||◌, ◌==◌, List, [], ◌∷◌, codes, Option, None, Some, if◌then◌else◌}
use Rattle.std.specs.Char.{is_ascii_alphabetic, is_ascii_digit}
use Rattle.std.specs.List.{list_any}
use Rattle.std.specs.Str.{bytes_eq}
use Rattle.tlsf_tokens.specs.declared.symbol.Section.TheVariants.{Initially, Preset, Require, Assert, Assume, Guarantee}
use Rattle.tlsf_tokens.specs.declared.symbol.Symbol.{Symbol}
use Rattle.tlsf_tokens.specs.declared.symbol.Symbol.TheVariants as symbol

-- space, tab, CR and LF
abbrev pub is_blank : ℕ → Bool
is_blank b = b == 32 || b == 9 || b == 13 || b == 10

-- a letter, `_` or `@`
abbrev pub is_name_start : ℕ → Bool
is_name_start b = is_ascii_alphabetic b || b == 95 || b == 64

-- what goes on with a name: a digit and `'` too
abbrev pub is_name_part : ℕ → Bool
is_name_part b = is_name_start b || is_ascii_digit b || b == 39

-- whether the word stands in the table
abbrev pub is_among : List (List ℕ) → List ℕ → Bool
is_among table word = list_any (bytes_eq word) table

-- what the first entry of the word means
abbrev pub symbol_in : List (List ℕ × Symbol) → List ℕ → Option Symbol
symbol_in [] word = None
symbol_in (entry ∷ table) word = if bytes_eq word entry.0 then Some entry.1 else symbol_in table word

unfoldable pub signs : List (List ℕ × Symbol)
signs =
    (codes "(*)", symbol.Meet) ∷ (codes "(+)", symbol.Join) ∷ (codes "(-)", symbol.Difference) ∷
    (codes "(\\)", symbol.Difference) ∷ (codes "<->", symbol.Equiv) ∷ (codes "..", symbol.Dots) ∷
    (codes "==", symbol.Equal) ∷ (codes "!=", symbol.Unequal) ∷ (codes "<=", symbol.LessEqual) ∷
    (codes ">=", symbol.GreaterEqual) ∷ (codes "&&", symbol.And) ∷ (codes "||", symbol.Or) ∷
    (codes "->", symbol.Implies) ∷ (codes "{", symbol.OpenBrace) ∷ (codes "}", symbol.CloseBrace) ∷
    (codes "(", symbol.OpenParen) ∷ (codes ")", symbol.CloseParen) ∷ (codes "[", symbol.OpenBracket) ∷
    (codes "]", symbol.CloseBracket) ∷ (codes ",", symbol.Comma) ∷ (codes ";", symbol.Semicolon) ∷
    (codes ":", symbol.Colon) ∷ (codes "=", symbol.Assign) ∷ (codes "<", symbol.Less) ∷ (codes ">", symbol.Greater) ∷
    (codes "+", symbol.Plus) ∷ (codes "-", symbol.Minus) ∷ (codes "*", symbol.Star) ∷ (codes "/", symbol.Slash) ∷
    (codes "%", symbol.Percent) ∷ (codes "!", symbol.Not) ∷ []

-- keywords, and words that are signs
unfoldable pub words : List (List ℕ × Symbol)
words =
    (codes "NOT", symbol.Not) ∷ (codes "AND", symbol.And) ∷ (codes "OR", symbol.Or) ∷ (codes "IMPLIES", symbol.Implies) ∷
    (codes "EQUIV", symbol.Equiv) ∷ (codes "INFO", symbol.Info) ∷ (codes "TITLE", symbol.Title) ∷
    (codes "DESCRIPTION", symbol.Description) ∷ (codes "SEMANTICS", symbol.Semantics) ∷ (codes "TARGET", symbol.Target) ∷
    (codes "TAGS", symbol.Tags) ∷ (codes "GLOBAL", symbol.Global) ∷ (codes "PARAMETERS", symbol.Parameters) ∷
    (codes "DEFINITIONS", symbol.Definitions) ∷ (codes "MAIN", symbol.Main) ∷ (codes "INPUTS", symbol.Inputs) ∷
    (codes "OUTPUTS", symbol.Outputs) ∷ (codes "INITIALLY", symbol.Section Initially) ∷
    (codes "PRESET", symbol.Section Preset) ∷ (codes "REQUIRE", symbol.Section Require) ∷
    (codes "REQUIREMENTS", symbol.Section Require) ∷ (codes "ASSERT", symbol.Section Assert) ∷
    (codes "ASSERTIONS", symbol.Section Assert) ∷ (codes "INVARIANTS", symbol.Section Assert) ∷
    (codes "ASSUME", symbol.Section Assume) ∷ (codes "ASSUMPTIONS", symbol.Section Assume) ∷
    (codes "GUARANTEE", symbol.Section Guarantee) ∷ (codes "GUARANTEES", symbol.Section Guarantee) ∷
    (codes "true", symbol.True) ∷ (codes "false", symbol.False) ∷ (codes "X", symbol.Next) ∷
    (codes "F", symbol.Finally) ∷ (codes "G", symbol.Globally) ∷ (codes "U", symbol.Until) ∷
    (codes "R", symbol.Release) ∷ (codes "W", symbol.WeakUntil) ∷ (codes "IN", symbol.In) ∷
    (codes "SIZEOF", symbol.SizeOf) ∷ (codes "OTHERWISE", symbol.Otherwise) ∷ (codes "otherwise", symbol.Otherwise) ∷
    (codes "enum", symbol.Enum) ∷ []

-- words of TLSF 1.1 that this profile refuses wherever they stand
unfoldable pub unsupported_words : List (List ℕ)
unsupported_words =
    codes "SUM" ∷ codes "PROD" ∷ codes "MIN" ∷ codes "MAX" ∷ codes "SIZE" ∷ codes "PLUS" ∷ codes "MINUS" ∷ codes "MUL" ∷ codes "DIV" ∷ codes "MOD"
    ∷ codes "CAP" ∷ codes "CUP" ∷ codes "SETMINUS" ∷ codes "EQ" ∷ codes "NEQ" ∷ codes "LE" ∷ codes "LEQ" ∷ codes "GE" ∷ codes "GEQ" ∷ codes "ELEM"
    ∷ codes "FORALL" ∷ codes "EXISTS" ∷ []

-- a sign that this profile refuses
unfoldable pub unsupported_signs : List (List ℕ)
unsupported_signs = codes "~" ∷ []
