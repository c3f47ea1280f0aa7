-- A text as the grammar sees it: its lexemes, up to where its tokens stop.
use Rattle.std.specs.Prelude.{◌≡◌, ◌≤◌, ℕ, List, length, map, slice_range, Option}
use Rattle.spec_faults.specs.declared.code.SpecCode.{SpecCode}
use Rattle.tlsf_tokens.specs.Cuts.{CutsText}
use Rattle.tlsf_tokens.specs.declared.token.Token.{Token}
use Rattle.tlsf_syntax.specs.Lexemes.{Lexeme}

-- what the grammar sees of a token
abbrev pub lexeme_from : List ℕ → Token → Lexeme
lexeme_from text token = record { symbol = token.symbol; text = slice_range text token.start token.end; start = token.start; end = token.end }

-- the token's bytes are of the text
abbrev pub IsTokenOf : List ℕ → Token → Type 0
IsTokenOf text token = (token.start ≤ token.end) × (token.end ≤ length text)

-- the text is cut into tokens up to this place, for this reason, and these are their lexemes
pub record IsLexed (text : List ℕ) (stop : Option SpecCode) (stop_at : ℕ) (lexemes : List Lexeme) : Type 0 where
  pub tokens : List Token
  pub cut : CutsText text stop stop_at 0 tokens
  pub are : lexemes ≡ map (lexeme_from text) tokens

pub record Lexed (text : List ℕ) : Type 0 where
  pub stop : Option SpecCode
  pub stop_at : ℕ
  pub lexemes : List Lexeme
  pub is : IsLexed text stop stop_at lexemes
