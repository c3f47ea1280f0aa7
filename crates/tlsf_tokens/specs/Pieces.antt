-- What bytes are as a whole, by the lexical rules of TLSF 1.1: a blank, a comment, a token, or a fault.
use Rattle.std.specs.Prelude.{◌≡◌, ◌<◌, ℕ, zero, suc, false, not, ◌&&◌, ◌==◌, nat_eq, if◌then◌else◌, List, [], ◌∷◌, drop, length, slice_index, codes, Option, None, Some, unwrap_or}
use Rattle.std.specs.Char.{is_ascii_digit}
use Rattle.std.specs.List.{list_all, starts_with}
use Rattle.tlsf_tokens.specs.Words.{is_blank, is_name_start, is_name_part, is_among, symbol_in, signs, words, unsupported_words, unsupported_signs}
use Rattle.spec_faults.specs.declared.code.SpecCode.TheVariants.{Unclosed, Unsupported}
use Rattle.tlsf_tokens.specs.declared.symbol.Symbol.{Symbol}
use Rattle.tlsf_tokens.specs.declared.symbol.Symbol.TheVariants as symbol
use Rattle.tlsf_tokens.specs.declared.token.Piece.{Piece}
use Rattle.tlsf_tokens.specs.declared.token.Piece.TheVariants.{Gap, Token, Fault}

-- a name, by the tables of words
abbrev pub word_piece : List ℕ → Piece
word_piece word =
    if is_among unsupported_words word then Fault Unsupported else Token (unwrap_or (symbol_in words word) symbol.Ident)

-- a text, where its closing quote is the last byte
abbrev pub text_before : List ℕ → Option Piece
text_before [] = Some (Token symbol.Text)
text_before (b ∷ w) = None

-- what `"` and these bytes are: a text where the first quote among them is the last byte, unclosed where there is none
abbrev pub quoted_piece : List ℕ → Option Piece
quoted_piece [] = Some (Fault Unclosed)
quoted_piece (b ∷ w) = if b == 34 then text_before w else quoted_piece w

-- What these bytes are where so many comments are open before them. Only `/*` and `*/` count, read from left to right
-- without overlap; a comment is whole where its last bytes close it, and unclosed where it is still open after them.
abbrev pub comment_piece : ℕ → List ℕ → Option Piece
comment_piece zero [] = Some Gap
comment_piece zero (b ∷ w) = None
comment_piece (suc n) [] = Some (Fault Unclosed)
comment_piece (suc n) (b ∷ []) = Some (Fault Unclosed)
comment_piece (suc n) (b ∷ c ∷ w) =
    if b == 47 && c == 42 then comment_piece (suc (suc n)) w else (if b == 42 && c == 47 then comment_piece n w else comment_piece (suc n) (c ∷ w))

abbrev pub sign_or : Option Symbol → List ℕ → Option Piece
sign_or (Some symbol) w = Some (Token symbol)
sign_or None w = if is_among unsupported_signs w then Some (Fault Unsupported) else None

abbrev pub sign_piece : List ℕ → Option Piece
sign_piece w = sign_or (symbol_in signs w) w

-- bytes that begin with none of a name, a number, a text and a blank; a comment `//` has no LF in it
abbrev pub mark_piece : List ℕ → Option Piece
mark_piece w =
    if starts_with nat_eq w (codes "//") then (if list_all (λ b. not (b == 10)) w then Some Gap else None)
    else (if starts_with nat_eq w (codes "/*") then comment_piece 1 (drop 2 w) else sign_piece w)

-- what the bytes are as a whole, or nothing that TLSF has
unfoldable pub piece_of : List ℕ → Option Piece
piece_of [] = None
piece_of (b ∷ w) =
    if is_name_start b then (if list_all is_name_part w then Some (word_piece (b ∷ w)) else None)
    else (if is_ascii_digit b then (if list_all is_ascii_digit w then Some (Token symbol.Number) else None)
    else (if b == 34 then quoted_piece w
    else (if is_blank b then (if list_all (λ _. false) w then Some Gap else None) else mark_piece (b ∷ w))))

-- the text begins with a sign, or with nothing that TLSF has
pub record BeginsSign (text : List ℕ) : Type 0 where
  pub some : 0 < length text
  pub name : is_name_start (slice_index text 0) ≡ false
  pub digit : is_ascii_digit (slice_index text 0) ≡ false
  pub quote : (slice_index text 0 == 34) ≡ false
  pub blank : is_blank (slice_index text 0) ≡ false
  pub line : starts_with nat_eq text (codes "//") ≡ false
  pub comment : starts_with nat_eq text (codes "/*") ≡ false
