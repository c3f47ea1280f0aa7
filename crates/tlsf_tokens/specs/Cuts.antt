-- A text cut into tokens: at each place the longest piece counts.
use Rattle.std.specs.Prelude.{◌≡◌, ◌<◌, ◌≤◌, ℕ, zero, suc, ◌+◌, List, [], ◌∷◌, ◌++◌, length, take, drop, slice_range, Option, None, Some, nat_le, if◌then◌else◌}
use Rattle.std.specs.Option.{option_map}
use Rattle.tlsf_tokens.specs.Words.{symbol_in, signs}
use Rattle.tlsf_tokens.specs.Pieces.{piece_of}
use Rattle.spec_faults.specs.declared.code.SpecCode.{SpecCode}
use Rattle.spec_faults.specs.declared.code.SpecCode.TheVariants.{BadByte}
use Rattle.tlsf_tokens.specs.declared.token.Piece.{Piece}
use Rattle.tlsf_tokens.specs.declared.token.Piece.TheVariants.{Gap, Token as token_piece, Fault}
use Rattle.tlsf_tokens.specs.declared.symbol.Symbol.{Symbol}
use Rattle.tlsf_tokens.specs.declared.token.Front.{Front}
use Rattle.tlsf_tokens.specs.declared.token.Token.{Token}

abbrev pub longest_or : Option Piece → ℕ → Option Front → Option Front
longest_or None len shorter = shorter
longest_or (Some piece) len shorter = Some (record { piece = piece; len = len })

-- the longest of the text's beginnings of at most n bytes that is a piece
abbrev pub longest_within : ℕ → List ℕ → Option Front
longest_within zero text = None
longest_within (suc n) text = longest_or (piece_of (take (suc n) text)) (suc n) (longest_within n text)

-- the longest piece at the front of the text
unfoldable pub longest : List ℕ → Option Front
longest text = longest_within (length text) text

-- the sign of so many bytes at the front of the text
abbrev pub sign_front : ℕ → List ℕ → Option Front
sign_front len text =
    if nat_le len (length text) then option_map (λ symbol. record { piece = token_piece symbol; len = len }) (symbol_in signs (take len text)) else None

abbrev pub fault_of : Option Front → Option SpecCode
fault_of None = Some BadByte
fault_of (Some front) = piece_fault front.piece
  where
    piece_fault : Piece → Option SpecCode
    piece_fault Gap = None
    piece_fault (token_piece symbol) = None
    piece_fault (Fault code) = Some code

-- nothing goes on at this place: the text ends here, or no token begins here for this fault
abbrev pub Stops : List ℕ → ℕ → Option SpecCode → Type 0
Stops text at None = at ≡ length text
Stops text at (Some code) = (at < length text) × (fault_of (longest (drop at text)) ≡ Some code)

-- From the place on the text is cut into these tokens, up to where it stops. Gaps are left out.
pub data CutsText (text : List ℕ) (stop : Option SpecCode) (stop_at : ℕ) : ℕ → List Token → Type 0 where
  ends : (at : ℕ) → at ≡ stop_at → Stops text at stop → CutsText text stop stop_at at []
  past_gap : (at len : ℕ) (tokens : List Token) → longest (drop at text) ≡ Some (record { piece = Gap; len = len })
      → CutsText text stop stop_at (at + len) tokens → CutsText text stop stop_at at tokens
  past_token : (at len : ℕ) (symbol : Symbol) (tokens : List Token) → longest (drop at text) ≡ Some (record { piece = token_piece symbol; len = len })
      → CutsText text stop stop_at (at + len) tokens → CutsText text stop stop_at at (record { symbol = symbol; start = at; end = at + len } ∷ tokens)

-- the tokens have at least a byte each, and stand one after another between the two places
abbrev pub IsInOrder : ℕ → List Token → ℕ → Type 0
IsInOrder from [] to = from ≤ to
IsInOrder from (token ∷ tokens) to = (from ≤ token.start) × (token.start < token.end) × IsInOrder token.end tokens to

-- the text of each token is of its symbol
abbrev pub AreFormed : List ℕ → List Token → Type 0
AreFormed text [] = Unit {0}
AreFormed text (token ∷ tokens) = (piece_of (slice_range text token.start token.end) ≡ Some (token_piece token.symbol)) × AreFormed text tokens

-- blanks and whole comments, one after another
pub data IsGap : List ℕ → Type 0 where
  none : IsGap []
  more : (bytes piece rest : List ℕ) → bytes ≡ piece ++ rest → piece_of piece ≡ Some Gap → IsGap rest → IsGap bytes

-- from one place to the other only gaps stand before, between and after the tokens
abbrev pub HasGapsAround : List ℕ → ℕ → List Token → ℕ → Type 0
HasGapsAround text from [] to = IsGap (slice_range text from to)
HasGapsAround text from (token ∷ tokens) to = IsGap (slice_range text from token.start) × HasGapsAround text token.end tokens to

-- two cuts of one text are the same: the tokens, why the list ends, and where
abbrev pub HasOneCut : Type 0
HasOneCut =
    (text : List ℕ) (stop stop' : Option SpecCode) (stop_at stop_at' : ℕ) (tokens tokens' : List Token)
    → CutsText text stop stop_at 0 tokens → CutsText text stop' stop_at' 0 tokens' → (tokens ≡ tokens') × (stop ≡ stop') × (stop_at ≡ stop_at')
