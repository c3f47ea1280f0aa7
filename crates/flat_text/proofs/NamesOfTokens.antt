-- Each name among the lexemes of a text is one word of one line.
use Rattle.std.proofs.Common.{◌≡◌, ℕ, zero, suc, Bool, true, false, inl, inr, List, [], ◌∷◌, drop, map, Option, None, Some, refl, sym, ap, subst, ◌∙◌}
use Rattle.std.specs.Prelude.{◌≢◌, ◌==◌, ◌&&◌, ◌||◌, not, nat_eq, if◌then◌else◌, codes, slice_range}
use Rattle.std.specs.Char.{is_ascii_digit}
use Rattle.std.specs.List.{list_all, starts_with}
use Rattle.std.specs.Str.{bytes_eq}
use Rattle.std.proofs.lemmas.Bool.{and_from, and_parts, eqb-true, false≢true, or_cases, not-true}
use Rattle.std.proofs.lemmas.List.Elements.{All-weaker}
use Rattle.std.proofs.lemmas.List.Sums.{AllPass-from_list_all, list_all-from_AllPass}
use Rattle.tlsf_tokens.specs.Words.{is_blank, is_name_start, is_name_part, is_among, symbol_in, signs, unsupported_signs}
use Rattle.tlsf_tokens.specs.Pieces.{word_piece, text_before, quoted_piece, comment_piece, sign_or, mark_piece, piece_of}
use Rattle.tlsf_tokens.specs.Cuts.{AreFormed}
use Rattle.tlsf_tokens.specs.declared.token.Token.{Token}
use Rattle.tlsf_tokens.specs.declared.token.Piece.{Piece}
use Rattle.tlsf_tokens.specs.declared.token.Piece.TheVariants as piece
use Rattle.tlsf_tokens.specs.declared.symbol.Symbol.{Symbol}
use Rattle.tlsf_tokens.proofs.Longest.{name_part}
use Rattle.tlsf_tokens.specs.declared.symbol.Symbol.TheVariants as symbol
use Rattle.tlsf_syntax.specs.Lexemes.{Lexeme, Is}
use Rattle.tlsf_reader.specs.Lexed.{lexeme_from}
use Rattle.flat_text.specs.FlatNames.{IsOneWord}

-- ---- a name as bytes

-- each of the four blanks
pub blank_cases : (P : ℕ → Type 0) → P 32 → P 9 → P 13 → P 10 → (b : ℕ) → is_blank b ≡ true → P b
blank_cases P space tab cr lf b h =
    elim (or_cases (b == 32 || b == 9 || b == 13) (b == 10) h) [
      | inr e ↦ subst P (sym (eqb-true b 10 e)) lf
      | inl h1 ↦ elim (or_cases (b == 32 || b == 9) (b == 13) h1) [
        | inr e ↦ subst P (sym (eqb-true b 13 e)) cr
        | inl h2 ↦ elim (or_cases (b == 32) (b == 9) h2) [ inl e ↦ subst P (sym (eqb-true b 32 e)) space | inr e ↦ subst P (sym (eqb-true b 9 e)) tab ]
      ]
    ]

pub not_true : (b : Bool) → (b ≡ true → ⊥) → not b ≡ true
not_true true h = absurd (h refl)
not_true false h = refl

not_blank : (b : ℕ) → is_name_part b ≡ true → not (is_blank b) ≡ true
not_blank b part = not_true (is_blank b) (λ h. blank_cases (λ b. is_name_part b ≡ true → ⊥) false≢true false≢true false≢true false≢true b h part)

-- a line's end is a blank
not_line : (b : ℕ) → not (is_blank b) ≡ true → not (b == 10) ≡ true
not_line b h = last (b == 32 || b == 9 || b == 13) (b == 10) h
  where
    last : (x y : Bool) → not (x || y) ≡ true → not y ≡ true
    last true y h = absurd (false≢true h)
    last false y h = h

pub all_weaker : (p q : ℕ → Bool) → ((b : ℕ) → p b ≡ true → q b ≡ true) → (w : List ℕ) → list_all p w ≡ true → list_all q w ≡ true
all_weaker p q f w h = list_all-from_AllPass q w (All-weaker (λ b. p b ≡ true) (λ b. q b ≡ true) f w (AllPass-from_list_all p w h))

pub one_word : (w : List ℕ) → (w ≢ []) → list_all (λ b. not (is_blank b)) w ≡ true → IsOneWord w
one_word w some h = record { nonempty = some; one_line = all_weaker (λ b. not (is_blank b)) (λ b. not (b == 10)) not_line w h; no_blank = h }

cons_some : (b : ℕ) (w : List ℕ) → (b ∷ w) ≢ []
cons_some b w e = cc

name_word : (b : ℕ) (w : List ℕ) → is_name_start b ≡ true → list_all is_name_part w ≡ true → IsOneWord (b ∷ w)
name_word b w start parts = one_word (b ∷ w) (cons_some b w) (all_weaker is_name_part (λ b. not (is_blank b)) not_blank (b ∷ w) (and_from _ _ (name_part b start) parts))

-- ---- what is a name

abbrev is_name : Option Piece → Bool
is_name (Some (piece.Token symbol.Ident)) = true
is_name _ = false

either : (b : Bool) (x y : Option Piece) → is_name x ≡ false → is_name y ≡ false → is_name (if b then x else y) ≡ false
either true x y h g = h
either false x y h g = g

no_text : (w : List ℕ) → is_name (text_before w) ≡ false
no_text [] = refl
no_text (b ∷ w) = refl

no_quoted : (w : List ℕ) → is_name (quoted_piece w) ≡ false
no_quoted [] = refl
no_quoted (b ∷ w) = either (b == 34) (text_before w) (quoted_piece w) (no_text w) (no_quoted w)

no_comment : (n : ℕ) (w : List ℕ) → is_name (comment_piece n w) ≡ false
no_comment zero [] = refl
no_comment zero (b ∷ w) = refl
no_comment (suc n) [] = refl
no_comment (suc n) (b ∷ []) = refl
no_comment (suc n) (b ∷ c ∷ w) =
    either (b == 47 && c == 42) _ _ (no_comment (suc (suc n)) w) (either (b == 42 && c == 47) _ _ (no_comment n w) (no_comment (suc n) (c ∷ w)))

abbrev is_no_name : List ℕ × Symbol → Bool
is_no_name p = not (is_name (Some (piece.Token p.1)))

no_sign : (w : List ℕ) (table : List (List ℕ × Symbol)) → list_all is_no_name table ≡ true → is_name (sign_or (symbol_in table w) w) ≡ false
no_sign w [] h = either (is_among unsupported_signs w) _ _ refl refl
no_sign w (p ∷ table) h = let both = and_parts (is_no_name p) (list_all is_no_name table) h in by (bytes_eq w p.0) (not-true _ both.0) (no_sign w table both.1)
  where
    by : (b : Bool) → is_name (Some (piece.Token p.1)) ≡ false → is_name (sign_or (symbol_in table w) w) ≡ false
        → is_name (sign_or (if b then Some p.1 else symbol_in table w) w) ≡ false
    by true own more = own
    by false own more = more

signs_no_names : list_all is_no_name signs ≡ true
unfolding signs
signs_no_names = refl

no_mark : (w : List ℕ) → is_name (mark_piece w) ≡ false
no_mark w =
    either (starts_with nat_eq w (codes "//")) _ _ (either (list_all (λ b. not (b == 10)) w) _ _ refl refl)
    (either (starts_with nat_eq w (codes "/*")) _ _ (no_comment 1 (drop 2 w)) (no_sign w signs signs_no_names))

-- ---- a name's token

formed_name : (w : List ℕ) → piece_of w ≡ Some (piece.Token symbol.Ident) → IsOneWord w
unfolding piece_of
formed_name [] e = absurd (let never : ⊥ = cc in never)
formed_name (b ∷ w) e = by (is_name_start b) refl e
  where
    inner : (p : Bool) → list_all is_name_part w ≡ p → is_name_start b ≡ true → (if p then Some (word_piece (b ∷ w)) else None) ≡ Some (piece.Token symbol.Ident) → IsOneWord (b ∷ w)
    inner true parts start e = name_word b w start parts
    inner false parts start e = absurd (let never : ⊥ = cc in never)

    by : (s : Bool) → is_name_start b ≡ s
        → (if s then (if list_all is_name_part w then Some (word_piece (b ∷ w)) else None)
        else (if is_ascii_digit b then (if list_all is_ascii_digit w then Some (piece.Token symbol.Number) else None)
        else (if b == 34 then quoted_piece w else (if is_blank b then (if list_all (λ _. false) w then Some piece.Gap else None) else mark_piece (b ∷ w))))) ≡ Some (piece.Token symbol.Ident)
        → IsOneWord (b ∷ w)
    by true start e = inner (list_all is_name_part w) refl start e
    by false start e =
        let none = either (is_ascii_digit b) _ _ (either (list_all is_ascii_digit w) _ _ refl refl)
        (either (b == 34) _ _ (no_quoted w) (either (is_blank b) _ _ (either (list_all (λ _. false) w) _ _ refl refl) (no_mark (b ∷ w)))) in
        absurd (false≢true (sym none ∙ ap is_name e))

-- ---- the names among lexemes

-- each name among the lexemes is such
abbrev pub NamesAre : (List ℕ → Type 0) → List Lexeme → Type 0
NamesAre P [] = Unit {0}
NamesAre P (l ∷ ls) = (Is symbol.Ident l → P l.text) × NamesAre P ls

pub token_names : (text : List ℕ) (tokens : List Token) → AreFormed text tokens → NamesAre IsOneWord (map (lexeme_from text) tokens)
token_names text [] h = tt
token_names text (token ∷ tokens) h = (
  λ ident. formed_name (slice_range text token.start token.end) (h.0 ∙ ap (λ s. Some (piece.Token s)) ident),
  token_names text tokens h.1,
)
