-- The first faults of reading of one text have one code.
use Rattle.std.proofs.Common.{◌≡◌, ◌<◌, ◌+◌, ◌-◌, ℕ, true, false, List, [], ◌∷◌, length, slice_get, Some, refl, sym, ◌∙◌, ap, subst, arith}
use Rattle.std.proofs.lemmas.List.{length-map}
use Rattle.std.proofs.lemmas.Option.{slice_get_within}
use Rattle.spec_faults.specs.declared.code.SpecCode.{SpecCode}
use Rattle.spec_faults.specs.declared.code.SpecCode.TheVariants.{Unexpected, Missing, Twice}
use Rattle.tlsf_tokens.specs.declared.symbol.Symbol.{Symbol}
use Rattle.tlsf_tokens.specs.declared.symbol.Symbol.TheVariants as symbol
use Rattle.tlsf_syntax.specs.Nesting.{first_deep}
use Rattle.tlsf_syntax.specs.Tree.{Written}
use Rattle.tlsf_syntax.specs.Lexemes.{Lexeme}
use Rattle.tlsf_syntax.specs.Texts.{DerivesText}
use Rattle.tlsf_reader.specs.Lexed.{Lexed}
use Rattle.tlsf_reader.specs.Parts.{declared_words}
use Rattle.tlsf_reader.specs.Faults.{most_nesting, symbols_of, start_at, heads_part, IsFinite, first_word, second_word, HasEarlyFault, of_tokens, of_nesting, of_finite, of_lexeme, of_end, HasLateFault, part_twice, name_twice, field_missing, part_missing}
use Rattle.tlsf_reader.proofs.StopCodes.{deep_within}
use Rattle.flat_text.proofs.Starts.{AreApart, lexed_apart, start_before, same_lexeme, StandsAt, one_symbol, stands_first, stands_later, stands_behind, never_deep}
use Rattle.flat_text.proofs.DeclaredNames.{name_at, words_are_names, last_closes}

symbol_at : (s : Symbol) (ls : List Lexeme) (k : ℕ) → slice_get (symbols_of ls) k ≡ Some s → StandsAt s ls (start_at ls k)
symbol_at s ls k e = record {
  at = k;
  within = let low : k < length (symbols_of ls) = slice_get_within (symbols_of ls) k s e in let long : length (symbols_of ls) ≡ length ls = length-map ls (λ (l : Lexeme). l.symbol) in omega (arith, low, long);
  here = e;
  begins = refl;
}

-- `Finite` is a name among the lexemes
finite_at : (ls : List Lexeme) (l : Lexeme) → IsFinite ls l → StandsAt symbol.Ident ls l.start
finite_at _ l (first_word before after s colon _ i j k t) =
    stands_behind symbol.Ident before (s ∷ colon ∷ l ∷ after) l.start
    (stands_later symbol.Ident s (colon ∷ l ∷ after) l.start (stands_later symbol.Ident colon (l ∷ after) l.start (stands_first symbol.Ident l after k)))
finite_at _ l (second_word before after s colon word comma _ i j k m t) =
    stands_behind symbol.Ident before (s ∷ colon ∷ word ∷ comma ∷ l ∷ after) l.start
    (stands_later symbol.Ident s (colon ∷ word ∷ comma ∷ l ∷ after) l.start
    (stands_later symbol.Ident colon (word ∷ comma ∷ l ∷ after) l.start
    (stands_later symbol.Ident word (comma ∷ l ∷ after) l.start
    (stands_later symbol.Ident comma (l ∷ after) l.start (stands_first symbol.Ident l after m)))))

module _ (text : List ℕ) (lexed : Lexed text) where
  apart : AreApart 0 lexed.lexemes lexed.stop_at
  apart = lexed_apart text lexed.stop lexed.stop_at lexed.lexemes lexed.is

  deep_inside : (k : ℕ) → first_deep most_nesting [] (symbols_of lexed.lexemes) ≡ Some k → k < length lexed.lexemes
  deep_inside k e =
      let low : k < 0 + length (symbols_of lexed.lexemes) = deep_within most_nesting [] (symbols_of lexed.lexemes) k e in
      let long : length (symbols_of lexed.lexemes) ≡ length lexed.lexemes = length-map lexed.lexemes (λ (l : Lexeme). l.symbol) in
      omega (arith, low, long)

  -- the tokens stop after each lexeme
  never_at_stop : (s : Symbol) → StandsAt s lexed.lexemes lexed.stop_at → ⊥
  never_at_stop s a =
      let low : start_at lexed.lexemes a.at < lexed.stop_at = start_before lexed.lexemes 0 lexed.stop_at a.at apart a.within in
      let here : start_at lexed.lexemes a.at ≡ lexed.stop_at = a.begins in
      omega (arith, low, here)

  deep_before_stop : (k : ℕ) → first_deep most_nesting [] (symbols_of lexed.lexemes) ≡ Some k → start_at lexed.lexemes k ≡ lexed.stop_at → ⊥
  deep_before_stop k e at =
      let low : start_at lexed.lexemes k < lexed.stop_at = start_before lexed.lexemes 0 lexed.stop_at k apart (deep_inside k e) in omega (arith, low, at)

  never_deep_name : (k : ℕ) (place : ℕ) → first_deep most_nesting [] (symbols_of lexed.lexemes) ≡ Some k → start_at lexed.lexemes k ≡ place → StandsAt symbol.Ident lexed.lexemes place → ⊥
  never_deep_name k place e at a =
      let same : k ≡ a.at = same_lexeme lexed.lexemes 0 lexed.stop_at k a.at apart (deep_inside k e) a.within (at ∙ sym a.begins) in
      let whole : k - 0 ≡ k = omega arith in
      never_deep most_nesting [] (symbols_of lexed.lexemes) k refl e (ap (slice_get (symbols_of lexed.lexemes)) (whole ∙ same) ∙ a.here) (omega arith)

  -- where two of a text's early faults stand at one place, fault 3 giving way
  pub early_code : (code code' : SpecCode) (place place' : ℕ) → place ≡ place' → HasEarlyFault text lexed code place → HasEarlyFault text lexed code' place'
      → (code ≡ Unexpected → code' ≡ Unexpected) → (code' ≡ Unexpected → code ≡ Unexpected) → code ≡ code'
  early_code _ _ _ _ e (of_lexeme k u h) g way back = sym (way refl)
  early_code _ _ _ _ e (of_end h u) g way back = sym (way refl)
  early_code _ _ _ _ e f (of_lexeme k u h) way back = back refl
  early_code _ _ _ _ e f (of_end h u) way back = back refl
  early_code _ _ _ _ e (of_tokens c h) (of_tokens c' h') way back = let both : Some c ≡ Some c' = sym h ∙ h' in cc
  early_code _ _ _ _ e (of_tokens c h) (of_nesting k h') way back = absurd (deep_before_stop k h' (sym e))
  early_code _ _ _ _ e (of_tokens c h) (of_finite l h') way back = absurd (never_at_stop symbol.Ident (subst (StandsAt symbol.Ident lexed.lexemes) (sym e) (finite_at lexed.lexemes l h')))
  early_code _ _ _ _ e (of_nesting k h) (of_tokens c' h') way back = absurd (deep_before_stop k h e)
  early_code _ _ _ _ e (of_nesting k h) (of_nesting k' h') way back = refl
  early_code _ _ _ _ e (of_nesting k h) (of_finite l h') way back = absurd (never_deep_name k l.start h e (finite_at lexed.lexemes l h'))
  early_code _ _ _ _ e (of_finite l h) (of_tokens c' h') way back = absurd (never_at_stop symbol.Ident (subst (StandsAt symbol.Ident lexed.lexemes) e (finite_at lexed.lexemes l h)))
  early_code _ _ _ _ e (of_finite l h) (of_nesting k h') way back = absurd (never_deep_name k l.start h' (sym e) (finite_at lexed.lexemes l h))
  early_code _ _ _ _ e (of_finite l h) (of_finite l' h') way back = refl

-- a fault of a text of the grammar stands where no brace closes, or where one does
data Where (ls : List Lexeme) (place : ℕ) : SpecCode → Type 0 where
  twice_there : (s : Symbol) → (s ≡ symbol.CloseBrace → ⊥) → StandsAt s ls place → Where ls place Twice
  missing_there : StandsAt symbol.CloseBrace ls place → Where ls place Missing

never_head : (s : Symbol) → heads_part s ≡ true → s ≡ symbol.CloseBrace → ⊥
never_head s h e = let no : false ≡ true = ap heads_part (sym e) ∙ h in cc

never_name : symbol.Ident ≡ symbol.CloseBrace → ⊥
never_name e = cc

located : (ls : List Lexeme) (w : Written) (code : SpecCode) (place : ℕ) → DerivesText ls w → HasLateFault ls w code place → Where ls place code
located ls w _ _ d (part_twice j k s heads order first second) = twice_there s (never_head s heads) (symbol_at s ls k second)
located ls w _ _ d (name_twice j k first second order a b same) =
    twice_there symbol.Ident never_name (name_at (declared_words w) ls k second (words_are_names ls w d) b)
located ls w _ _ d (field_missing s k needed lacks brace first) = missing_there (symbol_at symbol.CloseBrace ls k brace)
located ls w _ _ d (part_missing s k needed lacks last) = missing_there (symbol_at symbol.CloseBrace ls k (last_closes ls w k d last))

one_where : (ls : List Lexeme) (to place : ℕ) (code code' : SpecCode) → AreApart 0 ls to → Where ls place code → Where ls place code' → code ≡ code'
one_where ls to place _ _ r (twice_there s never a) (twice_there t never' b) = refl
one_where ls to place _ _ r (twice_there s never a) (missing_there b) = absurd (never (one_symbol ls 0 to place s symbol.CloseBrace r a b))
one_where ls to place _ _ r (missing_there a) (twice_there t never' b) = absurd (never' (one_symbol ls 0 to place t symbol.CloseBrace r b a))
one_where ls to place _ _ r (missing_there a) (missing_there b) = refl

pub late_code : (text : List ℕ) (lexed : Lexed text) (w : Written) (code code' : SpecCode) (place place' : ℕ) → place ≡ place' → DerivesText lexed.lexemes w
    → HasLateFault lexed.lexemes w code place → HasLateFault lexed.lexemes w code' place' → code ≡ code'
late_code text lexed w code code' place place' e d f g =
    one_where lexed.lexemes lexed.stop_at place code code' (lexed_apart text lexed.stop lexed.stop_at lexed.lexemes lexed.is)
    (located lexed.lexemes w code place d f) (subst (λ p. Where lexed.lexemes p code') (sym e) (located lexed.lexemes w code' place' d g))
