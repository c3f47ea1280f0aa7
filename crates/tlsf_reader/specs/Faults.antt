-- The faults of reading, and the one that comes first: this project's table of faults and its order of refusals.
use Rattle.std.specs.Prelude.{◌≡◌, ◌<◌, ◌≤◌, ℕ, zero, suc, ◌+◌, Bool, true, false, List, [], ◌∷◌, ◌++◌, length, map, slice_get, codes, None, Some}
use Rattle.spec_faults.specs.declared.code.SpecCode.{SpecCode}
use Rattle.spec_faults.specs.declared.code.SpecCode.TheVariants.{TooLong, Unexpected, Missing, Twice, TooDeep, Unsupported}
use Rattle.tlsf_tokens.specs.declared.symbol.Symbol.{Symbol}
use Rattle.tlsf_tokens.specs.declared.symbol.Symbol.TheVariants as symbol
use Rattle.tlsf_syntax.specs.Nesting.{first_deep}
use Rattle.tlsf_syntax.specs.Tree.{Named, Written}
use Rattle.tlsf_syntax.specs.Lexemes.{Lexeme, Is}
use Rattle.tlsf_syntax.specs.Texts.{DerivesText, IsFirstUnexpected}
use Rattle.tlsf_reader.specs.Lexed.{Lexed}
use Rattle.tlsf_reader.specs.Parts.{declared_words}

-- the most bytes that a text may have
abbrev pub most_bytes : ℕ
most_bytes = 1048576

-- the largest written nesting
abbrev pub most_nesting : ℕ
most_nesting = 128

abbrev pub symbols_of : List Lexeme → List Symbol
symbols_of ls = map (λ (l : Lexeme). l.symbol) ls

-- the first byte of the lexeme with this number, from 0 on
abbrev pub start_at : List Lexeme → ℕ → ℕ
start_at [] k = 0
start_at (l ∷ ls) zero = l.start
start_at (l ∷ ls) (suc k) = start_at ls k

-- The lexeme is the name `Finite` where a word of the value of SEMANTICS is wanted: first, or after its comma. TLSF 1.1
-- has that word there, and this profile doesn't.
pub data IsFinite : List Lexeme → Lexeme → Type 0 where
  first_word : (before after : List Lexeme) (s colon l : Lexeme) → Is symbol.Semantics s → Is symbol.Colon colon → Is symbol.Ident l → l.text ≡ codes "Finite"
      → IsFinite (before ++ s ∷ colon ∷ l ∷ after) l
  second_word : (before after : List Lexeme) (s colon word comma l : Lexeme) → Is symbol.Semantics s → Is symbol.Colon colon → Is symbol.Comma comma → Is symbol.Ident l
      → l.text ≡ codes "Finite" → IsFinite (before ++ s ∷ colon ∷ word ∷ comma ∷ l ∷ after) l

-- a fault by which there is no text of the grammar, and its place
pub data HasEarlyFault (text : List ℕ) (lexed : Lexed text) : SpecCode → ℕ → Type 0 where
  -- the tokens end here: a byte that begins none, an opener that isn't closed, or what this profile leaves out
  of_tokens : (code : SpecCode) → lexed.stop ≡ Some code → HasEarlyFault text lexed code lexed.stop_at
  of_nesting : (k : ℕ) → first_deep most_nesting [] (symbols_of lexed.lexemes) ≡ Some k → HasEarlyFault text lexed TooDeep (start_at lexed.lexemes k)
  of_finite : (l : Lexeme) → IsFinite lexed.lexemes l → HasEarlyFault text lexed Unsupported l.start
  of_lexeme : (k : ℕ) → IsFirstUnexpected lexed.lexemes k → k < length lexed.lexemes → HasEarlyFault text lexed Unexpected (start_at lexed.lexemes k)
  -- the text's end is unexpected only where the tokens reach it
  of_end : lexed.stop ≡ None → IsFirstUnexpected lexed.lexemes (length lexed.lexemes) → HasEarlyFault text lexed Unexpected (length text)

-- the symbols that head a part which stands at most once
abbrev pub heads_part : Symbol → Bool
heads_part symbol.Title = true
heads_part symbol.Description = true
heads_part symbol.Semantics = true
heads_part symbol.Target = true
heads_part symbol.Tags = true
heads_part symbol.Parameters = true
heads_part symbol.Definitions = true
heads_part symbol.Inputs = true
heads_part symbol.Outputs = true
heads_part (symbol.Section s) = true
heads_part _ = false

-- none of the lexemes has this symbol
abbrev pub Lacks : Symbol → List Lexeme → Type 0
Lacks s ls = (k : ℕ) → slice_get (symbols_of ls) k ≡ Some s → ⊥

-- the fields that INFO needs, and the parts that MAIN needs
pub data IsNeededField : Symbol → Type 0 where
  title_is : IsNeededField symbol.Title
  description_is : IsNeededField symbol.Description
  semantics_is : IsNeededField symbol.Semantics
  target_is : IsNeededField symbol.Target

pub data IsNeededPart : Symbol → Type 0 where
  inputs_are : IsNeededPart symbol.Inputs
  outputs_are : IsNeededPart symbol.Outputs

-- A fault of a text of the grammar: a part or a name is given twice, or a needed part is absent. INFO has no braces in it,
-- so its closing brace is the first of the text; that of MAIN is the last lexeme.
pub data HasLateFault (ls : List Lexeme) (w : Written) : SpecCode → ℕ → Type 0 where
  part_twice : (j k : ℕ) (s : Symbol) → heads_part s ≡ true → j < k → slice_get (symbols_of ls) j ≡ Some s → slice_get (symbols_of ls) k ≡ Some s
      → HasLateFault ls w Twice (start_at ls k)
  name_twice : (j k : ℕ) (first second : Named) → j < k → slice_get (declared_words w) j ≡ Some first → slice_get (declared_words w) k ≡ Some second → first.name ≡ second.name
      → HasLateFault ls w Twice second.span.start
  field_missing : (s : Symbol) (k : ℕ) → IsNeededField s → Lacks s ls → slice_get (symbols_of ls) k ≡ Some symbol.CloseBrace
      → ((j : ℕ) → j < k → slice_get (symbols_of ls) j ≡ Some symbol.CloseBrace → ⊥) → HasLateFault ls w Missing (start_at ls k)
  part_missing : (s : Symbol) (k : ℕ) → IsNeededPart s → Lacks s ls → k + 1 ≡ length ls → HasLateFault ls w Missing (start_at ls k)

-- of the faults that a text has, the one with the smallest place; at one place fault 3 gives way
pub record IsFirstOf (Has : SpecCode → ℕ → Type 0) (code : SpecCode) (place : ℕ) : Type 0 where
  pub has : Has code place
  pub least : (other : SpecCode) (elsewhere : ℕ) → Has other elsewhere → place ≤ elsewhere
  pub gives_way : code ≡ Unexpected → (other : SpecCode) → Has other place → other ≡ Unexpected

-- the first fault of reading, with its place
pub data IsReadingFault (text : List ℕ) : SpecCode → ℕ → Type 0 where
  too_long : most_bytes < length text → IsReadingFault text TooLong most_bytes
  early : (lexed : Lexed text) (code : SpecCode) (place : ℕ) → length text ≤ most_bytes → IsFirstOf (HasEarlyFault text lexed) code place → IsReadingFault text code place
  late : (lexed : Lexed text) (w : Written) (code : SpecCode) (place : ℕ) → length text ≤ most_bytes → lexed.stop ≡ None → DerivesText lexed.lexemes w
      → first_deep most_nesting [] (symbols_of lexed.lexemes) ≡ None → IsFirstOf (HasLateFault lexed.lexemes w) code place → IsReadingFault text code place
