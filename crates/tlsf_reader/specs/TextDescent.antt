-- What the descent for whole texts answers, against the grammar's reader on lists.
use Rattle.std.specs.Prelude.{◌≡◌, ℕ, ◌+◌, Bool, true, false, if◌then◌else◌, List, [], ◌∷◌, ◌++◌, length, Option, None, Some, Result, Ok, Err}
use Rattle.std.specs.Option.{is_some}
use Rattle.letters_and_lassos.specs.declared.kinds.Kind.{Kind}
use Rattle.tlsf_tokens.specs.declared.symbol.Symbol.TheVariants as symbol
use Rattle.tlsf_syntax.specs.Tree as plain
use Rattle.tlsf_syntax.specs.Lexemes.{Lexeme, word_of}
use Rattle.tlsf_syntax.specs.Texts.{bits_of, DerivesText, IsFirstUnexpected}
use Rattle.tlsf_syntax.specs.Reading.{Answer, taken, refused, go_on, expect, if_next}
use Rattle.tlsf_syntax.specs.TextReading.{kind_of, is_strict, field_by, part_by, Value, value_read, goes_on_value, members_read, expression_read, blocks_read}
use Rattle.tlsf_reader.specs.declared.lexeme.Lexeme.{Lexeme as CodeLexeme}
use Rattle.tlsf_reader.specs.declared.rest.Refusal.{Refusal}
use Rattle.tlsf_reader.specs.declared.rest.Refusal.TheVariants.{At}
use Rattle.tlsf_reader.specs.declared.info.KindWord.{KindWord}
use Rattle.tlsf_reader.specs.declared.written.Block.{Block}
use Rattle.tlsf_reader.specs.declared.written.Written.{Written}
use Rattle.tlsf_reader.specs.Seen.{seen}
use Rattle.tlsf_reader.specs.TextView.{block_view, written_view}
use Rattle.tlsf_reader.specs.Descent.{Eventually, Builds}

-- words of SEMANTICS and TARGET

-- the kind that the lexeme in front names
abbrev pub kind_here : List Lexeme → Option Kind
kind_here [] = None
kind_here (l ∷ ls) = kind_of l

pub record NamesKind (before : List Lexeme) (word : KindWord) (after : List Lexeme) : Type 0 where
  pub lexeme : Lexeme
  pub front : before ≡ lexeme ∷ after
  pub is : kind_of lexeme ≡ Some word.kind
  pub place : lexeme.start ≡ word.at

pub record NamesNoKind (before : List Lexeme) (e : Refusal) : Type 0 where
  pub none : kind_here before ≡ None
  pub is : e ≡ At (length before)

abbrev pub IsKindWord : List Lexeme → List Lexeme → Result KindWord Refusal → Type 0
IsKindWord before after (Ok word) = NamesKind before word after
IsKindWord before after (Err e) = NamesNoKind before e

-- whether the lexeme in front is the word `Strict`
abbrev pub strict_here : List Lexeme → Bool
strict_here [] = false
strict_here (l ∷ ls) = is_strict l

pub record PassesStrict (before : List Lexeme) (after : List Lexeme) : Type 0 where
  pub lexeme : Lexeme
  pub front : before ≡ lexeme ∷ after
  pub is : is_strict lexeme ≡ true

pub record LacksStrict (before : List Lexeme) (after : List Lexeme) : Type 0 where
  pub none : strict_here before ≡ false
  pub same : after ≡ before

abbrev pub IsStrictPassed : List Lexeme → List Lexeme → Bool → Type 0
IsStrictPassed before after true = PassesStrict before after
IsStrictPassed before after false = LacksStrict before after

-- a field, and a part of MAIN, with the word that it begins with
abbrev pub field_at : ℕ → List Lexeme → Answer plain.Field
field_at depth [] = refused 0
field_at depth (l ∷ ls) = field_by depth l.symbol ls

abbrev pub part_at : ℕ → List Lexeme → Answer plain.Part
part_at depth [] = refused 0
part_at depth (l ∷ ls) = part_by depth l.symbol ls

-- what stands after the word `enum`
abbrev pub enumeration_read : ℕ → List Lexeme → Answer plain.Definition
enumeration_read depth ls =
    expect symbol.Ident ls (λ l sign_at. expect symbol.Assign sign_at (λ _ inner. go_on (members_read depth inner) (λ ms rest.
    if_next symbol.Semicolon rest (λ _ after. taken (plain.enumeration (word_of l) ms) after) (taken (plain.enumeration (word_of l) ms) rest))))

-- one parameter, and one formula of a section, each with its semicolon
abbrev pub parameter_read : ℕ → List Lexeme → Answer plain.Definition
parameter_read depth ls =
    expect symbol.Ident ls (λ l sign_at. expect symbol.Assign sign_at (λ _ inner. go_on (expression_read false depth inner) (λ t rest. expect symbol.Semicolon rest (λ _ after.
    taken (plain.parameter (word_of l) t) after))))

abbrev pub formula_read : ℕ → List Lexeme → Answer plain.Tree
formula_read depth ls = go_on (expression_read false depth ls) (λ t rest. expect symbol.Semicolon rest (λ _ after. taken t after))

-- values of enumerations

abbrev pub bits_at : Lexeme → Option (List (Option Bool))
bits_at l = bits_of l.symbol l.text

-- the bits that the lexeme in front gives
abbrev pub bits_here : List Lexeme → Option (List (Option Bool))
bits_here [] = None
bits_here (l ∷ ls) = bits_at l

-- the bits stand behind those that were there
abbrev pub AreAppended : Option (List (Option Bool)) → List (Option Bool) → List (Option Bool) → Type 0
AreAppended None before after = ⊥
AreAppended (Some bits) before after = after ≡ before ++ bits

pub record PassesBits (before : List Lexeme) (l : Lexeme) (after : List Lexeme) : Type 0 where
  pub front : before ≡ l ∷ after
  pub is : is_some (bits_at l) ≡ true

pub record LacksBits (before : List Lexeme) (e : Refusal) : Type 0 where
  pub none : bits_here before ≡ None
  pub is : e ≡ At (length before)

abbrev pub IsBits : List Lexeme → List Lexeme → Result CodeLexeme Refusal → Type 0
IsBits before after (Ok l) = PassesBits before (seen l) after
IsBits before after (Err e) = LacksBits before e

pub record GoesOn (end : ℕ) (before : List Lexeme) (l : Lexeme) (after : List Lexeme) : Type 0 where
  pub front : before ≡ l ∷ after
  pub is : is_some (bits_at l) ≡ true
  pub joins : goes_on_value end before ≡ true

pub record GoesNoFurther (end : ℕ) (before : List Lexeme) (after : List Lexeme) : Type 0 where
  pub stops : goes_on_value end before ≡ false
  pub same : after ≡ before

abbrev pub IsMoreOfValue : ℕ → List Lexeme → List Lexeme → Option CodeLexeme → Type 0
IsMoreOfValue end before after None = GoesNoFurther end before after
IsMoreOfValue end before after (Some l) = GoesOn end before (seen l) after

-- what readers of so many more lexemes make of a value that ended here with these bits
abbrev pub value_from : List (Option Bool) → ℕ → ℕ → List Lexeme → Answer Value
value_from bits end depth ls =
    if goes_on_value end ls then go_on (value_read depth ls) (λ v rest. taken (record { bits = bits ++ v.bits; end = v.end }) rest) else taken (record { bits = bits; end = end }) ls

-- an element in front of what was read after it
abbrev pub in_front : {E X : Type 0} → (E → X) → E → List X → List X
in_front view e more = view e ∷ more

-- A block stands in front, and what comes after it is what the readers go on with; or none does.
pub record IsBlockRead (before : List Lexeme) (after : List Lexeme) (result : Result (Option Block) Refusal) : Type 0 where
  pub some : (b : Block) → result ≡ Ok (Some b) → Builds (in_front block_view) (λ d. blocks_read d before) (b ∷ []) (λ d. blocks_read d after)
  pub none : result ≡ Ok None → Eventually (λ d. blocks_read d before) (taken [] after)
  pub err : (k : ℕ) → result ≡ Err (At k) → Eventually (λ d. blocks_read d before) (refused k)

-- What was read is derived from all lexemes, or so many are left, of which the first is the first unexpected one. Where
-- memory is wanting, nothing is said.
pub record IsTextRead (ls : List Lexeme) (result : Result Written Refusal) : Type 0 where
  pub ok : (w : Written) → result ≡ Ok w → DerivesText ls (written_view w)
  pub err : (k : ℕ) → result ≡ Err (At k) → (n : ℕ) × (n + k ≡ length ls) × IsFirstUnexpected ls n
