-- The places of the faults that are looked for beside the descent.
use Rattle.std.specs.Prelude.{◌≡◌, ◌<◌, ℕ, ◌+◌, Bool, true, false, List, [], ◌∷◌, length, slice_get, Option, None, Some, if◌then◌else◌, Result, Ok, Err}
use Rattle.spec_faults.specs.declared.code.SpecCode.{SpecCode}
use Rattle.spec_faults.specs.declared.code.SpecFault.{SpecFault}
use Rattle.spec_faults.specs.declared.code.SpecFault.TheVariants.{At}
use Rattle.tlsf_syntax.specs.declared.spec.SpecTree.{SpecTree}
use Rattle.tlsf_tokens.specs.declared.symbol.Symbol.{Symbol}
use Rattle.tlsf_tokens.specs.declared.symbol.Symbol.TheVariants as symbol
use Rattle.tlsf_syntax.specs.Tree.{Named, Written}
use Rattle.tlsf_syntax.specs.Symbols.{symbol_eq}
use Rattle.tlsf_syntax.specs.Lexemes.{Lexeme}
use Rattle.tlsf_reader.specs.Faults.{IsFinite, heads_part, Lacks, IsNeededField, IsNeededPart, HasLateFault, IsFirstOf, start_at, symbols_of}
use Rattle.tlsf_reader.specs.Least.{earlier_by}
use Rattle.tlsf_reader.specs.Parts.{text_of}
use Rattle.tlsf_syntax.specs.Seen.{text_seen}
use Rattle.tlsf_reader.specs.declared.fault.Fault.{Fault}

-- whether a lexeme has this symbol
abbrev pub occurs : Symbol → List Lexeme → Bool
occurs s [] = false
occurs s (l ∷ ls) = if symbol_eq l.symbol s then true else occurs s ls

-- where the first closing brace begins
abbrev pub first_brace : List Lexeme → Option ℕ
first_brace [] = None
first_brace (l ∷ ls) = if symbol_eq l.symbol symbol.CloseBrace then Some l.start else first_brace ls

-- a word `Finite` as a word of the value of SEMANTICS
pub record FiniteAt (ls : List Lexeme) (place : ℕ) : Type 0 where
  pub lexeme : Lexeme
  pub is : IsFinite ls lexeme
  pub place_is : lexeme.start ≡ place

-- a lexeme of this symbol
pub record OccursAt (s : Symbol) (ls : List Lexeme) (place : ℕ) : Type 0 where
  pub at : ℕ
  pub here : slice_get (symbols_of ls) at ≡ Some s
  pub place_is : start_at ls at ≡ place

-- a lexeme of this symbol that isn't the first one
pub record RepeatedAt (s : Symbol) (ls : List Lexeme) (place : ℕ) : Type 0 where
  pub first : ℕ
  pub second : ℕ
  pub order : first < second
  pub before : slice_get (symbols_of ls) first ≡ Some s
  pub here : slice_get (symbols_of ls) second ≡ Some s
  pub place_is : start_at ls second ≡ place

-- one of the two
pub data Either (P Q : ℕ → Type 0) (place : ℕ) : Type 0 where
  one : P place → Either P Q place
  other : Q place → Either P Q place

-- a repeated lexeme of one of these symbols
abbrev pub RepeatedAmong : List Symbol → List Lexeme → ℕ → Type 0
RepeatedAmong [] ls place = ⊥
RepeatedAmong (s ∷ ss) ls place = Either (RepeatedAt s ls) (RepeatedAmong ss ls) place

-- a field, a block, or a part of MAIN that isn't the first of its sort
pub record PartTwiceAt (ls : List Lexeme) (place : ℕ) : Type 0 where
  pub head : Symbol
  pub heads : heads_part head ≡ true
  pub repeated : RepeatedAt head ls place

-- a declared word that has the name of an earlier one
pub record NameTwiceAt (words : List Named) (place : ℕ) : Type 0 where
  pub first_at : ℕ
  pub second_at : ℕ
  pub first : Named
  pub second : Named
  pub order : first_at < second_at
  pub before : slice_get words first_at ≡ Some first
  pub here : slice_get words second_at ≡ Some second
  pub same : first.name ≡ second.name
  pub place_is : second.span.start ≡ place

-- the brace that closes INFO, where a field is missing
pub record FieldMissingAt (ls : List Lexeme) (place : ℕ) : Type 0 where
  pub field : Symbol
  pub needed : IsNeededField field
  pub absent : Lacks field ls
  pub brace : ℕ
  pub closes : slice_get (symbols_of ls) brace ≡ Some symbol.CloseBrace
  pub first : (j : ℕ) → j < brace → slice_get (symbols_of ls) j ≡ Some symbol.CloseBrace → ⊥
  pub place_is : start_at ls brace ≡ place

-- the brace that closes MAIN, where a part is missing
pub record PartMissingAt (ls : List Lexeme) (place : ℕ) : Type 0 where
  pub part : Symbol
  pub needed : IsNeededPart part
  pub absent : Lacks part ls
  pub brace : ℕ
  pub last : brace + 1 ≡ length ls
  pub place_is : start_at ls brace ≡ place

-- the fault at the earlier place, at one place the first one
abbrev pub earlier : Option Fault → Option Fault → Option Fault
earlier a b = earlier_by (λ (f : Fault). f.place) a b

-- A text of the grammar is the tree of these parts, or has this fault first of those that a text of the grammar has. Where
-- memory is wanting, nothing is said.
pub record IsReadResult (ls : List Lexeme) (w : Written) (result : Result SpecTree SpecFault) : Type 0 where
  pub sound : (tree : SpecTree) → result ≡ Ok tree → (code : SpecCode) (place : ℕ) → HasLateFault ls w code place → ⊥
  pub tree : (tree : SpecTree) → result ≡ Ok tree → text_seen tree ≡ text_of w
  pub fault : (code : SpecCode) (place : ℕ) → result ≡ Err (At code place) → IsFirstOf (HasLateFault ls w) code place
