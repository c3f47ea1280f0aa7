-- The grammar of whole texts as a reader with one token of look-ahead: computing functions on lists of lexemes. This is no
-- definition of the grammar: readers that go deep enough read what is derived, so no text has two trees.
use Rattle.std.specs.Prelude.{◌≡◌, ◌+◌, ◌≤◌, ℕ, zero, suc, Bool, true, false, ◌==◌, ◌&&◌, if◌then◌else◌, List, [], ◌∷◌, ◌++◌, length, Option, None, Some, codes}
use Rattle.std.specs.Option.{is_some}
use Rattle.std.specs.Str.{bytes_eq}
use Rattle.letters_and_lassos.specs.declared.kinds.Kind.{Kind}
use Rattle.letters_and_lassos.specs.declared.kinds.Kind.TheVariants.{Mealy, Moore}
use Rattle.tlsf_tokens.specs.declared.symbol.Symbol.{Symbol}
use Rattle.tlsf_tokens.specs.declared.symbol.Symbol.TheVariants as symbol
use Rattle.tlsf_syntax.specs.Tree.{Named, Tree, Alternative, Body, plain, guarded, Pattern, Member, Definition, parameter, function, enumeration, single, bus, typed, Declaration, Field, title, description, semantics, target, tags, Block, parameters, definitions, Part, inputs, outputs, section, Written}
use Rattle.tlsf_syntax.specs.Lexemes.{Lexeme, word_of}
use Rattle.tlsf_syntax.specs.Symbols.{symbol_eq}
use Rattle.tlsf_syntax.specs.declared.level.Level.TheVariants.{Releases}
use Rattle.tlsf_syntax.specs.Texts.{unquoted, bits_of, DerivesText, IsFirstUnexpected}
use Rattle.tlsf_syntax.specs.Reading.{Answer, taken, refused, lost, go_on, begins, expect, if_next, from_to, readers}

-- names

abbrev pub names_read : ℕ → List Lexeme → Answer (List Named)
names_read zero ls = lost
names_read (suc depth) ls =
    expect symbol.Ident ls (λ l rest. if_next symbol.Comma rest (λ _ inner. go_on (names_read depth inner) (λ ws after. taken (word_of l ∷ ws) after)) (taken (word_of l ∷ []) rest))

-- fields of INFO

abbrev pub named_kind : List ℕ → Option Kind
named_kind text = if bytes_eq text (codes "Mealy") then Some Mealy else (if bytes_eq text (codes "Moore") then Some Moore else None)

abbrev pub kind_of : Lexeme → Option Kind
kind_of l = if symbol_eq l.symbol symbol.Ident then named_kind l.text else None

abbrev pub is_strict : Lexeme → Bool
is_strict l = symbol_eq l.symbol symbol.Ident && bytes_eq l.text (codes "Strict")

abbrev pub kinded : {A : Type 0} → Option Kind → List Lexeme → (Kind → List Lexeme → Answer A) → Answer A
kinded None ls f = refused (suc (length ls))
kinded (Some k) ls f = f k ls

abbrev pub expect_strict : {A : Type 0} → List Lexeme → (List Lexeme → Answer A) → Answer A
expect_strict [] f = refused 0
expect_strict (l ∷ ls) f = if is_strict l then f ls else refused (suc (length ls))

abbrev pub expect_kind : {A : Type 0} → List Lexeme → (Kind → List Lexeme → Answer A) → Answer A
expect_kind [] f = refused 0
expect_kind (l ∷ ls) f = kinded (kind_of l) ls f

abbrev pub semantics_read : List Lexeme → Answer Field
semantics_read [] = refused 0
semantics_read (l ∷ ls) =
    if is_strict l then expect symbol.Comma ls (λ _ rest. expect_kind rest (λ k after. taken (semantics k true) after))
    else kinded (kind_of l) ls (λ k rest. if_next symbol.Comma rest (λ _ inner. expect_strict inner (λ after. taken (semantics k true) after)) (taken (semantics k false) rest))

abbrev pub target_read : List Lexeme → Answer Field
target_read [] = refused 0
target_read (l ∷ ls) = kinded (kind_of l) ls (λ k after. taken (target k l.start) after)

abbrev pub tags_read : ℕ → List Lexeme → Answer Field
tags_read depth ls = if begins symbol.Ident ls then go_on (names_read depth ls) (λ ws after. taken (tags ws) after) else taken (tags []) ls

abbrev pub is_field : Symbol → Bool
is_field symbol.Title = true
is_field symbol.Description = true
is_field symbol.Semantics = true
is_field symbol.Target = true
is_field symbol.Tags = true
is_field _ = false

-- what stands after a field's word
abbrev pub field_by : ℕ → Symbol → List Lexeme → Answer Field
field_by depth symbol.Title ls = expect symbol.Colon ls (λ _ rest. expect symbol.Text rest (λ t after. taken (title (unquoted t.text)) after))
field_by depth symbol.Description ls = expect symbol.Colon ls (λ _ rest. expect symbol.Text rest (λ t after. taken (description (unquoted t.text)) after))
field_by depth symbol.Semantics ls = expect symbol.Colon ls (λ _ rest. semantics_read rest)
field_by depth symbol.Target ls = expect symbol.Colon ls (λ _ rest. target_read rest)
field_by depth symbol.Tags ls = expect symbol.Colon ls (λ _ rest. tags_read depth rest)
field_by depth _ ls = refused (suc (length ls))

abbrev pub fields_read : ℕ → List Lexeme → Answer (List Field)
fields_read zero ls = lost
fields_read (suc depth) [] = refused 0
fields_read (suc depth) (l ∷ ls) =
    if symbol_eq l.symbol symbol.CloseBrace then taken [] (l ∷ ls)
    else go_on (field_by depth l.symbol ls) (λ f rest. go_on (fields_read depth rest) (λ fs after. taken (f ∷ fs) after))

-- enumerations

-- the bits of a value, and the byte after its last character
pub record Value : Type 0 where
  pub bits : List (Option Bool)
  pub end : ℕ

-- the next lexeme goes on with a value that ended here
abbrev pub goes_on_value : ℕ → List Lexeme → Bool
goes_on_value end [] = false
goes_on_value end (m ∷ ls) = end == m.start && is_some (bits_of m.symbol m.text)

abbrev pub valued : Option (List (Option Bool)) → Lexeme → List Lexeme → (List Lexeme → Answer Value) → Answer Value
valued None l ls f = refused (suc (length ls))
valued (Some bs) l ls f = if goes_on_value l.end ls then go_on (f ls) (λ v rest. taken (record { bits = bs ++ v.bits; end = v.end }) rest) else taken (record { bits = bs; end = l.end }) ls

abbrev pub value_read : ℕ → List Lexeme → Answer Value
value_read zero ls = lost
value_read (suc depth) [] = refused 0
value_read (suc depth) (l ∷ ls) = valued (bits_of l.symbol l.text) l ls (value_read depth)

abbrev pub pattern_read : ℕ → List Lexeme → Answer Pattern
pattern_read depth [] = refused 0
pattern_read depth (l ∷ ls) = go_on (value_read depth (l ∷ ls)) (λ v rest. taken (record { bits = v.bits; span = from_to l.start v.end }) rest)

abbrev pub patterns_read : ℕ → List Lexeme → Answer (List Pattern)
patterns_read zero ls = lost
patterns_read (suc depth) ls =
    go_on (pattern_read depth ls) (λ p rest. if_next symbol.Comma rest (λ _ inner. go_on (patterns_read depth inner) (λ ps after. taken (p ∷ ps) after)) (taken (p ∷ []) rest))

-- a name and a colon: the next member of an enumeration
abbrev pub begins_member : List Lexeme → Bool
begins_member [] = false
begins_member (l ∷ []) = false
begins_member (l ∷ n ∷ ls) = symbol_eq l.symbol symbol.Ident && symbol_eq n.symbol symbol.Colon

abbrev pub members_read : ℕ → List Lexeme → Answer (List Member)
members_read zero ls = lost
members_read (suc depth) ls =
    expect symbol.Ident ls (λ l colon_at. expect symbol.Colon colon_at (λ _ values_at. go_on (patterns_read depth values_at) (λ ps rest.
    if begins_member rest then go_on (members_read depth rest) (λ ms after. taken (record { word = word_of l; values = ps } ∷ ms) after)
    else taken (record { word = word_of l; values = ps } ∷ []) rest)))

-- definitions

-- a whole expression; the truth says that another one may follow
abbrev pub expression_read : Bool → ℕ → List Lexeme → Answer Tree
expression_read ends depth ls = (readers depth).level ends Releases ls

abbrev pub guard_read : ℕ → List Lexeme → Answer (Option Tree)
guard_read depth ls = if_next symbol.Otherwise ls (λ _ rest. taken None rest) (go_on (expression_read false depth ls) (λ t rest. taken (Some t) rest))

abbrev pub alternative_of : Option Tree → Tree → Alternative
alternative_of g u = record { guard = g; value = u }

-- what stands after the guard of an alternative, and the alternatives after it
abbrev pub alternatives_read : ℕ → Option Tree → List Lexeme → Answer (List Alternative)
alternatives_read zero g ls = lost
alternatives_read (suc depth) g ls =
    expect symbol.Colon ls (λ _ inner. go_on (expression_read true depth inner) (λ u rest.
    if begins symbol.Semicolon rest then taken (alternative_of g u ∷ []) rest
    else go_on (guard_read depth rest) (λ h colon_at. go_on (alternatives_read depth h colon_at) (λ others after. taken (alternative_of g u ∷ others) after))))

abbrev pub body_read : ℕ → List Lexeme → Answer Body
body_read depth ls =
    if_next symbol.Otherwise ls (λ _ rest. go_on (alternatives_read depth None rest) (λ others after. taken (guarded others) after))
    (go_on (expression_read false depth ls) (λ t rest. if begins symbol.Colon rest then go_on (alternatives_read depth (Some t) rest) (λ others after. taken (guarded others) after) else taken (plain t) rest))

-- a body with its sign before it and its semicolon after it
abbrev pub function_read : ℕ → Named → List Named → List Lexeme → Answer Definition
function_read depth w arguments ls =
    expect symbol.Assign ls (λ _ inner. go_on (body_read depth inner) (λ b rest. expect symbol.Semicolon rest (λ _ after. taken (function w arguments b) after)))

abbrev pub definition_read : ℕ → List Lexeme → Answer Definition
definition_read depth ls =
    if_next symbol.Enum ls (λ _ name_at. expect symbol.Ident name_at (λ l sign_at. expect symbol.Assign sign_at (λ _ inner. go_on (members_read depth inner) (λ ms rest.
    if_next symbol.Semicolon rest (λ _ after. taken (enumeration (word_of l) ms) after) (taken (enumeration (word_of l) ms) rest)))))
    (expect symbol.Ident ls (λ l next. if_next symbol.OpenParen next (λ _ inner. go_on (names_read depth inner) (λ ws rest. expect symbol.CloseParen rest (λ _ sign_at. function_read depth (word_of l) ws sign_at)))
    (function_read depth (word_of l) [] next)))

abbrev pub definitions_read : ℕ → List Lexeme → Answer (List Definition)
definitions_read zero ls = lost
definitions_read (suc depth) ls =
    if begins symbol.CloseBrace ls then taken [] ls
    else go_on (definition_read depth ls) (λ d rest. go_on (definitions_read depth rest) (λ ds after. taken (d ∷ ds) after))

abbrev pub parameters_read : ℕ → List Lexeme → Answer (List Definition)
parameters_read zero ls = lost
parameters_read (suc depth) ls =
    if begins symbol.CloseBrace ls then taken [] ls
    else expect symbol.Ident ls (λ l sign_at. expect symbol.Assign sign_at (λ _ inner. go_on (expression_read false depth inner) (λ t rest. expect symbol.Semicolon rest (λ _ next.
    go_on (parameters_read depth next) (λ ds after. taken (parameter (word_of l) t ∷ ds) after)))))

-- what stands in braces, with them
abbrev pub braced : {A B : Type 0} → (List Lexeme → Answer A) → List Lexeme → (A → List Lexeme → Answer B) → Answer B
braced f ls g = expect symbol.OpenBrace ls (λ _ inner. go_on (f inner) (λ a rest. expect symbol.CloseBrace rest (λ _ after. g a after)))

abbrev pub blocks_read : ℕ → List Lexeme → Answer (List Block)
blocks_read zero ls = lost
blocks_read (suc depth) ls =
    if_next symbol.Parameters ls (λ _ inner. braced (parameters_read depth) inner (λ ds rest. go_on (blocks_read depth rest) (λ bs after. taken (parameters ds ∷ bs) after)))
    (if_next symbol.Definitions ls (λ _ inner. braced (definitions_read depth) inner (λ ds rest. go_on (blocks_read depth rest) (λ bs after. taken (definitions ds ∷ bs) after))) (taken [] ls))

-- MAIN

abbrev pub declaration_read : ℕ → List Lexeme → Answer Declaration
declaration_read depth ls =
    expect symbol.Ident ls (λ l next. if_next symbol.Semicolon next (λ _ after. taken (record { word = word_of l; shape = single }) after)
    (if_next symbol.OpenBracket next (λ _ inner. go_on (expression_read false depth inner) (λ t rest. expect symbol.CloseBracket rest (λ _ semicolon_at. expect symbol.Semicolon semicolon_at (λ _ after.
    taken (record { word = word_of l; shape = bus t }) after))))
    (expect symbol.Ident next (λ n semicolon_at. expect symbol.Semicolon semicolon_at (λ _ after. taken (record { word = word_of n; shape = typed (word_of l) }) after)))))

abbrev pub declarations_read : ℕ → List Lexeme → Answer (List Declaration)
declarations_read zero ls = lost
declarations_read (suc depth) ls =
    if begins symbol.CloseBrace ls then taken [] ls
    else go_on (declaration_read depth ls) (λ d rest. go_on (declarations_read depth rest) (λ ds after. taken (d ∷ ds) after))

abbrev pub formulas_read : ℕ → List Lexeme → Answer (List Tree)
formulas_read zero ls = lost
formulas_read (suc depth) ls =
    if begins symbol.CloseBrace ls then taken [] ls
    else go_on (expression_read false depth ls) (λ t rest. expect symbol.Semicolon rest (λ _ next. go_on (formulas_read depth next) (λ ts after. taken (t ∷ ts) after)))

abbrev pub part_by : ℕ → Symbol → List Lexeme → Answer Part
part_by depth symbol.Inputs ls = braced (declarations_read depth) ls (λ ds after. taken (inputs ds) after)
part_by depth symbol.Outputs ls = braced (declarations_read depth) ls (λ ds after. taken (outputs ds) after)
part_by depth (symbol.Section s) ls = braced (formulas_read depth) ls (λ ts after. taken (section s ts) after)
part_by depth _ ls = refused (suc (length ls))

abbrev pub parts_read : ℕ → List Lexeme → Answer (List Part)
parts_read zero ls = lost
parts_read (suc depth) [] = refused 0
parts_read (suc depth) (l ∷ ls) =
    if symbol_eq l.symbol symbol.CloseBrace then taken [] (l ∷ ls)
    else go_on (part_by depth l.symbol ls) (λ p rest. go_on (parts_read depth rest) (λ ps after. taken (p ∷ ps) after))

abbrev pub main_read : ℕ → List Field → List Block → List Lexeme → Answer Written
main_read depth fs bs ls = expect symbol.Main ls (λ _ inner. braced (parts_read depth) inner (λ ps after. taken (record { fields = fs; blocks = bs; parts = ps }) after))

-- what stands after INFO: GLOBAL where it is there, and MAIN
abbrev pub after_info : ℕ → List Field → List Lexeme → Answer Written
after_info depth fs ls =
    if_next symbol.Global ls (λ _ inner. braced (blocks_read depth) inner (λ bs main_at. main_read depth fs bs main_at)) (main_read depth fs [] ls)

abbrev pub text_read : ℕ → List Lexeme → Answer Written
text_read depth ls = expect symbol.Info ls (λ _ inner. braced (fields_read depth) inner (λ fs next. after_info depth fs next))

-- no list of lexemes is two texts
abbrev pub TextsHaveOneTree : Type 0
TextsHaveOneTree = (ls : List Lexeme) (w w' : Written) → DerivesText ls w → DerivesText ls w' → w ≡ w'

-- readers that go deep enough answer this on a text
abbrev pub AnswersInTheEnd : List Lexeme → Answer Written → Type 0
AnswersInTheEnd ls a = (from : ℕ) × ((depth : ℕ) → from ≤ depth → text_read depth ls ≡ a)

-- The reader reads exactly the texts, and what it refuses, or leaves after a text, is the first unexpected lexeme.
pub record TextsAreReadExactly : Type 0 where
  pub sound : (ls : List Lexeme) (w : Written) → AnswersInTheEnd ls (taken w []) → DerivesText ls w
  pub complete : (ls : List Lexeme) (w : Written) → DerivesText ls w → AnswersInTheEnd ls (taken w [])
  pub refused : (ls : List Lexeme) (at k : ℕ) → AnswersInTheEnd ls (refused k) → at + k ≡ length ls → IsFirstUnexpected ls at
  pub left : (ls : List Lexeme) (at : ℕ) (w : Written) (l : Lexeme) (rest : List Lexeme) → AnswersInTheEnd ls (taken w (l ∷ rest)) → at + length (l ∷ rest) ≡ length ls → IsFirstUnexpected ls at
