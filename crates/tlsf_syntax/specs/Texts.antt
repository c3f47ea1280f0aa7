-- The grammar of whole texts of TLSF, full format, one case a line.
use Rattle.std.specs.Prelude.{◌≡◌, ◌<◌, ℕ, ◌+◌, ◌-◌, Bool, true, false, ◌==◌, if◌then◌else◌, List, [], ◌∷◌, ◌++◌, length, take, drop, Option, None, Some, codes}
use Rattle.letters_and_lassos.specs.declared.kinds.Kind.{Kind}
use Rattle.letters_and_lassos.specs.declared.kinds.Kind.TheVariants.{Mealy, Moore}
use Rattle.tlsf_tokens.specs.declared.symbol.Section.{Section}
use Rattle.tlsf_tokens.specs.declared.symbol.Symbol.{Symbol}
use Rattle.tlsf_tokens.specs.declared.symbol.Symbol.TheVariants as symbol
use Rattle.tlsf_syntax.specs.Tree.{Named, Tree, Alternative, Body, plain, guarded, Pattern, Member, Definition, parameter, function, enumeration, single, bus, typed, Declaration, Field, title, description, semantics, target, tags, Block, parameters, definitions, Part, inputs, outputs, section, Written}
use Rattle.tlsf_syntax.specs.Lexemes.{Lexeme, Is, word_of, span_of}
use Rattle.tlsf_syntax.specs.declared.level.Level.TheVariants.{Releases}
use Rattle.tlsf_syntax.specs.Expressions.{Derives}

-- what stands between the quotes of a text
abbrev pub unquoted : List ℕ → List ℕ
unquoted bytes = take (length bytes - 2) (drop 1 bytes)

-- the words of SEMANTICS and TARGET are names that are recognised in these places
pub data IsKind : Lexeme → Kind → Type 0 where
  is_mealy : (l : Lexeme) → Is symbol.Ident l → l.text ≡ codes "Mealy" → IsKind l Mealy
  is_moore : (l : Lexeme) → Is symbol.Ident l → l.text ≡ codes "Moore" → IsKind l Moore

abbrev pub IsStrict : Lexeme → Type 0
IsStrict l = Is symbol.Ident l × (l.text ≡ codes "Strict")

-- the kind, and whether the semantics is strict
pub data DerivesSemantics : List Lexeme → Kind → Bool → Type 0 where
  of_kind : (l : Lexeme) (k : Kind) → IsKind l k → DerivesSemantics (l ∷ []) k false
  of_kind_strict : (l comma s : Lexeme) (k : Kind) → IsKind l k → Is symbol.Comma comma → IsStrict s → DerivesSemantics (l ∷ comma ∷ s ∷ []) k true
  of_strict_kind : (s comma l : Lexeme) (k : Kind) → IsStrict s → Is symbol.Comma comma → IsKind l k → DerivesSemantics (s ∷ comma ∷ l ∷ []) k true

-- one or more names with commas between
pub data DerivesNames : List Lexeme → List Named → Type 0 where
  of_one_name : (l : Lexeme) → Is symbol.Ident l → DerivesNames (l ∷ []) (word_of l ∷ [])
  of_names : (l comma : Lexeme) (ls : List Lexeme) (ws : List Named) → Is symbol.Ident l → Is symbol.Comma comma → DerivesNames ls ws → DerivesNames (l ∷ comma ∷ ls) (word_of l ∷ ws)

pub data DerivesField : List Lexeme → Field → Type 0 where
  of_title : (l colon t : Lexeme) → Is symbol.Title l → Is symbol.Colon colon → Is symbol.Text t → DerivesField (l ∷ colon ∷ t ∷ []) (title (unquoted t.text))
  of_description : (l colon t : Lexeme) → Is symbol.Description l → Is symbol.Colon colon → Is symbol.Text t → DerivesField (l ∷ colon ∷ t ∷ []) (description (unquoted t.text))
  of_semantics : (l colon : Lexeme) (ls : List Lexeme) (k : Kind) (strict : Bool) → Is symbol.Semantics l → Is symbol.Colon colon → DerivesSemantics ls k strict
      → DerivesField (l ∷ colon ∷ ls) (semantics k strict)
  of_target : (l colon t : Lexeme) (k : Kind) → Is symbol.Target l → Is symbol.Colon colon → IsKind t k → DerivesField (l ∷ colon ∷ t ∷ []) (target k t.start)
  of_no_tags : (l colon : Lexeme) → Is symbol.Tags l → Is symbol.Colon colon → DerivesField (l ∷ colon ∷ []) (tags [])
  of_tags : (l colon : Lexeme) (ls : List Lexeme) (ws : List Named) → Is symbol.Tags l → Is symbol.Colon colon → DerivesNames ls ws → DerivesField (l ∷ colon ∷ ls) (tags ws)

pub data DerivesFields : List Lexeme → List Field → Type 0 where
  of_no_field : DerivesFields [] []
  of_field : (ls ms : List Lexeme) (f : Field) (fs : List Field) → DerivesField ls f → DerivesFields ms fs → DerivesFields (ls ++ ms) (f ∷ fs)

-- the bits that one lexeme of a value gives: a number of digits 0 and 1, or `*`, which stands for either
abbrev pub digits_bits : List ℕ → Option (List (Option Bool))
digits_bits [] = Some []
digits_bits (d ∷ ds) = if d == 48 then then_bit (Some false) (digits_bits ds) else (if d == 49 then then_bit (Some true) (digits_bits ds) else None)
  where
    then_bit : Option Bool → Option (List (Option Bool)) → Option (List (Option Bool))
    then_bit b None = None
    then_bit b (Some bs) = Some (b ∷ bs)

abbrev pub bits_of : Symbol → List ℕ → Option (List (Option Bool))
bits_of symbol.Number text = digits_bits text
bits_of symbol.Star text = Some (None ∷ [])
bits_of _ text = None

-- numbers and `*` that stand together without a gap
pub data DerivesBits : List Lexeme → List (Option Bool) → Type 0 where
  of_bits : (l : Lexeme) (bs : List (Option Bool)) → bits_of l.symbol l.text ≡ Some bs → DerivesBits (l ∷ []) bs
  of_more_bits : (l m : Lexeme) (ls : List Lexeme) (bs more : List (Option Bool)) → bits_of l.symbol l.text ≡ Some bs → l.end ≡ m.start → DerivesBits (m ∷ ls) more
      → DerivesBits (l ∷ m ∷ ls) (bs ++ more)

pub data DerivesPatterns : List Lexeme → List Pattern → Type 0 where
  of_one_pattern : (ls : List Lexeme) (bs : List (Option Bool)) → DerivesBits ls bs → DerivesPatterns ls (record { bits = bs; span = span_of ls } ∷ [])
  of_patterns : (comma : Lexeme) (ls ms : List Lexeme) (bs : List (Option Bool)) (ps : List Pattern) → DerivesBits ls bs → Is symbol.Comma comma → DerivesPatterns ms ps
      → DerivesPatterns (ls ++ comma ∷ ms) (record { bits = bs; span = span_of ls } ∷ ps)

-- one or more members
pub data DerivesMembers : List Lexeme → List Member → Type 0 where
  of_one_member : (l colon : Lexeme) (ls : List Lexeme) (ps : List Pattern) → Is symbol.Ident l → Is symbol.Colon colon → DerivesPatterns ls ps
      → DerivesMembers (l ∷ colon ∷ ls) (record { word = word_of l; values = ps } ∷ [])
  of_members : (l colon : Lexeme) (ls ms : List Lexeme) (ps : List Pattern) (more : List Member) → Is symbol.Ident l → Is symbol.Colon colon → DerivesPatterns ls ps → DerivesMembers ms more
      → DerivesMembers (l ∷ colon ∷ ls ++ ms) (record { word = word_of l; values = ps } ∷ more)

pub data DerivesAlternative : List Lexeme → Alternative → Type 0 where
  of_guard : (colon : Lexeme) (ls ms : List Lexeme) (t u : Tree) → Derives Releases ls t → Is symbol.Colon colon → Derives Releases ms u
      → DerivesAlternative (ls ++ colon ∷ ms) (record { guard = Some t; value = u })
  of_otherwise : (l colon : Lexeme) (ms : List Lexeme) (u : Tree) → Is symbol.Otherwise l → Is symbol.Colon colon → Derives Releases ms u
      → DerivesAlternative (l ∷ colon ∷ ms) (record { guard = None; value = u })

abbrev pub EndsWithName : List Lexeme → Type 0
EndsWithName [] = ⊥
EndsWithName (l ∷ []) = Is symbol.Ident l
EndsWithName (l ∷ m ∷ ls) = EndsWithName (m ∷ ls)

abbrev pub BeginsWithParen : List Lexeme → Type 0
BeginsWithParen [] = ⊥
BeginsWithParen (l ∷ ls) = Is symbol.OpenParen l

-- one or more alternatives; a name before `(` is always called, so no alternative ends with it
pub data DerivesAlternatives : List Lexeme → List Alternative → Type 0 where
  of_one_alternative : (ls : List Lexeme) (a : Alternative) → DerivesAlternative ls a → DerivesAlternatives ls (a ∷ [])
  of_alternatives : (ls ms : List Lexeme) (a : Alternative) (others : List Alternative) → DerivesAlternative ls a → DerivesAlternatives ms others → ¬ (EndsWithName ls × BeginsWithParen ms)
      → DerivesAlternatives (ls ++ ms) (a ∷ others)

pub data DerivesBody : List Lexeme → Body → Type 0 where
  of_plain : (ls : List Lexeme) (t : Tree) → Derives Releases ls t → DerivesBody ls (plain t)
  of_guarded : (ls : List Lexeme) (others : List Alternative) → DerivesAlternatives ls others → DerivesBody ls (guarded others)

pub data DerivesDefinition : List Lexeme → Definition → Type 0 where
  of_constant : (l sign semicolon : Lexeme) (ls : List Lexeme) (b : Body) → Is symbol.Ident l → Is symbol.Assign sign → DerivesBody ls b → Is symbol.Semicolon semicolon
      → DerivesDefinition (l ∷ sign ∷ ls ++ semicolon ∷ []) (function (word_of l) [] b)
  of_function : (l before after sign semicolon : Lexeme) (ns ls : List Lexeme) (ws : List Named) (b : Body) → Is symbol.Ident l → Is symbol.OpenParen before → DerivesNames ns ws
      → Is symbol.CloseParen after → Is symbol.Assign sign → DerivesBody ls b → Is symbol.Semicolon semicolon
      → DerivesDefinition (l ∷ before ∷ ns ++ after ∷ sign ∷ ls ++ semicolon ∷ []) (function (word_of l) ws b)
  of_enumeration : (e l sign : Lexeme) (ls : List Lexeme) (ms : List Member) → Is symbol.Enum e → Is symbol.Ident l → Is symbol.Assign sign → DerivesMembers ls ms
      → DerivesDefinition (e ∷ l ∷ sign ∷ ls) (enumeration (word_of l) ms)
  of_ended_enumeration : (e l sign semicolon : Lexeme) (ls : List Lexeme) (ms : List Member) → Is symbol.Enum e → Is symbol.Ident l → Is symbol.Assign sign → DerivesMembers ls ms
      → Is symbol.Semicolon semicolon → DerivesDefinition (e ∷ l ∷ sign ∷ ls ++ semicolon ∷ []) (enumeration (word_of l) ms)

pub data DerivesDefinitions : List Lexeme → List Definition → Type 0 where
  of_no_definition : DerivesDefinitions [] []
  of_definition : (ls ms : List Lexeme) (d : Definition) (ds : List Definition) → DerivesDefinition ls d → DerivesDefinitions ms ds → DerivesDefinitions (ls ++ ms) (d ∷ ds)

pub data DerivesParameters : List Lexeme → List Definition → Type 0 where
  of_no_parameter : DerivesParameters [] []
  of_parameter : (l sign semicolon : Lexeme) (ls ms : List Lexeme) (t : Tree) (ds : List Definition) → Is symbol.Ident l → Is symbol.Assign sign → Derives Releases ls t → Is symbol.Semicolon semicolon
      → DerivesParameters ms ds → DerivesParameters (l ∷ sign ∷ ls ++ semicolon ∷ ms) (parameter (word_of l) t ∷ ds)

pub data DerivesBlocks : List Lexeme → List Block → Type 0 where
  of_no_block : DerivesBlocks [] []
  of_parameters : (l before after : Lexeme) (ls ms : List Lexeme) (ds : List Definition) (bs : List Block) → Is symbol.Parameters l → Is symbol.OpenBrace before → DerivesParameters ls ds
      → Is symbol.CloseBrace after → DerivesBlocks ms bs → DerivesBlocks (l ∷ before ∷ ls ++ after ∷ ms) (parameters ds ∷ bs)
  of_definitions : (l before after : Lexeme) (ls ms : List Lexeme) (ds : List Definition) (bs : List Block) → Is symbol.Definitions l → Is symbol.OpenBrace before → DerivesDefinitions ls ds
      → Is symbol.CloseBrace after → DerivesBlocks ms bs → DerivesBlocks (l ∷ before ∷ ls ++ after ∷ ms) (definitions ds ∷ bs)

pub data DerivesDeclarations : List Lexeme → List Declaration → Type 0 where
  of_no_declaration : DerivesDeclarations [] []
  of_single : (l semicolon : Lexeme) (ms : List Lexeme) (ds : List Declaration) → Is symbol.Ident l → Is symbol.Semicolon semicolon → DerivesDeclarations ms ds
      → DerivesDeclarations (l ∷ semicolon ∷ ms) (record { word = word_of l; shape = single } ∷ ds)
  of_bus : (l before after semicolon : Lexeme) (ls ms : List Lexeme) (t : Tree) (ds : List Declaration) → Is symbol.Ident l → Is symbol.OpenBracket before → Derives Releases ls t
      → Is symbol.CloseBracket after → Is symbol.Semicolon semicolon → DerivesDeclarations ms ds
      → DerivesDeclarations (l ∷ before ∷ ls ++ after ∷ semicolon ∷ ms) (record { word = word_of l; shape = bus t } ∷ ds)
  of_typed : (t l semicolon : Lexeme) (ms : List Lexeme) (ds : List Declaration) → Is symbol.Ident t → Is symbol.Ident l → Is symbol.Semicolon semicolon → DerivesDeclarations ms ds
      → DerivesDeclarations (t ∷ l ∷ semicolon ∷ ms) (record { word = word_of l; shape = typed (word_of t) } ∷ ds)

pub data DerivesFormulas : List Lexeme → List Tree → Type 0 where
  of_no_formula : DerivesFormulas [] []
  of_formula : (semicolon : Lexeme) (ls ms : List Lexeme) (t : Tree) (ts : List Tree) → Derives Releases ls t → Is symbol.Semicolon semicolon → DerivesFormulas ms ts
      → DerivesFormulas (ls ++ semicolon ∷ ms) (t ∷ ts)

pub data DerivesParts : List Lexeme → List Part → Type 0 where
  of_no_part : DerivesParts [] []
  of_inputs : (l before after : Lexeme) (ls ms : List Lexeme) (ds : List Declaration) (ps : List Part) → Is symbol.Inputs l → Is symbol.OpenBrace before → DerivesDeclarations ls ds
      → Is symbol.CloseBrace after → DerivesParts ms ps → DerivesParts (l ∷ before ∷ ls ++ after ∷ ms) (inputs ds ∷ ps)
  of_outputs : (l before after : Lexeme) (ls ms : List Lexeme) (ds : List Declaration) (ps : List Part) → Is symbol.Outputs l → Is symbol.OpenBrace before → DerivesDeclarations ls ds
      → Is symbol.CloseBrace after → DerivesParts ms ps → DerivesParts (l ∷ before ∷ ls ++ after ∷ ms) (outputs ds ∷ ps)
  of_section : (l before after : Lexeme) (s : Section) (ls ms : List Lexeme) (ts : List Tree) (ps : List Part) → Is (symbol.Section s) l → Is symbol.OpenBrace before → DerivesFormulas ls ts
      → Is symbol.CloseBrace after → DerivesParts ms ps → DerivesParts (l ∷ before ∷ ls ++ after ∷ ms) (section s ts ∷ ps)

-- INFO with its braces
pub data DerivesInfo : List Lexeme → List Field → Type 0 where
  of_info : (l before after : Lexeme) (ls : List Lexeme) (fs : List Field) → Is symbol.Info l → Is symbol.OpenBrace before → DerivesFields ls fs → Is symbol.CloseBrace after
      → DerivesInfo (l ∷ before ∷ ls ++ after ∷ []) fs

-- GLOBAL with its braces, or nothing
pub data DerivesGlobal : List Lexeme → List Block → Type 0 where
  of_no_global : DerivesGlobal [] []
  of_global : (l before after : Lexeme) (ls : List Lexeme) (bs : List Block) → Is symbol.Global l → Is symbol.OpenBrace before → DerivesBlocks ls bs → Is symbol.CloseBrace after
      → DerivesGlobal (l ∷ before ∷ ls ++ after ∷ []) bs

-- MAIN with its braces
pub data DerivesMain : List Lexeme → List Part → Type 0 where
  of_main : (l before after : Lexeme) (ls : List Lexeme) (ps : List Part) → Is symbol.Main l → Is symbol.OpenBrace before → DerivesParts ls ps → Is symbol.CloseBrace after
      → DerivesMain (l ∷ before ∷ ls ++ after ∷ []) ps

-- a whole text
pub data DerivesText : List Lexeme → Written → Type 0 where
  of_text : (is gs ms : List Lexeme) (w : Written) → DerivesInfo is w.fields → DerivesGlobal gs w.blocks → DerivesMain ms w.parts → DerivesText (is ++ gs ++ ms) w

-- some text of the grammar begins so
abbrev pub Begins : List Lexeme → Type 0
Begins ls = (more : List Lexeme) × (w : Written) × DerivesText (ls ++ more) w

-- The first lexeme that no text of the grammar has after those before it, or their number where they begin a text and are none.
pub data IsFirstUnexpected : List Lexeme → ℕ → Type 0 where
  at_lexeme : (ls : List Lexeme) (k : ℕ) → k < length ls → Begins (take k ls) → ¬ Begins (take (k + 1) ls) → IsFirstUnexpected ls k
  at_end : (ls : List Lexeme) → Begins ls → ¬ ((w : Written) × DerivesText ls w) → IsFirstUnexpected ls (length ls)

-- a list of lexemes has at most one first unexpected one, and none where it is a text
pub record UnexpectedIsDetermined : Type 0 where
  pub one : (ls : List Lexeme) (k k' : ℕ) → IsFirstUnexpected ls k → IsFirstUnexpected ls k' → k ≡ k'
  pub never_a_text : (ls : List Lexeme) (k : ℕ) (w : Written) → IsFirstUnexpected ls k → DerivesText ls w → ⊥

-- no text has the name `Finite` as a word of the value of SEMANTICS, which TLSF 1.1 has there
pub record NoTextIsFinite : Type 0 where
  pub first : (ls : List Lexeme) (w : Written) → DerivesText ls w → (before after : List Lexeme) (s colon l : Lexeme) → ls ≡ before ++ s ∷ colon ∷ l ∷ after → Is symbol.Semantics s → l.text ≡ codes "Finite" → ⊥
  pub second : (ls : List Lexeme) (w : Written) → DerivesText ls w → (before after : List Lexeme) (s colon word comma l : Lexeme) → ls ≡ before ++ s ∷ colon ∷ word ∷ comma ∷ l ∷ after → Is symbol.Semantics s → Is symbol.Comma comma
      → l.text ≡ codes "Finite" → ⊥
