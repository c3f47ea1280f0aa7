-- Each word that a text declares is a name among its lexemes, and its last lexeme closes MAIN.
use Rattle.std.proofs.Common.{◌≡◌, ℕ, zero, suc, ◌+◌, List, [], ◌∷◌, ◌++◌, length, map, slice_get, Some, sym, ap, subst, arith}
use Rattle.tlsf_tokens.specs.declared.symbol.Symbol.{Symbol}
use Rattle.tlsf_tokens.specs.declared.symbol.Symbol.TheVariants as symbol
use Rattle.tlsf_syntax.specs.Tree.{Named, Member, Definition, Declaration, Block, Part, Written}
use Rattle.tlsf_syntax.specs.Lexemes.{Lexeme, Is}
use Rattle.tlsf_syntax.specs.Texts.{DerivesMembers, of_one_member, of_members, DerivesDefinition, of_constant, of_function, of_enumeration, of_ended_enumeration, DerivesDefinitions, of_no_definition, of_definition, DerivesParameters, of_no_parameter, of_parameter, DerivesBlocks, of_no_block, of_parameters, of_definitions, DerivesDeclarations, of_no_declaration, of_single, of_bus, of_typed, DerivesParts, of_no_part, of_inputs, of_outputs, of_section, DerivesGlobal, of_no_global, of_global, DerivesMain, of_main, DerivesText, of_text}
use Rattle.tlsf_reader.specs.Faults.{symbols_of}
use Rattle.tlsf_reader.specs.Parts.{definition_words, words_of_definitions, words_of_parts, definitions_of, declared_words}
use Rattle.tlsf_reader.proofs.Repeats.{words_append}
use Rattle.flat_text.proofs.Starts.{StandsAt, stands_first, stands_later, stands_behind, stands_before}

abbrev NameAt : List Lexeme → ℕ → Type 0
NameAt ls place = StandsAt symbol.Ident ls place

-- each of the words begins where a name does
abbrev pub AreNames : List Named → List Lexeme → Type 0
AreNames [] ls = Unit {0}
AreNames (w ∷ ws) ls = NameAt ls w.span.start × AreNames ws ls

names_moved : (ws : List Named) (ls ms : List Lexeme) → ((place : ℕ) → NameAt ls place → NameAt ms place) → AreNames ws ls → AreNames ws ms
names_moved [] ls ms f h = tt
names_moved (w ∷ ws) ls ms f h = (f w.span.start h.0, names_moved ws ls ms f h.1)

names_joined : (ws vs : List Named) (ls : List Lexeme) → AreNames ws ls → AreNames vs ls → AreNames (ws ++ vs) ls
names_joined [] vs ls h g = g
names_joined (w ∷ ws) vs ls h g = (h.0, names_joined ws vs ls h.1 g)

pub name_at : (ws : List Named) (ls : List Lexeme) (k : ℕ) (w : Named) → AreNames ws ls → slice_get ws k ≡ Some w → NameAt ls w.span.start
name_at [] ls k w h e = absurd cc
name_at (v ∷ ws) ls zero w h e = let same : v ≡ w = cc in subst (λ (u : Named). NameAt ls u.span.start) same h.0
name_at (v ∷ ws) ls (suc k) w h e = name_at ws ls k w h.1 e

-- three lexemes further on
later_by_2 : (l m : Lexeme) (ls : List Lexeme) (place : ℕ) → NameAt ls place → NameAt (l ∷ m ∷ ls) place
later_by_2 l m ls place a = stands_later symbol.Ident l (m ∷ ls) place (stands_later symbol.Ident m ls place a)

later_by_3 : (l m n : Lexeme) (ls : List Lexeme) (place : ℕ) → NameAt ls place → NameAt (l ∷ m ∷ n ∷ ls) place
later_by_3 l m n ls place a = stands_later symbol.Ident l (m ∷ n ∷ ls) place (later_by_2 m n ls place a)

members_named : (ls : List Lexeme) (ms : List Member) → DerivesMembers ls ms → AreNames (map (λ (m : Member). m.word) ms) ls
members_named _ _ (of_one_member l colon ls ps i c d) = (stands_first symbol.Ident l (colon ∷ ls) i, tt)
members_named _ _ (of_members l colon ls ms ps more i c d rest) = (
  stands_first symbol.Ident l (colon ∷ ls ++ ms) i,
  names_moved (map (λ (m : Member). m.word) more) ms (l ∷ colon ∷ ls ++ ms) (λ place a. later_by_2 l colon (ls ++ ms) place (stands_behind symbol.Ident ls ms place a)) (members_named ms more rest),
)

definition_named : (ls : List Lexeme) (d : Definition) → DerivesDefinition ls d → AreNames (definition_words d) ls
definition_named _ _ (of_constant l sign semicolon ls b i s d e) = (stands_first symbol.Ident l (sign ∷ ls ++ semicolon ∷ []) i, tt)
definition_named _ _ (of_function l before after sign semicolon ns ls ws b i o n c s d e) = (stands_first symbol.Ident l (before ∷ ns ++ after ∷ sign ∷ ls ++ semicolon ∷ []) i, tt)
definition_named _ _ (of_enumeration e l sign ls ms ie il is d) = (
  stands_later symbol.Ident e (l ∷ sign ∷ ls) l.start (stands_first symbol.Ident l (sign ∷ ls) il),
  names_moved (map (λ (m : Member). m.word) ms) ls (e ∷ l ∷ sign ∷ ls) (later_by_3 e l sign ls) (members_named ls ms d),
)
definition_named _ _ (of_ended_enumeration e l sign semicolon ls ms ie il is d end) = (
  stands_later symbol.Ident e (l ∷ sign ∷ ls ++ semicolon ∷ []) l.start (stands_first symbol.Ident l (sign ∷ ls ++ semicolon ∷ []) il),
  names_moved (map (λ (m : Member). m.word) ms) ls (e ∷ l ∷ sign ∷ ls ++ semicolon ∷ [])
      (λ place a. later_by_3 e l sign (ls ++ semicolon ∷ []) place (stands_before symbol.Ident ls (semicolon ∷ []) place a)) (members_named ls ms d),
)

definitions_named : (ls : List Lexeme) (ds : List Definition) → DerivesDefinitions ls ds → AreNames (words_of_definitions ds) ls
definitions_named _ _ of_no_definition = tt
definitions_named _ _ (of_definition ls ms d ds first rest) =
    names_joined (definition_words d) (words_of_definitions ds) (ls ++ ms)
    (names_moved (definition_words d) ls (ls ++ ms) (stands_before symbol.Ident ls ms) (definition_named ls d first))
    (names_moved (words_of_definitions ds) ms (ls ++ ms) (stands_behind symbol.Ident ls ms) (definitions_named ms ds rest))

parameters_named : (ls : List Lexeme) (ds : List Definition) → DerivesParameters ls ds → AreNames (words_of_definitions ds) ls
parameters_named _ _ of_no_parameter = tt
parameters_named _ _ (of_parameter l sign semicolon ls ms t ds i s d e rest) = (
  stands_first symbol.Ident l (sign ∷ ls ++ semicolon ∷ ms) i,
  names_moved (words_of_definitions ds) ms (l ∷ sign ∷ ls ++ semicolon ∷ ms)
      (λ place a. later_by_2 l sign (ls ++ semicolon ∷ ms) place (stands_behind symbol.Ident ls (semicolon ∷ ms) place (stands_later symbol.Ident semicolon ms place a))) (parameters_named ms ds rest),
)

-- a part with its head and braces, before others
part_named : (l before after : Lexeme) (ls ms : List Lexeme) (ws vs : List Named) → AreNames ws ls → AreNames vs ms → AreNames (ws ++ vs) (l ∷ before ∷ ls ++ after ∷ ms)
part_named l before after ls ms ws vs h g =
    names_joined ws vs (l ∷ before ∷ ls ++ after ∷ ms)
    (names_moved ws ls (l ∷ before ∷ ls ++ after ∷ ms) (λ place a. later_by_2 l before (ls ++ after ∷ ms) place (stands_before symbol.Ident ls (after ∷ ms) place a)) h)
    (names_moved vs ms (l ∷ before ∷ ls ++ after ∷ ms)
    (λ place a. later_by_2 l before (ls ++ after ∷ ms) place (stands_behind symbol.Ident ls (after ∷ ms) place (stands_later symbol.Ident after ms place a))) g)

blocks_named : (ls : List Lexeme) (bs : List Block) → DerivesBlocks ls bs → AreNames (words_of_definitions (definitions_of bs)) ls
blocks_named _ _ of_no_block = tt
blocks_named _ _ (of_parameters l before after ls ms ds bs i o d c rest) =
    subst (λ ws. AreNames ws (l ∷ before ∷ ls ++ after ∷ ms)) (sym (words_append ds (definitions_of bs)))
    (part_named l before after ls ms (words_of_definitions ds) (words_of_definitions (definitions_of bs)) (parameters_named ls ds d) (blocks_named ms bs rest))
blocks_named _ _ (of_definitions l before after ls ms ds bs i o d c rest) =
    subst (λ ws. AreNames ws (l ∷ before ∷ ls ++ after ∷ ms)) (sym (words_append ds (definitions_of bs)))
    (part_named l before after ls ms (words_of_definitions ds) (words_of_definitions (definitions_of bs)) (definitions_named ls ds d) (blocks_named ms bs rest))

declarations_named : (ls : List Lexeme) (ds : List Declaration) → DerivesDeclarations ls ds → AreNames (map (λ (d : Declaration). d.word) ds) ls
declarations_named _ _ of_no_declaration = tt
declarations_named _ _ (of_single l semicolon ms ds i s rest) =
    (stands_first symbol.Ident l (semicolon ∷ ms) i, names_moved (map (λ (d : Declaration). d.word) ds) ms (l ∷ semicolon ∷ ms) (later_by_2 l semicolon ms) (declarations_named ms ds rest))
declarations_named _ _ (of_bus l before after semicolon ls ms t ds i o d c s rest) = (
  stands_first symbol.Ident l (before ∷ ls ++ after ∷ semicolon ∷ ms) i,
  names_moved (map (λ (d : Declaration). d.word) ds) ms (l ∷ before ∷ ls ++ after ∷ semicolon ∷ ms)
      (λ place a. later_by_2 l before (ls ++ after ∷ semicolon ∷ ms) place (stands_behind symbol.Ident ls (after ∷ semicolon ∷ ms) place (later_by_2 after semicolon ms place a))) (declarations_named ms ds rest),
)
declarations_named _ _ (of_typed t l semicolon ms ds it il s rest) = (
  stands_later symbol.Ident t (l ∷ semicolon ∷ ms) l.start (stands_first symbol.Ident l (semicolon ∷ ms) il),
  names_moved (map (λ (d : Declaration). d.word) ds) ms (t ∷ l ∷ semicolon ∷ ms) (later_by_3 t l semicolon ms) (declarations_named ms ds rest),
)

parts_named : (ls : List Lexeme) (ps : List Part) → DerivesParts ls ps → AreNames (words_of_parts ps) ls
parts_named _ _ of_no_part = tt
parts_named _ _ (of_inputs l before after ls ms ds ps i o d c rest) =
    part_named l before after ls ms (map (λ (d : Declaration). d.word) ds) (words_of_parts ps) (declarations_named ls ds d) (parts_named ms ps rest)
parts_named _ _ (of_outputs l before after ls ms ds ps i o d c rest) =
    part_named l before after ls ms (map (λ (d : Declaration). d.word) ds) (words_of_parts ps) (declarations_named ls ds d) (parts_named ms ps rest)
parts_named _ _ (of_section l before after s ls ms ts ps i o d c rest) = part_named l before after ls ms [] (words_of_parts ps) tt (parts_named ms ps rest)

global_named : (ls : List Lexeme) (bs : List Block) → DerivesGlobal ls bs → AreNames (words_of_definitions (definitions_of bs)) ls
global_named _ _ of_no_global = tt
global_named _ _ (of_global l before after ls bs i o d c) =
    names_moved (words_of_definitions (definitions_of bs)) ls (l ∷ before ∷ ls ++ after ∷ [])
    (λ place a. later_by_2 l before (ls ++ after ∷ []) place (stands_before symbol.Ident ls (after ∷ []) place a)) (blocks_named ls bs d)

main_named : (ls : List Lexeme) (ps : List Part) → DerivesMain ls ps → AreNames (words_of_parts ps) ls
main_named _ _ (of_main l before after ls ps i o d c) =
    names_moved (words_of_parts ps) ls (l ∷ before ∷ ls ++ after ∷ [])
    (λ place a. later_by_2 l before (ls ++ after ∷ []) place (stands_before symbol.Ident ls (after ∷ []) place a)) (parts_named ls ps d)

pub words_are_names : (ls : List Lexeme) (w : Written) → DerivesText ls w → AreNames (declared_words w) ls
words_are_names _ w (of_text is gs ms _ i g m) =
    names_joined (words_of_definitions (definitions_of w.blocks)) (words_of_parts w.parts) (is ++ gs ++ ms)
    (names_moved (words_of_definitions (definitions_of w.blocks)) gs (is ++ gs ++ ms) (λ place a. stands_before symbol.Ident (is ++ gs) ms place (stands_behind symbol.Ident is gs place a)) (global_named gs w.blocks g))
    (names_moved (words_of_parts w.parts) ms (is ++ gs ++ ms) (stands_behind symbol.Ident (is ++ gs) ms) (main_named ms w.parts m))

-- the last lexeme has this symbol
abbrev LastIs : Symbol → List Lexeme → Type 0
LastIs s [] = ⊥
LastIs s (l ∷ []) = Is s l
LastIs s (l ∷ m ∷ ls) = LastIs s (m ∷ ls)

last_behind : (s : Symbol) (ls ms : List Lexeme) → LastIs s ms → LastIs s (ls ++ ms)
last_behind s [] ms h = h
last_behind s (l ∷ ls) ms h = by (ls ++ ms) (last_behind s ls ms h)
  where
    by : (ns : List Lexeme) → LastIs s ns → LastIs s (l ∷ ns)
    by [] g = absurd g
    by (n ∷ ns) g = g

last_at : (s : Symbol) (ls : List Lexeme) (k : ℕ) → LastIs s ls → k + 1 ≡ length ls → slice_get (symbols_of ls) k ≡ Some s
last_at s [] k h e = absurd h
last_at s (l ∷ []) zero h e = ap Some h
last_at s (l ∷ []) (suc k) h e = absurd (omega (arith, e))
last_at s (l ∷ m ∷ ls) zero h e = absurd (omega (arith, e))
last_at s (l ∷ m ∷ ls) (suc k) h e = last_at s (m ∷ ls) k h (omega (arith, e))

main_ends : (ls : List Lexeme) (ps : List Part) → DerivesMain ls ps → LastIs symbol.CloseBrace ls
main_ends _ _ (of_main l before after ls ps i o d c) = last_behind symbol.CloseBrace (l ∷ before ∷ ls) (after ∷ []) c

pub last_closes : (ls : List Lexeme) (w : Written) (k : ℕ) → DerivesText ls w → k + 1 ≡ length ls → slice_get (symbols_of ls) k ≡ Some symbol.CloseBrace
last_closes _ w k (of_text is gs ms _ i g m) e = last_at symbol.CloseBrace (is ++ gs ++ ms) k (last_behind symbol.CloseBrace (is ++ gs) ms (main_ends ms w.parts m)) e
