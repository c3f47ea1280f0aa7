-- After SEMANTICS and its colon stand words of kinds and `Strict` alone.
use Rattle.std.proofs.Common.{◌≡◌, Bool, true, false, List, [], ◌∷◌, ◌++◌, Option, Some, refl, sym, ◌∙◌, ap, subst, append_assoc}
use Rattle.std.specs.Option.{is_some}
use Rattle.std.proofs.lemmas.List.{append-nil}
use Rattle.std.specs.Prelude.{codes}
use Rattle.std.specs.Str.{bytes_eq}
use Rattle.letters_and_lassos.specs.declared.kinds.Kind.{Kind}
use Rattle.tlsf_tokens.specs.declared.symbol.Symbol.{Symbol}
use Rattle.tlsf_tokens.specs.declared.symbol.Symbol.TheVariants as symbol
use Rattle.tlsf_syntax.specs.Tree.{Named, Tree, Trees, Links, Ranges, Alternative, Body, Pattern, Member, Definition, Declaration, Field, Block, Part, Written}
use Rattle.tlsf_syntax.specs.Lexemes.{Lexeme, Is}
use Rattle.tlsf_syntax.specs.Symbols.{symbol_eq}
use Rattle.tlsf_syntax.specs.declared.level.Level.{Level}
use Rattle.tlsf_syntax.specs.Expressions.{operator_of, prefix_of, window_of, big_of, bound_of, Derives, of_number, of_true, of_false, of_name, of_call, of_index, of_size, of_paren, of_set, of_steps, of_tighter, of_chain, of_once, of_right, of_prefix, of_count, of_window, of_big, DerivesList, of_none, of_last, of_more, DerivesLinks, of_no_link, of_link, DerivesRanges, of_members, of_between, DerivesMoreRanges, of_no_range, of_range}
use Rattle.tlsf_syntax.specs.Texts.{IsKind, is_mealy, is_moore, IsStrict, DerivesSemantics, of_kind, of_kind_strict, of_strict_kind, DerivesNames, of_one_name, of_names, DerivesField, of_title, of_description, of_semantics, of_target, of_no_tags, of_tags, DerivesFields, of_no_field, of_field, bits_of, DerivesBits, of_bits, of_more_bits, DerivesPatterns, of_one_pattern, of_patterns, DerivesMembers, of_one_member, of_members as of_more_members, DerivesAlternative, of_guard, of_otherwise, DerivesAlternatives, of_one_alternative, of_alternatives, DerivesBody, of_plain, of_guarded, DerivesDefinition, of_constant, of_function, of_enumeration, of_ended_enumeration, DerivesDefinitions, of_no_definition, of_definition, DerivesParameters, of_no_parameter, of_parameter, DerivesBlocks, of_no_block, of_parameters, of_definitions, DerivesDeclarations, of_no_declaration, of_single, of_bus, of_typed, DerivesFormulas, of_no_formula, of_formula, DerivesParts, of_no_part, of_inputs, of_outputs, of_section, DerivesInfo, of_info, DerivesGlobal, of_no_global, of_global, DerivesMain, of_main, DerivesText, of_text, NoTextIsFinite}
use Rattle.tlsf_syntax.proofs.Symbols.{is_symbol}
use Rattle.tlsf_syntax.proofs.Starts.{not_symbol}

abbrev Other : Lexeme → Type 0
Other l = symbol_eq l.symbol symbol.Semantics ≡ false

-- none of these is the word SEMANTICS
abbrev Free : List Lexeme → Type 0
Free [] = Unit {0}
Free (l ∷ ls) = Other l × Free ls

both : (xs ys : List Lexeme) → Free xs → Free ys → Free (xs ++ ys)
both [] ys f g = g
both (x ∷ xs) ys f g = (f.0, both xs ys f.1 g)

other : (s : Symbol) (l : Lexeme) → Is s l → symbol_eq s symbol.Semantics ≡ false → Other l
other s l e f = ap (λ x. symbol_eq x symbol.Semantics) e ∙ f

one : (l : Lexeme) → Other l → Free (l ∷ [])
one l o = (o, tt)

-- a sign of some sort
sorted : {A : Type 0} (f : Symbol → Option A) (l : Lexeme) (a : A) → f l.symbol ≡ Some a → is_some (f symbol.Semantics) ≡ false → Other l
sorted f l a e n = not_symbol (λ s. is_some (f s)) l.symbol symbol.Semantics (ap is_some e) n

mutual
  derived : (n : Level) (ls : List Lexeme) (t : Tree) → Derives n ls t → Free ls
  derived n ls t (of_number l e) = one l (other symbol.Number l e refl)
  derived n ls t (of_true l e) = one l (other symbol.True l e refl)
  derived n ls t (of_false l e) = one l (other symbol.False l e refl)
  derived n ls t (of_name l e) = one l (other symbol.Ident l e refl)
  derived n ls t (of_call l before after ms first more e f d g) =
      (other symbol.Ident l e refl, (other symbol.OpenParen before f refl, both ms (after ∷ []) (list_free ms _ d) (one after (other symbol.CloseParen after g refl))))
  derived n ls t (of_index l before after ms u e f d g) =
      (other symbol.Ident l e refl, (other symbol.OpenBracket before f refl, both ms (after ∷ []) (derived _ ms u d) (one after (other symbol.CloseBracket after g refl))))
  derived n ls t (of_size l ms u e d) = (other symbol.SizeOf l e refl, derived _ ms u d)
  derived n ls t (of_paren before after ms u e d f) = (other symbol.OpenParen before e refl, both ms (after ∷ []) (derived _ ms u d) (one after (other symbol.CloseParen after f refl)))
  derived n ls t (of_set before after ms ts e d f) = (other symbol.OpenBrace before e refl, both ms (after ∷ []) (list_free ms ts d) (one after (other symbol.CloseBrace after f refl)))
  derived n ls t (of_steps before comma dots after ms ns os u v w e d f d2 g d3 h) = (
    other symbol.OpenBrace before e refl,
    both (ms ++ comma ∷ ns ++ dots ∷ os) (after ∷ [])
        (both (ms ++ comma ∷ ns) (dots ∷ os) (both ms (comma ∷ ns) (derived _ ms u d) (other symbol.Comma comma f refl, derived _ ns v d2)) (other symbol.Dots dots g refl, derived _ os w d3))
        (one after (other symbol.CloseBrace after h refl)),
  )
  derived n ls t (of_tighter k m ms u e d) = derived k ms u d
  derived n ls t (of_chain k m ms ns u v o more e j d links) = both ms ns (derived k ms u d) (links_free m ns _ links)
  derived n ls t (of_once k m l ms ns u v o e j d g d2) = both ms (l ∷ ns) (derived k ms u d) (sorted operator_of l (m, o) g refl, derived k ns v d2)
  derived n ls t (of_right k m l ms ns u v o e j d g d2) = both ms (l ∷ ns) (derived k ms u d) (sorted operator_of l (m, o) g refl, derived m ns v d2)
  derived n ls t (of_prefix l ms u o e d) = (sorted prefix_of l o e refl, derived _ ms u d)
  derived n ls t (of_count l before after ms ns u v e f d g d2) =
      (other symbol.Next l e refl, (other symbol.OpenBracket before f refl, both ms (after ∷ ns) (derived _ ms u d) (other symbol.CloseBracket after g refl, derived _ ns v d2)))
  derived n ls t (of_window l before colon after ms ns os u v w o e f d g d2 h d3) = (
    sorted window_of l o e refl,
    (
      other symbol.OpenBracket before f refl,
      both (ms ++ colon ∷ ns) (after ∷ os) (both ms (colon ∷ ns) (derived _ ms u d) (other symbol.Colon colon g refl, derived _ ns v d2))
          (other symbol.CloseBracket after h refl, derived _ os w d3),
    ),
  )
  derived n ls t (of_big l before after ms ns rs u o e f d g d2) =
      (sorted big_of l o e refl, (other symbol.OpenBracket before f refl, both ms (after ∷ ns) (ranges_free ms rs d) (other symbol.CloseBracket after g refl, derived _ ns u d2)))

  list_free : (ls : List Lexeme) (ts : Trees) → DerivesList ls ts → Free ls
  list_free ls ts of_none = tt
  list_free ls ts (of_last ms t d) = derived _ ms t d
  list_free ls ts (of_more comma ms ns t u more d e ds) = both ms (comma ∷ ns) (derived _ ms t d) (other symbol.Comma comma e refl, list_free ns _ ds)

  links_free : (m : Level) (ls : List Lexeme) (links : Links) → DerivesLinks m ls links → Free ls
  links_free m ls links (of_no_link k) = tt
  links_free m ls links (of_link n k l ms ns t o more e g d ds) = (sorted operator_of l (k, o) g refl, both ms ns (derived n ms t d) (links_free k ns more ds))

  ranges_free : (ls : List Lexeme) (rs : Ranges) → DerivesRanges ls rs → Free ls
  ranges_free ls rs (of_members l s ms ns t more e f d ds) = (other symbol.Ident l e refl, (other symbol.In s f refl, both ms ns (derived _ ms t d) (more_free ns more ds)))
  ranges_free ls rs (of_between low_sign l high_sign ms ns os t u low high more d e f g d2 ds) =
      both (ms ++ low_sign ∷ l ∷ high_sign ∷ ns) os
      (both ms (low_sign ∷ l ∷ high_sign ∷ ns) (derived _ ms t d) (sorted bound_of low_sign low e refl, (other symbol.Ident l f refl, (sorted bound_of high_sign high g refl, derived _ ns u d2)))) (more_free os more ds)

  more_free : (ls : List Lexeme) (rs : Ranges) → DerivesMoreRanges ls rs → Free ls
  more_free ls rs of_no_range = tt
  more_free ls rs (of_range comma ms more e d) = (other symbol.Comma comma e refl, ranges_free ms more d)

names_free : (ls : List Lexeme) (ws : List Named) → DerivesNames ls ws → Free ls
names_free ls ws (of_one_name l e) = one l (other symbol.Ident l e refl)
names_free ls ws (of_names l comma ms others e f d) = (other symbol.Ident l e refl, (other symbol.Comma comma f refl, names_free ms others d))

bits_free : (ls : List Lexeme) (bs : List (Option Bool)) → DerivesBits ls bs → Free ls
bits_free ls bs (of_bits l b e) = one l (not_symbol (λ s. is_some (bits_of s l.text)) l.symbol symbol.Semantics (ap is_some e) refl)
bits_free ls bs (of_more_bits l m ms b more e g d) = (not_symbol (λ s. is_some (bits_of s l.text)) l.symbol symbol.Semantics (ap is_some e) refl, bits_free (m ∷ ms) more d)

patterns_free : (ls : List Lexeme) (ps : List Pattern) → DerivesPatterns ls ps → Free ls
patterns_free ls ps (of_one_pattern ms b d) = bits_free ms b d
patterns_free ls ps (of_patterns comma ms ns b more d e ds) = both ms (comma ∷ ns) (bits_free ms b d) (other symbol.Comma comma e refl, patterns_free ns more ds)

members_free : (ls : List Lexeme) (ms : List Member) → DerivesMembers ls ms → Free ls
members_free ls xs (of_one_member l colon ms ps e f d) = (other symbol.Ident l e refl, (other symbol.Colon colon f refl, patterns_free ms ps d))
members_free ls xs (of_more_members l colon ms ns ps more e f d ds) = (other symbol.Ident l e refl, (other symbol.Colon colon f refl, both ms ns (patterns_free ms ps d) (members_free ns more ds)))

alternative_free : (ls : List Lexeme) (a : Alternative) → DerivesAlternative ls a → Free ls
alternative_free ls a (of_guard colon ms ns t u d e d2) = both ms (colon ∷ ns) (derived _ ms t d) (other symbol.Colon colon e refl, derived _ ns u d2)
alternative_free ls a (of_otherwise l colon ms u e f d) = (other symbol.Otherwise l e refl, (other symbol.Colon colon f refl, derived _ ms u d))

alternatives_free : (ls : List Lexeme) (xs : List Alternative) → DerivesAlternatives ls xs → Free ls
alternatives_free ls xs (of_one_alternative ms a d) = alternative_free ms a d
alternatives_free ls xs (of_alternatives ms ns a others d ds n) = both ms ns (alternative_free ms a d) (alternatives_free ns others ds)

body_free : (ls : List Lexeme) (b : Body) → DerivesBody ls b → Free ls
body_free ls b (of_plain ms t d) = derived _ ms t d
body_free ls b (of_guarded ms others d) = alternatives_free ms others d

definition_free : (ls : List Lexeme) (x : Definition) → DerivesDefinition ls x → Free ls
definition_free ls x (of_constant l s semicolon ms b e f d g) = (other symbol.Ident l e refl, (other symbol.Assign s f refl, both ms (semicolon ∷ []) (body_free ms b d) (one semicolon (other symbol.Semicolon semicolon g refl))))
definition_free ls x (of_function l before after s semicolon ns ms ws b e f d g h d2 i) = (
  other symbol.Ident l e refl,
  (
    other symbol.OpenParen before f refl,
    both (ns ++ after ∷ s ∷ ms) (semicolon ∷ []) (both ns (after ∷ s ∷ ms) (names_free ns ws d) (other symbol.CloseParen after g refl, (other symbol.Assign s h refl, body_free ms b d2)))
        (one semicolon (other symbol.Semicolon semicolon i refl)),
  ),
)
definition_free ls x (of_enumeration k l s ms xs e f g d) = (other symbol.Enum k e refl, (other symbol.Ident l f refl, (other symbol.Assign s g refl, members_free ms xs d)))
definition_free ls x (of_ended_enumeration k l s semicolon ms xs e f g d h) =
    (other symbol.Enum k e refl, (other symbol.Ident l f refl, (other symbol.Assign s g refl, both ms (semicolon ∷ []) (members_free ms xs d) (one semicolon (other symbol.Semicolon semicolon h refl)))))

definitions_free : (ls : List Lexeme) (xs : List Definition) → DerivesDefinitions ls xs → Free ls
definitions_free ls xs of_no_definition = tt
definitions_free ls xs (of_definition ms ns x more d ds) = both ms ns (definition_free ms x d) (definitions_free ns more ds)

parameters_free : (ls : List Lexeme) (xs : List Definition) → DerivesParameters ls xs → Free ls
parameters_free ls xs of_no_parameter = tt
parameters_free ls xs (of_parameter l s semicolon ms ns t more e f d g ds) =
    (other symbol.Ident l e refl, (other symbol.Assign s f refl, both ms (semicolon ∷ ns) (derived _ ms t d) (other symbol.Semicolon semicolon g refl, parameters_free ns more ds)))

blocks_free : (ls : List Lexeme) (xs : List Block) → DerivesBlocks ls xs → Free ls
blocks_free ls xs of_no_block = tt
blocks_free ls xs (of_parameters l before after ms ns ds more e f d g bs) =
    (other symbol.Parameters l e refl, (other symbol.OpenBrace before f refl, both ms (after ∷ ns) (parameters_free ms ds d) (other symbol.CloseBrace after g refl, blocks_free ns more bs)))
blocks_free ls xs (of_definitions l before after ms ns ds more e f d g bs) =
    (other symbol.Definitions l e refl, (other symbol.OpenBrace before f refl, both ms (after ∷ ns) (definitions_free ms ds d) (other symbol.CloseBrace after g refl, blocks_free ns more bs)))

declarations_free : (ls : List Lexeme) (xs : List Declaration) → DerivesDeclarations ls xs → Free ls
declarations_free ls xs of_no_declaration = tt
declarations_free ls xs (of_single l semicolon ms more e f ds) = (other symbol.Ident l e refl, (other symbol.Semicolon semicolon f refl, declarations_free ms more ds))
declarations_free ls xs (of_bus l before after semicolon ms ns t more e f d g h ds) =
    (other symbol.Ident l e refl, (other symbol.OpenBracket before f refl, both ms (after ∷ semicolon ∷ ns) (derived _ ms t d) (other symbol.CloseBracket after g refl, (other symbol.Semicolon semicolon h refl, declarations_free ns more ds))))
declarations_free ls xs (of_typed t l semicolon ms more e f g ds) = (other symbol.Ident t e refl, (other symbol.Ident l f refl, (other symbol.Semicolon semicolon g refl, declarations_free ms more ds)))

formulas_free : (ls : List Lexeme) (ts : List Tree) → DerivesFormulas ls ts → Free ls
formulas_free ls ts of_no_formula = tt
formulas_free ls ts (of_formula semicolon ms ns t more d e ds) = both ms (semicolon ∷ ns) (derived _ ms t d) (other symbol.Semicolon semicolon e refl, formulas_free ns more ds)

parts_free : (ls : List Lexeme) (xs : List Part) → DerivesParts ls xs → Free ls
parts_free ls xs of_no_part = tt
parts_free ls xs (of_inputs l before after ms ns ds more e f d g ps) =
    (other symbol.Inputs l e refl, (other symbol.OpenBrace before f refl, both ms (after ∷ ns) (declarations_free ms ds d) (other symbol.CloseBrace after g refl, parts_free ns more ps)))
parts_free ls xs (of_outputs l before after ms ns ds more e f d g ps) =
    (other symbol.Outputs l e refl, (other symbol.OpenBrace before f refl, both ms (after ∷ ns) (declarations_free ms ds d) (other symbol.CloseBrace after g refl, parts_free ns more ps)))
parts_free ls xs (of_section l before after s ms ns ts more e f d g ps) =
    (other (symbol.Section s) l e refl, (other symbol.OpenBrace before f refl, both ms (after ∷ ns) (formulas_free ms ts d) (other symbol.CloseBrace after g refl, parts_free ns more ps)))

global_free : (ls : List Lexeme) (bs : List Block) → DerivesGlobal ls bs → Free ls
global_free ls bs of_no_global = tt
global_free ls bs (of_global l before after ms xs e f d g) = (other symbol.Global l e refl, (other symbol.OpenBrace before f refl, both ms (after ∷ []) (blocks_free ms xs d) (one after (other symbol.CloseBrace after g refl))))

main_free : (ls : List Lexeme) (ps : List Part) → DerivesMain ls ps → Free ls
main_free ls ps (of_main l before after ms xs e f d g) = (other symbol.Main l e refl, (other symbol.OpenBrace before f refl, both ms (after ∷ []) (parts_free ms xs d) (one after (other symbol.CloseBrace after g refl))))

-- the words of a value

-- a word of a kind, or `Strict`
pub data IsValueWord (l : Lexeme) : Type 0 where
  kind_word : (k : Kind) → IsKind l k → IsValueWord l
  strict_word : IsStrict l → IsValueWord l

-- the words after SEMANTICS and its colon, wherever it stands, and after their comma
pub record HasValueWords (ls : List Lexeme) : Type 0 where
  pub first : (before after : List Lexeme) (s colon l : Lexeme) → ls ≡ before ++ s ∷ colon ∷ l ∷ after → Is symbol.Semantics s → IsValueWord l
  pub second : (before after : List Lexeme) (s colon word comma l : Lexeme) → ls ≡ before ++ s ∷ colon ∷ word ∷ comma ∷ l ∷ after → Is symbol.Semantics s → Is symbol.Comma comma → IsValueWord l

not_other : (l : Lexeme) → Other l → Is symbol.Semantics l → ⊥
not_other l o e = let yes : symbol_eq l.symbol symbol.Semantics ≡ true = is_symbol l.symbol symbol.Semantics e in cc

tails : {l m : Lexeme} {ls ms : List Lexeme} → l ∷ ls ≡ m ∷ ms → ls ≡ ms
tails e = cc

-- what is put before a list without the word SEMANTICS changes nothing
pushed : (l : Lexeme) (ls : List Lexeme) → Other l → HasValueWords ls → HasValueWords (l ∷ ls)
pushed l ls o h = record { first = first; second = second }
  where
    first : (before after : List Lexeme) (s colon x : Lexeme) → l ∷ ls ≡ before ++ s ∷ colon ∷ x ∷ after → Is symbol.Semantics s → IsValueWord x
    first [] after s colon x e i = let same : l ≡ s = cc in absurd (not_other l o (subst (λ y. Is symbol.Semantics y) (sym same) i))
    first (b ∷ before) after s colon x e i = h.first before after s colon x (tails e) i

    second : (before after : List Lexeme) (s colon word comma x : Lexeme) → l ∷ ls ≡ before ++ s ∷ colon ∷ word ∷ comma ∷ x ∷ after → Is symbol.Semantics s → Is symbol.Comma comma → IsValueWord x
    second [] after s colon word comma x e i j = let same : l ≡ s = cc in absurd (not_other l o (subst (λ y. Is symbol.Semantics y) (sym same) i))
    second (b ∷ before) after s colon word comma x e i j = h.second before after s colon word comma x (tails e) i j

not_empty : (before : List Lexeme) (s : Lexeme) (rest : List Lexeme) → [] ≡ before ++ s ∷ rest → ⊥
not_empty [] s rest e = absurd cc
not_empty (b ∷ before) s rest e = absurd cc

nothing_has : HasValueWords []
nothing_has = record {
  first = λ before after s colon x e i. absurd (not_empty before s (colon ∷ x ∷ after) e);
  second = λ before after s colon word comma x e i j. absurd (not_empty before s (colon ∷ word ∷ comma ∷ x ∷ after) e);
}

free_before : (xs ys : List Lexeme) → Free xs → HasValueWords ys → HasValueWords (xs ++ ys)
free_before [] ys f h = h
free_before (x ∷ xs) ys f h = pushed x (xs ++ ys) f.0 (free_before xs ys f.1 h)

free_has : (xs : List Lexeme) → Free xs → HasValueWords xs
free_has xs f = subst HasValueWords (append-nil xs) (free_before xs [] f nothing_has)

-- a field is never begun by a comma
abbrev NoComma : List Lexeme → Type 0
NoComma [] = Unit {0}
NoComma (l ∷ ls) = Is symbol.Comma l → ⊥

not_comma : (s : Symbol) (l : Lexeme) → Is s l → symbol_eq s symbol.Comma ≡ false → Is symbol.Comma l → ⊥
not_comma s l e f i = let yes : symbol_eq s symbol.Comma ≡ true = is_symbol s symbol.Comma (sym e ∙ i) in cc

-- fields before what goes on so
record Goes (ls : List Lexeme) : Type 0 where
  words : HasValueWords ls
  front : NoComma ls

-- the field SEMANTICS itself
value_words : (l colon : Lexeme) (q rest : List Lexeme) (k : Kind) (strict : Bool) → Is symbol.Colon colon → DerivesSemantics q k strict → Free q → Goes rest → HasValueWords (l ∷ colon ∷ q ++ rest)
value_words l colon q rest k strict f d free g = record { first = first; second = second }
  where
    behind : HasValueWords (colon ∷ q ++ rest)
    behind = pushed colon (q ++ rest) (other symbol.Colon colon f refl) (free_before q rest free g.words)

    head_word : (q : List Lexeme) (k : Kind) (strict : Bool) → DerivesSemantics q k strict → (x : Lexeme) (after : List Lexeme) → q ++ rest ≡ x ∷ after → IsValueWord x
    head_word q k strict (of_kind m j i) x after e = let same : m ≡ x = cc in subst IsValueWord same (kind_word j i)
    head_word q k strict (of_kind_strict m comma t j i c z) x after e = let same : m ≡ x = cc in subst IsValueWord same (kind_word j i)
    head_word q k strict (of_strict_kind t comma m j z c i) x after e = let same : t ≡ x = cc in subst IsValueWord same (strict_word z)

    first : (before after : List Lexeme) (s sign x : Lexeme) → l ∷ colon ∷ q ++ rest ≡ before ++ s ∷ sign ∷ x ∷ after → Is symbol.Semantics s → IsValueWord x
    first [] after s sign x e i = head_word q k strict d x after (tails (tails e))
    first (b ∷ before) after s sign x e i = behind.first before after s sign x (tails e) i

    no_comma_next : (rest : List Lexeme) → NoComma rest → (comma x : Lexeme) (after : List Lexeme) → rest ≡ comma ∷ x ∷ after → Is symbol.Comma comma → ⊥
    no_comma_next [] n comma x after e j = absurd cc
    no_comma_next (r ∷ rest) n comma x after e j = let same : r ≡ comma = cc in n (subst (λ y. Is symbol.Comma y) (sym same) j)

    third_word : (q : List Lexeme) (k : Kind) (strict : Bool) → DerivesSemantics q k strict → (word comma x : Lexeme) (after : List Lexeme) → q ++ rest ≡ word ∷ comma ∷ x ∷ after → Is symbol.Comma comma → IsValueWord x
    third_word q k strict (of_kind m j i) word comma x after e c = absurd (no_comma_next rest g.front comma x after (tails e) c)
    third_word q k strict (of_kind_strict m sign t j i c z) word comma x after e y = let same : t ≡ x = cc in subst IsValueWord same (strict_word z)
    third_word q k strict (of_strict_kind t sign m j z c i) word comma x after e y = let same : m ≡ x = cc in subst IsValueWord same (kind_word j i)

    second : (before after : List Lexeme) (s sign word comma x : Lexeme) → l ∷ colon ∷ q ++ rest ≡ before ++ s ∷ sign ∷ word ∷ comma ∷ x ∷ after → Is symbol.Semantics s → Is symbol.Comma comma → IsValueWord x
    second [] after s sign word comma x e i j = third_word q k strict d word comma x after (tails (tails e)) j
    second (b ∷ before) after s sign word comma x e i j = behind.second before after s sign word comma x (tails e) i j

kind_free : (l : Lexeme) (k : Kind) → IsKind l k → Other l
kind_free l k (is_mealy m e t) = other symbol.Ident m e refl
kind_free l k (is_moore m e t) = other symbol.Ident m e refl

semantics_free : (q : List Lexeme) (k : Kind) (strict : Bool) → DerivesSemantics q k strict → Free q
semantics_free q k strict (of_kind l j i) = one l (kind_free l j i)
semantics_free q k strict (of_kind_strict l comma s j i e z) = (kind_free l j i, (other symbol.Comma comma e refl, one s (other symbol.Ident s z.0 refl)))
semantics_free q k strict (of_strict_kind s comma l j z e i) = (other symbol.Ident s z.0 refl, (other symbol.Comma comma e refl, one l (kind_free l j i)))

field_goes : (ls rest : List Lexeme) (f : Field) → DerivesField ls f → Goes rest → Goes (ls ++ rest)
field_goes ls rest f (of_title l colon t e g h) r =
    record { words = free_before (l ∷ colon ∷ t ∷ []) rest (other symbol.Title l e refl, (other symbol.Colon colon g refl, one t (other symbol.Text t h refl))) r.words; front = not_comma symbol.Title l e refl }
field_goes ls rest f (of_description l colon t e g h) r =
    record { words = free_before (l ∷ colon ∷ t ∷ []) rest (other symbol.Description l e refl, (other symbol.Colon colon g refl, one t (other symbol.Text t h refl))) r.words; front = not_comma symbol.Description l e refl }
field_goes ls rest f (of_semantics l colon q k strict e g d) r = record { words = value_words l colon q rest k strict g d (semantics_free q k strict d) r; front = not_comma symbol.Semantics l e refl }
field_goes ls rest f (of_target l colon t k e g i) r =
    record { words = free_before (l ∷ colon ∷ t ∷ []) rest (other symbol.Target l e refl, (other symbol.Colon colon g refl, one t (kind_free t k i))) r.words; front = not_comma symbol.Target l e refl }
field_goes ls rest f (of_no_tags l colon e g) r = record { words = free_before (l ∷ colon ∷ []) rest (other symbol.Tags l e refl, one colon (other symbol.Colon colon g refl)) r.words; front = not_comma symbol.Tags l e refl }
field_goes ls rest f (of_tags l colon q ws e g d) r =
    record { words = free_before (l ∷ colon ∷ q) rest (other symbol.Tags l e refl, (other symbol.Colon colon g refl, names_free q ws d)) r.words; front = not_comma symbol.Tags l e refl }

fields_go : (ls rest : List Lexeme) (fs : List Field) → DerivesFields ls fs → Goes rest → Goes (ls ++ rest)
fields_go ls rest fs of_no_field r = r
fields_go ls rest fs (of_field ms ns f more d ds) r = subst Goes (sym (append_assoc ms ns rest)) (field_goes ms (ns ++ rest) f d (fields_go ns rest more ds r))

-- in a text the words of SEMANTICS are words of kinds and `Strict`
text_has : (ls : List Lexeme) (w : Written) → DerivesText ls w → HasValueWords ls
text_has ls w (of_text is gs ms v i g m) = subst HasValueWords (sym (append_assoc is gs ms)) (info is v.fields i)
  where
    rest : HasValueWords (gs ++ ms)
    rest = free_before gs ms (global_free gs v.blocks g) (free_has ms (main_free ms v.parts m))

    info : (is : List Lexeme) (fs : List Field) → DerivesInfo is fs → HasValueWords (is ++ (gs ++ ms))
    info is fs (of_info l before after q xs e f d h) =
        let r : Goes (after ∷ (gs ++ ms)) = record { words = pushed after (gs ++ ms) (other symbol.CloseBrace after h refl) rest; front = not_comma symbol.CloseBrace after h refl } in
        let all : Goes (q ++ after ∷ (gs ++ ms)) = fields_go q (after ∷ (gs ++ ms)) xs d r in
        pushed l (before ∷ ((q ++ after ∷ []) ++ (gs ++ ms))) (other symbol.Info l e refl)
        (pushed before ((q ++ after ∷ []) ++ (gs ++ ms)) (other symbol.OpenBrace before f refl) (subst HasValueWords (sym (append_assoc q (after ∷ []) (gs ++ ms))) all.words))

-- no such word is this text
not_finite : (l : Lexeme) → IsValueWord l → l.text ≡ codes "Finite" → ⊥
not_finite l (kind_word k (is_mealy m e t)) f = let no : false ≡ true = ap (λ x. bytes_eq x (codes "Finite")) (sym t ∙ f) in cc
not_finite l (kind_word k (is_moore m e t)) f = let no : false ≡ true = ap (λ x. bytes_eq x (codes "Finite")) (sym t ∙ f) in cc
not_finite l (strict_word z) f = let no : false ≡ true = ap (λ x. bytes_eq x (codes "Finite")) (sym z.1 ∙ f) in cc

pub never_finite : NoTextIsFinite
never_finite = record {
  first = λ ls w d before after s colon l e i t. let h : HasValueWords ls = text_has ls w d in not_finite l (h.first before after s colon l e i) t;
  second = λ ls w d before after s colon word comma l e i j t. let h : HasValueWords ls = text_has ls w d in not_finite l (h.second before after s colon word comma l e i j) t;
}
