-- Whole texts: what is derived is read.
use Rattle.std.proofs.Common.{◌≡◌, ◌≤◌, ◌+◌, ℕ, ◌==◌, Bool, true, false, ◌&&◌, cond, List, [], ◌∷◌, ◌++◌, Option, None, Some, refl, sym, ◌∙◌, ap, subst, arith, append_assoc}
use Rattle.std.specs.Prelude.{codes}
use Rattle.std.specs.Option.{is_some}
use Rattle.std.specs.Str.{bytes_eq}
use Rattle.std.proofs.lemmas.Bool.{eq-eqb}
use mathlib.Core.Bool.{and-false}
use Rattle.letters_and_lassos.specs.declared.kinds.Kind.{Kind}
use Rattle.tlsf_syntax.specs.declared.expr.Op.{Op}
use Rattle.tlsf_tokens.specs.declared.symbol.Symbol.{Symbol}
use Rattle.tlsf_tokens.specs.declared.symbol.Symbol.TheVariants as symbol
use Rattle.tlsf_syntax.specs.Tree.{Named, Tree, Alternative, Body, plain, guarded, Pattern, Member, Definition, parameter, function, enumeration, single, typed, Declaration, Field, semantics, Block, Part, Written}
use Rattle.tlsf_syntax.specs.Lexemes.{Lexeme, Is, word_of, span_of, end_from}
use Rattle.tlsf_syntax.specs.Symbols.{symbol_eq}
use Rattle.tlsf_syntax.specs.declared.level.Level.{Level}
use Rattle.tlsf_syntax.specs.declared.level.Level.TheVariants.{Releases}
use Rattle.tlsf_syntax.specs.Expressions.{operator_of, prefix_of, Derives}
use Rattle.tlsf_syntax.specs.Texts.{IsKind, is_mealy, is_moore, IsStrict, DerivesSemantics, of_kind, of_kind_strict, of_strict_kind, DerivesNames, of_one_name, of_names, DerivesField, of_title, of_description, of_semantics, of_target, of_no_tags, of_tags, DerivesFields, of_no_field, of_field, bits_of, DerivesBits, of_bits, of_more_bits, DerivesPatterns, of_one_pattern, of_patterns, DerivesMembers, of_one_member, of_members, DerivesAlternative, of_guard, of_otherwise, EndsWithName, BeginsWithParen, DerivesAlternatives, of_one_alternative, of_alternatives, DerivesBody, of_plain, of_guarded, DerivesDefinition, of_constant, of_function, of_enumeration, of_ended_enumeration, DerivesDefinitions, of_no_definition, of_definition, DerivesParameters, of_no_parameter, of_parameter, DerivesBlocks, of_no_block, of_parameters, of_definitions, DerivesDeclarations, of_no_declaration, of_single, of_bus, of_typed, DerivesFormulas, of_no_formula, of_formula, DerivesParts, of_no_part, of_inputs, of_outputs, of_section, DerivesInfo, of_info, DerivesGlobal, of_no_global, of_global, DerivesMain, of_main, DerivesText, of_text}
use Rattle.tlsf_syntax.specs.Reading.{taken, go_on, begins, if_next, at_level, begins_big, operator_here, from_to}
use Rattle.tlsf_syntax.specs.TextReading.{names_read, named_kind, kind_of, is_strict, semantics_read, is_field, field_by, fields_read, goes_on_value, value_read, pattern_read, patterns_read, begins_member, members_read, expression_read, guard_read, alternative_of, alternatives_read, body_read, function_read, definition_read, definitions_read, parameters_read, braced, blocks_read, declarations_read, formulas_read, parts_read, main_read, after_info, text_read}
use Rattle.tlsf_syntax.proofs.Symbols.{same_symbol}
use Rattle.tlsf_syntax.proofs.Starts.{Head, by_primary, by_prefix, by_big, head, begins_primary, begins_any, StartsWith, starts_any, not_symbol, unless, Follows, Ends, ends_of, ends_follow, ends-append}
use Rattle.tlsf_syntax.proofs.Reading.{Eventually, eventually, same_input, level_reads, test, StartsWith-append}

-- an expression before a sign that ends it
expression_before : (ls : List Lexeme) (t : Tree) (l : Lexeme) (rest : List Lexeme) → Derives Releases ls t → Ends l → Eventually (expression_read false) (ls ++ l ∷ rest) t (l ∷ rest)
expression_before ls t l rest d e = (level_reads Releases ls t d false (l ∷ rest) (ends_follow Releases ls l rest e))

-- names

names_are_read : (ls : List Lexeme) (ws : List Named) → DerivesNames ls ws → (x : Lexeme) (rest : List Lexeme) → symbol_eq x.symbol symbol.Comma ≡ false → Eventually names_read (ls ++ x ∷ rest) ws (x ∷ rest)
names_are_read ls ws (of_one_name l e) x rest h =
    eventually names_read (l ∷ x ∷ rest) (word_of l ∷ []) (x ∷ rest) 0 (λ depth low. rw (e, h) refl)
names_are_read ls ws (of_names l comma ms others e f d) x rest h =
    let a : Eventually names_read (ms ++ x ∷ rest) others (x ∷ rest) = names_are_read ms others d x rest h in
    eventually names_read (l ∷ comma ∷ (ms ++ x ∷ rest)) (word_of l ∷ others) (x ∷ rest) a.from (λ depth low.
    rw (e, f, a.reads depth low) refl)

-- fields

kind_is : (l : Lexeme) (k : Kind) → IsKind l k → kind_of l ≡ Some k
kind_is l k (is_mealy m e t) = ap (λ b. cond b (named_kind m.text) None) (test m.symbol symbol.Ident symbol.Ident e) ∙ ap named_kind t
kind_is l k (is_moore m e t) = ap (λ b. cond b (named_kind m.text) None) (test m.symbol symbol.Ident symbol.Ident e) ∙ ap named_kind t

kind_is_not_strict : (l : Lexeme) (k : Kind) → IsKind l k → is_strict l ≡ false
kind_is_not_strict l k (is_mealy m e t) = ap (λ x. symbol_eq m.symbol symbol.Ident && bytes_eq x (codes "Strict")) t ∙ and-false (symbol_eq m.symbol symbol.Ident)
kind_is_not_strict l k (is_moore m e t) = ap (λ x. symbol_eq m.symbol symbol.Ident && bytes_eq x (codes "Strict")) t ∙ and-false (symbol_eq m.symbol symbol.Ident)

strict_is : (l : Lexeme) → IsStrict l → is_strict l ≡ true
strict_is l s = ap (λ x. symbol_eq l.symbol symbol.Ident && bytes_eq x (codes "Strict")) s.1 ∙ ap (λ b. b && true) (test l.symbol symbol.Ident symbol.Ident s.0)

semantics_is_read : (ls : List Lexeme) (k : Kind) (strict : Bool) → DerivesSemantics ls k strict → (x : Lexeme) (rest : List Lexeme) → symbol_eq x.symbol symbol.Comma ≡ false
    → semantics_read (ls ++ x ∷ rest) ≡ taken (semantics k strict) (x ∷ rest)
semantics_is_read ls k strict (of_kind l m i) x rest h = rw (kind_is_not_strict l m i, kind_is l m i, h) refl
semantics_is_read ls k strict (of_kind_strict l comma s m i e j) x rest h = rw (kind_is_not_strict l m i, kind_is l m i, e, strict_is s j) refl
semantics_is_read ls k strict (of_strict_kind s comma l m j e i) x rest h = rw (strict_is s j, e, kind_is l m i) refl

-- a field, its word first
record FieldReads (ls : List Lexeme) (f : Field) (rest : List Lexeme) : Type 0 where
  word : Lexeme
  tail : List Lexeme
  is : ls ≡ word ∷ tail
  field : is_field word.symbol ≡ true
  from : ℕ
  reads : (depth : ℕ) → from ≤ depth → field_by depth word.symbol (tail ++ rest) ≡ taken f rest

begins_names : (ls : List Lexeme) (ws : List Named) (x : Lexeme) (rest : List Lexeme) → DerivesNames ls ws → begins symbol.Ident (ls ++ x ∷ rest) ≡ true
begins_names ls ws x rest (of_one_name l e) = test l.symbol symbol.Ident symbol.Ident e
begins_names ls ws x rest (of_names l comma ms others e f d) = test l.symbol symbol.Ident symbol.Ident e

read_field : (s : Symbol) (l : Lexeme) (tail : List Lexeme) (f : Field) (rest : List Lexeme) → Is s l → is_field s ≡ true → (from : ℕ) → ((depth : ℕ) → from ≤ depth → field_by depth s (tail ++ rest) ≡ taken f rest) → FieldReads (l ∷ tail) f rest
read_field s l tail f rest e i from h =
    record { word = l; tail = tail; is = refl; field = ap is_field e ∙ i; from = from; reads = λ depth low. ap (λ x. field_by depth x (tail ++ rest)) e ∙ h depth low }

field_is_read : (ls : List Lexeme) (f : Field) → DerivesField ls f → (x : Lexeme) (rest : List Lexeme) → symbol_eq x.symbol symbol.Comma ≡ false → symbol_eq x.symbol symbol.Ident ≡ false → FieldReads ls f (x ∷ rest)
field_is_read ls f (of_title l colon t e g h) x rest c i = read_field symbol.Title l (colon ∷ t ∷ []) f (x ∷ rest) e refl 0 (λ depth low. rw (g, h) refl)
field_is_read ls f (of_description l colon t e g h) x rest c i = read_field symbol.Description l (colon ∷ t ∷ []) f (x ∷ rest) e refl 0 (λ depth low. rw (g, h) refl)
field_is_read ls f (of_semantics l colon ms k strict e g d) x rest c i = read_field symbol.Semantics l (colon ∷ ms) f (x ∷ rest) e refl 0 (λ depth low. rw g (semantics_is_read ms k strict d x rest c))
field_is_read ls f (of_target l colon t k e g j) x rest c i = read_field symbol.Target l (colon ∷ t ∷ []) f (x ∷ rest) e refl 0 (λ depth low. rw (g, kind_is t k j) refl)
field_is_read ls f (of_no_tags l colon e g) x rest c i = read_field symbol.Tags l (colon ∷ []) f (x ∷ rest) e refl 0 (λ depth low. rw (g, i) refl)
field_is_read ls f (of_tags l colon ms ws e g d) x rest c i =
    let a : Eventually names_read (ms ++ x ∷ rest) ws (x ∷ rest) = names_are_read ms ws d x rest c in
    read_field symbol.Tags l (colon ∷ ms) f (x ∷ rest) e refl a.from (λ depth low. rw (g, begins_names ms ws x rest d, a.reads depth low) refl)

field_starts : (ls : List Lexeme) (f : Field) → DerivesField ls f → StartsWith is_field ls
field_starts ls f (of_title l colon t e g h) = ap is_field e
field_starts ls f (of_description l colon t e g h) = ap is_field e
field_starts ls f (of_semantics l colon ms k strict e g d) = ap is_field e
field_starts ls f (of_target l colon t k e g j) = ap is_field e
field_starts ls f (of_no_tags l colon e g) = ap is_field e
field_starts ls f (of_tags l colon ms ws e g d) = ap is_field e

-- what stands first after a part
record Front (p : Symbol → Bool) (input : List Lexeme) : Type 0 where
  first : Lexeme
  others : List Lexeme
  is : input ≡ first ∷ others
  passes : p first.symbol ≡ true

field_or_end : Symbol → Bool
field_or_end symbol.CloseBrace = true
field_or_end symbol.Title = true
field_or_end symbol.Description = true
field_or_end symbol.Semantics = true
field_or_end symbol.Target = true
field_or_end symbol.Tags = true
field_or_end _ = false

field_passes : (s : Symbol) → is_field s ≡ true → field_or_end s ≡ true
unfolding field_or_end
field_passes symbol.Title e = refl
field_passes symbol.Description e = refl
field_passes symbol.Semantics e = refl
field_passes symbol.Target e = refl
field_passes symbol.Tags e = refl
field_passes _ e = absurd cc

front_of : (p : Symbol → Bool) (ls rest : List Lexeme) → StartsWith p ls → Front p (ls ++ rest)
front_of p [] rest s = absurd s
front_of p (l ∷ ls) rest s = record { first = l; others = ls ++ rest; is = refl; passes = s }

fields_front : (ls : List Lexeme) (fs : List Field) → DerivesFields ls fs → (last : Lexeme) (rest : List Lexeme) → Is symbol.CloseBrace last → Front field_or_end (ls ++ last ∷ rest)
unfolding field_or_end
fields_front ls fs of_no_field last rest e = record { first = last; others = rest; is = refl; passes = ap field_or_end e }
fields_front ls fs (of_field ms ns f others d ds) last rest e =
    let a : Front is_field (ms ++ (ns ++ last ∷ rest)) = front_of is_field ms (ns ++ last ∷ rest) (field_starts ms f d) in
    record { first = a.first; others = a.others; is = append_assoc ms ns (last ∷ rest) ∙ a.is; passes = field_passes a.first.symbol a.passes }

fields_are_read : (ls : List Lexeme) (fs : List Field) → DerivesFields ls fs → (last : Lexeme) (rest : List Lexeme) → Is symbol.CloseBrace last → Eventually fields_read (ls ++ last ∷ rest) fs (last ∷ rest)
unfolding field_or_end
fields_are_read ls fs of_no_field last rest e =
    eventually fields_read (last ∷ rest) [] (last ∷ rest) 0 (λ depth low. rw e refl)
fields_are_read ls fs (of_field ms ns f others d ds) last rest e =
    let a : Front field_or_end (ns ++ last ∷ rest) = fields_front ns others ds last rest e in
    let b : FieldReads ms f (a.first ∷ a.others) =
    field_is_read ms f d a.first a.others (not_symbol field_or_end a.first.symbol symbol.Comma a.passes refl) (not_symbol field_or_end a.first.symbol symbol.Ident a.passes refl) in
    let c : Eventually fields_read (ns ++ last ∷ rest) others (last ∷ rest) = fields_are_read ns others ds last rest e in
    same_input fields_read (b.word ∷ (b.tail ++ (a.first ∷ a.others))) ((ms ++ ns) ++ last ∷ rest) (f ∷ others) (last ∷ rest)
    (append_assoc ms ns (last ∷ rest) ∙ ap (λ x. ms ++ x) a.is ∙ ap (λ x. x ++ a.first ∷ a.others) b.is)
    (eventually fields_read (b.word ∷ (b.tail ++ (a.first ∷ a.others))) (f ∷ others) (last ∷ rest) (b.from + c.from) (λ depth low.
    let x : field_by depth b.word.symbol (b.tail ++ (a.first ∷ a.others)) ≡ taken f (a.first ∷ a.others) = b.reads depth (omega arith) in
    let y : fields_read depth (a.first ∷ a.others) ≡ taken others (last ∷ rest) = ap (fields_read depth) (sym a.is) ∙ c.reads depth (omega arith) in
    rw (not_symbol is_field b.word.symbol symbol.CloseBrace b.field refl, x, y) refl))

-- values and members

no_value : (end : ℕ) (x : Lexeme) (rest : List Lexeme) → bits_of x.symbol x.text ≡ None → goes_on_value end (x ∷ rest) ≡ false
no_value end x rest e = ap (λ o. (end == x.start) && is_some o) e ∙ and-false (end == x.start)

value_first : (l : Lexeme) (ls : List Lexeme) (bs : List (Option Bool)) → DerivesBits (l ∷ ls) bs → is_some (bits_of l.symbol l.text) ≡ true
value_first l ls bs (of_bits m cs e) = ap is_some e
value_first l ls bs (of_more_bits m n ms cs more e adjacent d) = ap is_some e

value_is_read : (ls : List Lexeme) (bs : List (Option Bool)) → DerivesBits ls bs → (x : Lexeme) (rest : List Lexeme) → bits_of x.symbol x.text ≡ None
    → Eventually value_read (ls ++ x ∷ rest) (record { bits = bs; end = end_from 0 ls }) (x ∷ rest)
value_is_read ls bs (of_bits l cs e) x rest h =
    eventually value_read (l ∷ x ∷ rest) (record { bits = cs; end = l.end }) (x ∷ rest) 0 (λ depth low. rw (e, no_value l.end x rest h) refl)
value_is_read ls bs (of_more_bits l m ms cs more e adjacent d) x rest h =
    let a : Eventually value_read (m ∷ (ms ++ x ∷ rest)) (record { bits = more; end = end_from m.end ms }) (x ∷ rest) = value_is_read (m ∷ ms) more d x rest h in
    let goes : goes_on_value l.end (m ∷ (ms ++ x ∷ rest)) ≡ true =
    ap (λ b. b && is_some (bits_of m.symbol m.text)) (eq-eqb l.end m.start adjacent) ∙ value_first m ms more d in
    eventually value_read (l ∷ m ∷ (ms ++ x ∷ rest)) (record { bits = cs ++ more; end = end_from m.end ms }) (x ∷ rest) a.from (λ depth low.
    rw (e, goes, a.reads depth low) refl)

no_bits : (bs : List (Option Bool)) → DerivesBits [] bs → ⊥
no_bits bs d = elim d [ ]

pattern_is_read : (ls : List Lexeme) (bs : List (Option Bool)) → DerivesBits ls bs → (x : Lexeme) (rest : List Lexeme) → bits_of x.symbol x.text ≡ None
    → Eventually pattern_read (ls ++ x ∷ rest) (record { bits = bs; span = span_of ls }) (x ∷ rest)
pattern_is_read ls bs d x rest h = by ls d (value_is_read ls bs d x rest h)
  where
    by : (ls : List Lexeme) → DerivesBits ls bs → Eventually value_read (ls ++ x ∷ rest) (record { bits = bs; end = end_from 0 ls }) (x ∷ rest)
        → Eventually pattern_read (ls ++ x ∷ rest) (record { bits = bs; span = span_of ls }) (x ∷ rest)
    by [] d a = absurd (no_bits bs d)
    by (l ∷ ls) d a = record { from = a.from; reads = λ depth low. ap (λ y. go_on y (λ v after. taken (record { bits = v.bits; span = from_to l.start v.end }) after)) (a.reads depth low) }

patterns_are_read : (ls : List Lexeme) (ps : List Pattern) → DerivesPatterns ls ps → (x : Lexeme) (rest : List Lexeme) → bits_of x.symbol x.text ≡ None → symbol_eq x.symbol symbol.Comma ≡ false
    → Eventually patterns_read (ls ++ x ∷ rest) ps (x ∷ rest)
patterns_are_read ls ps (of_one_pattern ms bs d) x rest h c =
    let a : Eventually pattern_read (ms ++ x ∷ rest) (record { bits = bs; span = span_of ms }) (x ∷ rest) = pattern_is_read ms bs d x rest h in
    eventually patterns_read (ms ++ x ∷ rest) (record { bits = bs; span = span_of ms } ∷ []) (x ∷ rest) a.from (λ depth low. rw (a.reads depth low, c) refl)
patterns_are_read ls ps (of_patterns comma ms ns bs others d e ds) x rest h c =
    let a : Eventually pattern_read (ms ++ comma ∷ (ns ++ x ∷ rest)) (record { bits = bs; span = span_of ms }) (comma ∷ (ns ++ x ∷ rest)) =
    pattern_is_read ms bs d comma (ns ++ x ∷ rest) (ap (λ s. bits_of s comma.text) e) in
    let b : Eventually patterns_read (ns ++ x ∷ rest) others (x ∷ rest) = patterns_are_read ns others ds x rest h c in
    same_input patterns_read (ms ++ comma ∷ (ns ++ x ∷ rest)) ((ms ++ comma ∷ ns) ++ x ∷ rest) (record { bits = bs; span = span_of ms } ∷ others) (x ∷ rest) (append_assoc ms (comma ∷ ns) (x ∷ rest))
    (eventually patterns_read (ms ++ comma ∷ (ns ++ x ∷ rest)) (record { bits = bs; span = span_of ms } ∷ others) (x ∷ rest) (a.from + b.from) (λ depth low.
    rw (a.reads depth (omega arith), e, b.reads depth (omega arith)) refl))

-- what may stand after the members of an enumeration
record EndsMembers (x : Lexeme) (rest : List Lexeme) : Type 0 where
  value : bits_of x.symbol x.text ≡ None
  comma : symbol_eq x.symbol symbol.Comma ≡ false
  member : begins_member (x ∷ rest) ≡ false

-- the next member, its name first
record NextMember (input : List Lexeme) : Type 0 where
  word : Lexeme
  colon : Lexeme
  others : List Lexeme
  is : input ≡ word ∷ colon ∷ others
  name : Is symbol.Ident word
  sign : Is symbol.Colon colon

next_member : (ls : List Lexeme) (ms : List Member) → DerivesMembers ls ms → (x : Lexeme) (rest : List Lexeme) → NextMember (ls ++ x ∷ rest)
next_member ls ms (of_one_member l colon ns ps e f d) x rest = record { word = l; colon = colon; others = ns ++ x ∷ rest; is = refl; name = e; sign = f }
next_member ls ms (of_members l colon ns ks ps more e f d ds) x rest = record { word = l; colon = colon; others = (ns ++ ks) ++ x ∷ rest; is = refl; name = e; sign = f }

members_are_read : (ls : List Lexeme) (ms : List Member) → DerivesMembers ls ms → (x : Lexeme) (rest : List Lexeme) → EndsMembers x rest → Eventually members_read (ls ++ x ∷ rest) ms (x ∷ rest)
members_are_read ls ms (of_one_member l colon ns ps e f d) x rest h =
    let a : Eventually patterns_read (ns ++ x ∷ rest) ps (x ∷ rest) = patterns_are_read ns ps d x rest h.value h.comma in
    eventually members_read (l ∷ colon ∷ (ns ++ x ∷ rest)) (record { word = word_of l; values = ps } ∷ []) (x ∷ rest) a.from (λ depth low.
    rw (e, f, a.reads depth low, h.member) refl)
members_are_read ls ms (of_members l colon ns ks ps more e f d ds) x rest h =
    let n : NextMember (ks ++ x ∷ rest) = next_member ks more ds x rest in
    let a : Eventually patterns_read (ns ++ (n.word ∷ n.colon ∷ n.others)) ps (n.word ∷ n.colon ∷ n.others) =
    patterns_are_read ns ps d n.word (n.colon ∷ n.others) (ap (λ s. bits_of s n.word.text) n.name) (test n.word.symbol symbol.Ident symbol.Comma n.name) in
    let b : Eventually members_read (ks ++ x ∷ rest) more (x ∷ rest) = members_are_read ks more ds x rest h in
    same_input members_read (l ∷ colon ∷ (ns ++ (n.word ∷ n.colon ∷ n.others))) (l ∷ colon ∷ ((ns ++ ks) ++ x ∷ rest)) (record { word = word_of l; values = ps } ∷ more) (x ∷ rest)
    (ap (λ y. l ∷ colon ∷ y) (append_assoc ns ks (x ∷ rest) ∙ ap (λ y. ns ++ y) n.is))
    (eventually members_read (l ∷ colon ∷ (ns ++ (n.word ∷ n.colon ∷ n.others))) (record { word = word_of l; values = ps } ∷ more) (x ∷ rest) (a.from + b.from) (λ depth low.
    let y : members_read depth (n.word ∷ n.colon ∷ n.others) ≡ taken more (x ∷ rest) = ap (members_read depth) (sym n.is) ∙ b.reads depth (omega arith) in
    rw (e, f, a.reads depth (omega arith), n.name, n.sign, y) refl))

-- bodies

operator_none_prefix : (s : Symbol) (o : Op) → prefix_of s ≡ Some o → operator_of s ≡ None
operator_none_prefix symbol.Not o e = refl
operator_none_prefix symbol.Next o e = refl
operator_none_prefix symbol.Finally o e = refl
operator_none_prefix symbol.Globally o e = refl
operator_none_prefix _ o e = absurd cc

operator_none_primary : (s : Symbol) → begins_primary s ≡ true → operator_of s ≡ None
operator_none_primary symbol.Number e = refl
operator_none_primary symbol.True e = refl
operator_none_primary symbol.False e = refl
operator_none_primary symbol.Ident e = refl
operator_none_primary symbol.SizeOf e = refl
operator_none_primary symbol.OpenParen e = refl
operator_none_primary symbol.OpenBrace e = refl
operator_none_primary _ e = absurd cc

-- the first sign of an expression is no operator, or that of a big one
head_ends : (n : Level) (input : List Lexeme) → Head n input → (k : Level) → operator_here true k input ≡ None
head_ends n input (by_primary l ls e) k = unless (begins_big (l ∷ ls)) (at_level k (operator_of l.symbol)) (ap (at_level k) (operator_none_primary l.symbol e))
head_ends n input (by_prefix l ls o e low) k = unless (begins_big (l ∷ ls)) (at_level k (operator_of l.symbol)) (ap (at_level k) (operator_none_prefix l.symbol o e))
head_ends n input (by_big l before ls o e f low) k =
    ap (λ b. cond b None (at_level k (operator_of l.symbol))) (ap (λ x. is_some x && symbol_eq before.symbol symbol.OpenBracket) e ∙ test before.symbol symbol.OpenBracket symbol.OpenBracket f)

begins_of : (p : Symbol → Bool) (ls rest : List Lexeme) (s : Symbol) → StartsWith p ls → p s ≡ false → begins s (ls ++ rest) ≡ false
begins_of p [] rest s a b = absurd a
begins_of p (l ∷ ls) rest s a b = not_symbol p l.symbol s a b

begins_paren : (ls rest : List Lexeme) → StartsWith begins_any ls → (BeginsWithParen ls → ⊥) → begins symbol.OpenParen (ls ++ rest) ≡ false
begins_paren [] rest a h = absurd a
begins_paren (l ∷ ls) rest a h = by (symbol_eq l.symbol symbol.OpenParen) refl
  where
    by : (b : Bool) → symbol_eq l.symbol symbol.OpenParen ≡ b → b ≡ false
    by true e = absurd (h (same_symbol l.symbol symbol.OpenParen e))
    by false e = refl

-- a guard: `otherwise`, or an expression
data First : List Lexeme → Option Tree → List Lexeme → Type 0 where
  by_otherwise : (l : Lexeme) (rest : List Lexeme) → Is symbol.Otherwise l → First (l ∷ rest) None rest
  by_guard : (input : List Lexeme) (t : Tree) (rest : List Lexeme) → begins symbol.Otherwise input ≡ false → Eventually (expression_read false) input t rest → First input (Some t) rest

pub not_next : {X : Type 0} (s : Symbol) (ls : List Lexeme) (f : Lexeme → List Lexeme → X) (x : X) → begins s ls ≡ false → if_next s ls f x ≡ x
not_next s [] f x e = refl
not_next s (l ∷ ls) f x e = ap (λ b. cond b (f l ls) x) e

guard_is_read : (input : List Lexeme) (g : Option Tree) (rest : List Lexeme) → First input g rest → Eventually guard_read input g rest
guard_is_read input g rest (by_otherwise l more e) = record { from = 0; reads = λ depth low. rw e refl }
guard_is_read input g rest (by_guard ls t more e a) = record {
  from = a.from;
  reads = λ depth low. not_next symbol.Otherwise ls (λ _ after. taken None after) (go_on (expression_read false depth ls) (λ u after. taken (Some u) after)) e
      ∙ ap (λ y. go_on y (λ u after. taken (Some u) after)) (a.reads depth low);
}

-- alternatives: the first guard, and what stands from its colon on
record Alternatives (input : List Lexeme) (others : List Alternative) (rest : List Lexeme) : Type 0 where
  guard : Option Tree
  middle : List Lexeme
  colon : begins symbol.Colon middle ≡ true
  first : First input guard middle
  reads : Eventually (λ depth. alternatives_read depth guard) middle others rest

-- an alternative may be followed by this one
record MayFollow (input : List Lexeme) (ms : List Lexeme) : Type 0 where
  operators : (k : Level) → operator_here true k input ≡ None
  bracket : begins symbol.OpenBracket input ≡ false
  paren : (BeginsWithParen ms → ⊥) → begins symbol.OpenParen input ≡ false
  semicolon : begins symbol.Semicolon input ≡ false

alternative_follows : (ms : List Lexeme) (a : Alternative) → DerivesAlternative ms a → (rest : List Lexeme) → MayFollow (ms ++ rest) ms
alternative_follows ms a (of_guard colon gs vs t u d e d2) rest =
    let s : StartsWith begins_any (gs ++ colon ∷ vs) = StartsWith-append begins_any gs (colon ∷ vs) (starts_any Releases gs t d) in
    record {
      operators = head_ends Releases ((gs ++ colon ∷ vs) ++ rest) (subst (Head Releases) (sym (append_assoc gs (colon ∷ vs) rest)) (head Releases gs t d ((colon ∷ vs) ++ rest)));
      bracket = begins_of begins_any (gs ++ colon ∷ vs) rest symbol.OpenBracket s refl;
      paren = begins_paren (gs ++ colon ∷ vs) rest s;
      semicolon = begins_of begins_any (gs ++ colon ∷ vs) rest symbol.Semicolon s refl;
    }
alternative_follows ms a (of_otherwise l colon vs u e f d2) rest = record {
  operators = λ k. unless (begins_big (l ∷ colon ∷ (vs ++ rest))) (at_level k (operator_of l.symbol)) (ap (λ s. at_level k (operator_of s)) e);
  bracket = test l.symbol symbol.Otherwise symbol.OpenBracket e;
  paren = λ _. test l.symbol symbol.Otherwise symbol.OpenParen e;
  semicolon = test l.symbol symbol.Otherwise symbol.Semicolon e;
}

alternatives_follow : (ms : List Lexeme) (others : List Alternative) → DerivesAlternatives ms others → (rest : List Lexeme) → MayFollow (ms ++ rest) ms
alternatives_follow ms others (of_one_alternative ns a d) rest = alternative_follows ns a d rest
alternatives_follow ms others (of_alternatives ns ks a more d ds apart) rest =
    let f : MayFollow (ns ++ (ks ++ rest)) ns = alternative_follows ns a d (ks ++ rest) in
    let e : (ns ++ ks) ++ rest ≡ ns ++ (ks ++ rest) = append_assoc ns ks rest in
    record {
      operators = λ k. ap (operator_here true k) e ∙ f.operators k;
      bracket = ap (begins symbol.OpenBracket) e ∙ f.bracket;
      paren = λ h. ap (begins symbol.OpenParen) e ∙ f.paren (λ p. h (paren_of ns ks p));
      semicolon = ap (begins symbol.Semicolon) e ∙ f.semicolon;
    }
  where
    paren_of : (ns ks : List Lexeme) → BeginsWithParen ns → BeginsWithParen (ns ++ ks)
    paren_of [] ks p = absurd p
    paren_of (l ∷ ns) ks p = p

-- the value of the last alternative, and of one before others
last_value : (vs : List Lexeme) (u : Tree) → Derives Releases vs u → (g : Option Tree) (colon semicolon : Lexeme) (rest : List Lexeme) → Is symbol.Colon colon → Is symbol.Semicolon semicolon
    → Eventually (λ depth. alternatives_read depth g) (colon ∷ (vs ++ semicolon ∷ rest)) (alternative_of g u ∷ []) (semicolon ∷ rest)
last_value vs u d g colon semicolon rest e h =
    let n : Ends semicolon = ends_of symbol.Semicolon semicolon h refl refl refl in
    let f : Follows true Releases vs (semicolon ∷ rest) = record {
      operators = λ k low. unless (begins_big (semicolon ∷ rest)) (at_level k (operator_of semicolon.symbol)) (ap (at_level k) n.operator);
      bracket = n.bracket;
      call = λ _. n.paren;
    } in
    let a : Eventually (expression_read true) (vs ++ semicolon ∷ rest) u (semicolon ∷ rest) = level_reads Releases vs u d true (semicolon ∷ rest) f in
    eventually (λ depth. alternatives_read depth g) (colon ∷ (vs ++ semicolon ∷ rest)) (alternative_of g u ∷ []) (semicolon ∷ rest) a.from (λ depth low.
    rw (e, a.reads depth low, h) refl)

value_before : (vs : List Lexeme) (u : Tree) → Derives Releases vs u → (g : Option Tree) (colon : Lexeme) (input ms : List Lexeme) (others : List Alternative) (rest : List Lexeme) → Is symbol.Colon colon
    → (EndsWithName vs → BeginsWithParen ms → ⊥) → MayFollow input ms → Alternatives input others rest
    → Eventually (λ depth. alternatives_read depth g) (colon ∷ (vs ++ input)) (alternative_of g u ∷ others) rest
value_before vs u d g colon input ms others rest e apart f next =
    let a : Eventually (expression_read true) (vs ++ input) u input =
    (level_reads Releases vs u d true input (record { operators = λ k low. f.operators k; bracket = f.bracket; call = λ n. f.paren (apart n) })) in
    let b : Eventually guard_read input next.guard next.middle = guard_is_read input next.guard next.middle next.first in
    let c : Eventually (λ depth. alternatives_read depth next.guard) next.middle others rest = next.reads in
    eventually (λ depth. alternatives_read depth g) (colon ∷ (vs ++ input)) (alternative_of g u ∷ others) rest (a.from + b.from + c.from) (λ depth low.
    let x : expression_read true depth (vs ++ input) ≡ taken u input = a.reads depth (omega arith) in
    let y : guard_read depth input ≡ taken next.guard next.middle = b.reads depth (omega arith) in
    let z : alternatives_read depth next.guard next.middle ≡ taken others rest = c.reads depth (omega arith) in
    rw (e, x, f.semicolon, y, z) refl)

alternatives_are_read : (ls : List Lexeme) (others : List Alternative) → DerivesAlternatives ls others → (semicolon : Lexeme) (rest : List Lexeme) → Is symbol.Semicolon semicolon
    → Alternatives (ls ++ semicolon ∷ rest) others (semicolon ∷ rest)
alternatives_are_read ls others (of_one_alternative ms a (of_guard colon gs vs t u d e d2)) semicolon rest h = record {
  guard = Some t;
  middle = colon ∷ (vs ++ semicolon ∷ rest);
  colon = test colon.symbol symbol.Colon symbol.Colon e;
  first = subst (λ x. First x (Some t) (colon ∷ (vs ++ semicolon ∷ rest))) (sym (append_assoc gs (colon ∷ vs) (semicolon ∷ rest)))
      (by_guard (gs ++ colon ∷ (vs ++ semicolon ∷ rest)) t (colon ∷ (vs ++ semicolon ∷ rest)) (begins_of begins_any gs (colon ∷ (vs ++ semicolon ∷ rest)) symbol.Otherwise (starts_any Releases gs t d) refl)
      (expression_before gs t colon (vs ++ semicolon ∷ rest) d (ends_of symbol.Colon colon e refl refl refl)));
  reads = last_value vs u d2 (Some t) colon semicolon rest e h;
}
alternatives_are_read ls others (of_one_alternative ms a (of_otherwise l colon vs u o e d2)) semicolon rest h = record {
  guard = None;
  middle = colon ∷ (vs ++ semicolon ∷ rest);
  colon = test colon.symbol symbol.Colon symbol.Colon e;
  first = by_otherwise l (colon ∷ (vs ++ semicolon ∷ rest)) o;
  reads = last_value vs u d2 None colon semicolon rest e h;
}
alternatives_are_read ls others (of_alternatives ms ns a more (of_guard colon gs vs t u d e d2) ds apart) semicolon rest h =
    let next : Alternatives (ns ++ semicolon ∷ rest) more (semicolon ∷ rest) = alternatives_are_read ns more ds semicolon rest h in
    let f : MayFollow (ns ++ semicolon ∷ rest) ns = alternatives_follow ns more ds (semicolon ∷ rest) in
    record {
      guard = Some t;
      middle = colon ∷ (vs ++ (ns ++ semicolon ∷ rest));
      colon = test colon.symbol symbol.Colon symbol.Colon e;
      first = subst (λ x. First x (Some t) (colon ∷ (vs ++ (ns ++ semicolon ∷ rest))))
          (sym (append_assoc (gs ++ colon ∷ vs) ns (semicolon ∷ rest) ∙ append_assoc gs (colon ∷ vs) (ns ++ semicolon ∷ rest)))
          (by_guard (gs ++ colon ∷ (vs ++ (ns ++ semicolon ∷ rest))) t (colon ∷ (vs ++ (ns ++ semicolon ∷ rest)))
          (begins_of begins_any gs (colon ∷ (vs ++ (ns ++ semicolon ∷ rest))) symbol.Otherwise (starts_any Releases gs t d) refl)
          (expression_before gs t colon (vs ++ (ns ++ semicolon ∷ rest)) d (ends_of symbol.Colon colon e refl refl refl)));
      reads = value_before vs u d2 (Some t) colon (ns ++ semicolon ∷ rest) ns more (semicolon ∷ rest) e (λ n p. apart (ends-append gs (colon ∷ vs) (ends-append (colon ∷ []) vs n), p)) f next;
    }
alternatives_are_read ls others (of_alternatives ms ns a more (of_otherwise l colon vs u o e d2) ds apart) semicolon rest h =
    let next : Alternatives (ns ++ semicolon ∷ rest) more (semicolon ∷ rest) = alternatives_are_read ns more ds semicolon rest h in
    let f : MayFollow (ns ++ semicolon ∷ rest) ns = alternatives_follow ns more ds (semicolon ∷ rest) in
    record {
      guard = None;
      middle = colon ∷ (vs ++ (ns ++ semicolon ∷ rest));
      colon = test colon.symbol symbol.Colon symbol.Colon e;
      first = subst (λ x. First x None (colon ∷ (vs ++ (ns ++ semicolon ∷ rest)))) (ap (λ x. l ∷ colon ∷ x) (sym (append_assoc vs ns (semicolon ∷ rest)))) (by_otherwise l (colon ∷ (vs ++ (ns ++ semicolon ∷ rest))) o);
      reads = value_before vs u d2 None colon (ns ++ semicolon ∷ rest) ns more (semicolon ∷ rest) e (λ n p. apart (ends-append (l ∷ colon ∷ []) vs n, p)) f next;
    }

body_is_read : (ls : List Lexeme) (b : Body) → DerivesBody ls b → (semicolon : Lexeme) (rest : List Lexeme) → Is symbol.Semicolon semicolon → Eventually body_read (ls ++ semicolon ∷ rest) b (semicolon ∷ rest)
body_is_read ls b (of_plain ms t d) semicolon rest h =
    let a : Eventually (expression_read false) (ms ++ semicolon ∷ rest) t (semicolon ∷ rest) = expression_before ms t semicolon rest d (ends_of symbol.Semicolon semicolon h refl refl refl) in
    record {
      from = a.from;
      reads = λ depth low.
          let x : expression_read false depth (ms ++ semicolon ∷ rest) ≡ taken t (semicolon ∷ rest) = a.reads depth low in
          not_next symbol.Otherwise (ms ++ semicolon ∷ rest) (λ _ inner. go_on (alternatives_read depth None inner) (λ others after. taken (guarded others) after))
          (go_on (expression_read false depth (ms ++ semicolon ∷ rest)) (λ u after. cond (begins symbol.Colon after) (go_on (alternatives_read depth (Some u) after) (λ others last. taken (guarded others) last)) (taken (plain u) after)))
          (begins_of begins_any ms (semicolon ∷ rest) symbol.Otherwise (starts_any Releases ms t d) refl) ∙ (rw (x, h) refl);
    }
body_is_read ls b (of_guarded ms others d) semicolon rest h =
    let a : Alternatives (ms ++ semicolon ∷ rest) others (semicolon ∷ rest) = alternatives_are_read ms others d semicolon rest h in by_first (ms ++ semicolon ∷ rest) others (semicolon ∷ rest) a.guard a.middle a.first a.colon a.reads
  where
    by_first : (input : List Lexeme) (others : List Alternative) (rest : List Lexeme) (g : Option Tree) (middle : List Lexeme) → First input g middle → begins symbol.Colon middle ≡ true
        → Eventually (λ depth. alternatives_read depth g) middle others rest → Eventually body_read input (guarded others) rest
    by_first input others rest g middle (by_otherwise l more e) colon r = record { from = r.from; reads = λ depth low. rw (e, r.reads depth low) refl }
    by_first input others rest g middle (by_guard ls t more e a) colon r = record {
      from = a.from + r.from;
      reads = λ depth low.
          let x : expression_read false depth ls ≡ taken t more = a.reads depth (omega arith) in
          let y : alternatives_read depth (Some t) more ≡ taken others rest = r.reads depth (omega arith) in
          not_next symbol.Otherwise ls (λ _ inner. go_on (alternatives_read depth None inner) (λ others after. taken (guarded others) after))
          (go_on (expression_read false depth ls) (λ u after. cond (begins symbol.Colon after) (go_on (alternatives_read depth (Some u) after) (λ others last. taken (guarded others) last)) (taken (plain u) after)))
          e ∙ (rw (x, colon, y) refl);
    }

-- definitions

function_is_read : (w : Named) (arguments : List Named) (sign semicolon : Lexeme) (ls rest : List Lexeme) (b : Body) → Is symbol.Assign sign → DerivesBody ls b → Is symbol.Semicolon semicolon
    → Eventually (λ depth. function_read depth w arguments) (sign ∷ (ls ++ semicolon ∷ rest)) (function w arguments b) rest
function_is_read w arguments sign semicolon ls rest b e d h =
    let a : Eventually body_read (ls ++ semicolon ∷ rest) b (semicolon ∷ rest) = body_is_read ls b d semicolon rest h in record { from = a.from; reads = λ depth low. rw (e, a.reads depth low, h) refl }

-- what may stand after a definition
record EndsDefinition (x : Lexeme) (rest : List Lexeme) : Type 0 where
  members : EndsMembers x rest
  semicolon : symbol_eq x.symbol symbol.Semicolon ≡ false

definition_is_read : (ls : List Lexeme) (d : Definition) → DerivesDefinition ls d → (x : Lexeme) (rest : List Lexeme) → EndsDefinition x rest → Eventually definition_read (ls ++ x ∷ rest) d (x ∷ rest)
definition_is_read ls d (of_constant l sign semicolon ms b e f g h) x rest n =
    let a : Eventually (λ depth. function_read depth (word_of l) []) (sign ∷ (ms ++ semicolon ∷ (x ∷ rest))) (function (word_of l) [] b) (x ∷ rest) =
    function_is_read (word_of l) [] sign semicolon ms (x ∷ rest) b f g h in
    same_input definition_read (l ∷ sign ∷ (ms ++ semicolon ∷ (x ∷ rest))) (l ∷ sign ∷ ((ms ++ semicolon ∷ []) ++ x ∷ rest)) (function (word_of l) [] b) (x ∷ rest)
    (ap (λ y. l ∷ sign ∷ y) (append_assoc ms (semicolon ∷ []) (x ∷ rest)))
    (record { from = a.from; reads = λ depth low. rw (e, test sign.symbol symbol.Assign symbol.OpenParen f) (a.reads depth low) })
definition_is_read ls d (of_function l before after sign semicolon ns ms ws b e f g h i j k) x rest n =
    let a : Eventually names_read (ns ++ after ∷ (sign ∷ (ms ++ semicolon ∷ (x ∷ rest)))) ws (after ∷ (sign ∷ (ms ++ semicolon ∷ (x ∷ rest)))) =
    names_are_read ns ws g after (sign ∷ (ms ++ semicolon ∷ (x ∷ rest))) (test after.symbol symbol.CloseParen symbol.Comma h) in
    let c : Eventually (λ depth. function_read depth (word_of l) ws) (sign ∷ (ms ++ semicolon ∷ (x ∷ rest))) (function (word_of l) ws b) (x ∷ rest) =
    function_is_read (word_of l) ws sign semicolon ms (x ∷ rest) b i j k in
    same_input definition_read (l ∷ before ∷ (ns ++ after ∷ (sign ∷ (ms ++ semicolon ∷ (x ∷ rest))))) (l ∷ before ∷ (((ns ++ after ∷ sign ∷ ms) ++ semicolon ∷ []) ++ x ∷ rest)) (function (word_of l) ws b) (x ∷ rest)
    (ap (λ y. l ∷ before ∷ y) (append_assoc (ns ++ after ∷ sign ∷ ms) (semicolon ∷ []) (x ∷ rest) ∙ append_assoc ns (after ∷ sign ∷ ms) (semicolon ∷ (x ∷ rest))))
    (record { from = a.from + c.from; reads = λ depth low. rw (e, f, a.reads depth (omega arith), h) (c.reads depth (omega arith)) })
definition_is_read ls d (of_enumeration en l sign ms members_of e f g h) x rest n =
    let a : Eventually members_read (ms ++ x ∷ rest) members_of (x ∷ rest) = members_are_read ms members_of h x rest n.members in
    record { from = a.from; reads = λ depth low. rw (e, f, g, a.reads depth low, n.semicolon) refl }
definition_is_read ls d (of_ended_enumeration en l sign semicolon ms members_of e f g h i) x rest n =
    let a : Eventually members_read (ms ++ semicolon ∷ (x ∷ rest)) members_of (semicolon ∷ (x ∷ rest)) =
    members_are_read ms members_of h semicolon (x ∷ rest) (record {
      value = ap (λ s. bits_of s semicolon.text) i;
      comma = test semicolon.symbol symbol.Semicolon symbol.Comma i;
      member = ap (λ b. b && symbol_eq x.symbol symbol.Colon) (test semicolon.symbol symbol.Semicolon symbol.Ident i);
    }) in
    same_input definition_read (en ∷ l ∷ sign ∷ (ms ++ semicolon ∷ (x ∷ rest))) (en ∷ l ∷ sign ∷ ((ms ++ semicolon ∷ []) ++ x ∷ rest)) (enumeration (word_of l) members_of) (x ∷ rest)
    (ap (λ y. en ∷ l ∷ sign ∷ y) (append_assoc ms (semicolon ∷ []) (x ∷ rest)))
    (record { from = a.from; reads = λ depth low. rw (e, f, g, a.reads depth low, i) refl })

-- what stands first from a definition on, and that it is no member of an enumeration
record DefinitionFront (input : List Lexeme) : Type 0 where
  first : Lexeme
  others : List Lexeme
  is : input ≡ first ∷ others
  ends : EndsDefinition first others

definition_begins : (s : Symbol) (l n : Lexeme) (others : List Lexeme) → Is s l → ((text : List ℕ) → bits_of s text ≡ None) → symbol_eq s symbol.Comma ≡ false → symbol_eq s symbol.Semicolon ≡ false
    → (symbol_eq s symbol.Ident && symbol_eq n.symbol symbol.Colon) ≡ false → DefinitionFront (l ∷ n ∷ others)
definition_begins s l n others e b c d m = record {
  first = l;
  others = n ∷ others;
  is = refl;
  ends = record {
    members = record { value = ap (λ x. bits_of x l.text) e ∙ b l.text; comma = test l.symbol s symbol.Comma e ∙ c; member = ap (λ x. symbol_eq x symbol.Ident && symbol_eq n.symbol symbol.Colon) e ∙ m };
    semicolon = test l.symbol s symbol.Semicolon e ∙ d;
  };
}

definition_front : (ls : List Lexeme) (d : Definition) → DerivesDefinition ls d → (rest : List Lexeme) → DefinitionFront (ls ++ rest)
definition_front ls d (of_constant l sign semicolon ms b e f g h) rest = definition_begins symbol.Ident l sign _ e (λ _. refl) refl refl (test sign.symbol symbol.Assign symbol.Colon f)
definition_front ls d (of_function l before after sign semicolon ns ms ws b e f g h i j k) rest = definition_begins symbol.Ident l before _ e (λ _. refl) refl refl (test before.symbol symbol.OpenParen symbol.Colon f)
definition_front ls d (of_enumeration en l sign ms members_of e f g h) rest = definition_begins symbol.Enum en l _ e (λ _. refl) refl refl refl
definition_front ls d (of_ended_enumeration en l sign semicolon ms members_of e f g h i) rest = definition_begins symbol.Enum en l _ e (λ _. refl) refl refl refl

-- a closing brace ends a definition
brace_ends : (last : Lexeme) (rest : List Lexeme) → Is symbol.CloseBrace last → EndsDefinition last rest
brace_ends last rest e = record {
  members = record { value = ap (λ s. bits_of s last.text) e; comma = test last.symbol symbol.CloseBrace symbol.Comma e; member = by rest };
  semicolon = test last.symbol symbol.CloseBrace symbol.Semicolon e;
}
  where
    by : (rest : List Lexeme) → begins_member (last ∷ rest) ≡ false
    by [] = refl
    by (n ∷ rest) = ap (λ b. b && symbol_eq n.symbol symbol.Colon) (test last.symbol symbol.CloseBrace symbol.Ident e)

definitions_front : (ls : List Lexeme) (ds : List Definition) → DerivesDefinitions ls ds → (last : Lexeme) (rest : List Lexeme) → Is symbol.CloseBrace last → DefinitionFront (ls ++ last ∷ rest)
definitions_front ls ds of_no_definition last rest e = record { first = last; others = rest; is = refl; ends = brace_ends last rest e }
definitions_front ls ds (of_definition ms ns d more h hs) last rest e =
    let f : DefinitionFront (ms ++ (ns ++ last ∷ rest)) = definition_front ms d h (ns ++ last ∷ rest) in
    record { first = f.first; others = f.others; is = append_assoc ms ns (last ∷ rest) ∙ f.is; ends = f.ends }

no_brace : (ls : List Lexeme) (d : Definition) → DerivesDefinition ls d → (rest : List Lexeme) → begins symbol.CloseBrace (ls ++ rest) ≡ false
no_brace ls d (of_constant l sign semicolon ms b e f g h) rest = test l.symbol symbol.Ident symbol.CloseBrace e
no_brace ls d (of_function l before after sign semicolon ns ms ws b e f g h i j k) rest = test l.symbol symbol.Ident symbol.CloseBrace e
no_brace ls d (of_enumeration en l sign ms members_of e f g h) rest = test en.symbol symbol.Enum symbol.CloseBrace e
no_brace ls d (of_ended_enumeration en l sign semicolon ms members_of e f g h i) rest = test en.symbol symbol.Enum symbol.CloseBrace e

definitions_are_read : (ls : List Lexeme) (ds : List Definition) → DerivesDefinitions ls ds → (last : Lexeme) (rest : List Lexeme) → Is symbol.CloseBrace last → Eventually definitions_read (ls ++ last ∷ rest) ds (last ∷ rest)
definitions_are_read ls ds of_no_definition last rest e =
    eventually definitions_read (last ∷ rest) [] (last ∷ rest) 0 (λ depth low. rw e refl)
definitions_are_read ls ds (of_definition ms ns d more h hs) last rest e =
    let f : DefinitionFront (ns ++ last ∷ rest) = definitions_front ns more hs last rest e in
    let a : Eventually definition_read (ms ++ (f.first ∷ f.others)) d (f.first ∷ f.others) = definition_is_read ms d h f.first f.others f.ends in
    let b : Eventually definitions_read (ns ++ last ∷ rest) more (last ∷ rest) = definitions_are_read ns more hs last rest e in
    same_input definitions_read (ms ++ (f.first ∷ f.others)) ((ms ++ ns) ++ last ∷ rest) (d ∷ more) (last ∷ rest) (append_assoc ms ns (last ∷ rest) ∙ ap (λ x. ms ++ x) f.is)
    (eventually definitions_read (ms ++ (f.first ∷ f.others)) (d ∷ more) (last ∷ rest) (a.from + b.from) (λ depth low.
    rw (no_brace ms d h (f.first ∷ f.others), a.reads depth (omega arith), ap (definitions_read depth) (sym f.is) ∙ b.reads depth (omega arith)) refl))

parameters_are_read : (ls : List Lexeme) (ds : List Definition) → DerivesParameters ls ds → (last : Lexeme) (rest : List Lexeme) → Is symbol.CloseBrace last → Eventually parameters_read (ls ++ last ∷ rest) ds (last ∷ rest)
parameters_are_read ls ds of_no_parameter last rest e =
    eventually parameters_read (last ∷ rest) [] (last ∷ rest) 0 (λ depth low. rw e refl)
parameters_are_read ls ds (of_parameter l sign semicolon ms ns t more f g d h hs) last rest e =
    let a : Eventually (expression_read false) (ms ++ semicolon ∷ (ns ++ last ∷ rest)) t (semicolon ∷ (ns ++ last ∷ rest)) =
    expression_before ms t semicolon (ns ++ last ∷ rest) d (ends_of symbol.Semicolon semicolon h refl refl refl) in
    let b : Eventually parameters_read (ns ++ last ∷ rest) more (last ∷ rest) = parameters_are_read ns more hs last rest e in
    same_input parameters_read (l ∷ sign ∷ (ms ++ semicolon ∷ (ns ++ last ∷ rest))) (l ∷ sign ∷ ((ms ++ semicolon ∷ ns) ++ last ∷ rest)) (parameter (word_of l) t ∷ more) (last ∷ rest)
    (ap (λ x. l ∷ sign ∷ x) (append_assoc ms (semicolon ∷ ns) (last ∷ rest)))
    (eventually parameters_read (l ∷ sign ∷ (ms ++ semicolon ∷ (ns ++ last ∷ rest))) (parameter (word_of l) t ∷ more) (last ∷ rest) (a.from + b.from) (λ depth low.
    rw (f, g, a.reads depth (omega arith), h, b.reads depth (omega arith)) refl))

blocks_are_read : (ls : List Lexeme) (bs : List Block) → DerivesBlocks ls bs → (last : Lexeme) (rest : List Lexeme) → Is symbol.CloseBrace last → Eventually blocks_read (ls ++ last ∷ rest) bs (last ∷ rest)
blocks_are_read ls bs of_no_block last rest e =
    eventually blocks_read (last ∷ rest) [] (last ∷ rest) 0 (λ depth low. rw e refl)
blocks_are_read ls bs (of_parameters l before after ms ns ds more f g d h hs) last rest e =
    let a : Eventually parameters_read (ms ++ after ∷ (ns ++ last ∷ rest)) ds (after ∷ (ns ++ last ∷ rest)) = parameters_are_read ms ds d after (ns ++ last ∷ rest) h in
    let b : Eventually blocks_read (ns ++ last ∷ rest) more (last ∷ rest) = blocks_are_read ns more hs last rest e in
    same_input blocks_read _ _ _ _ (ap (λ x. l ∷ before ∷ x) (append_assoc ms (after ∷ ns) (last ∷ rest)))
    (eventually blocks_read _ _ _ (a.from + b.from) (λ depth low. rw (f, g, a.reads depth (omega arith), h, b.reads depth (omega arith)) refl))
blocks_are_read ls bs (of_definitions l before after ms ns ds more f g d h hs) last rest e =
    let a : Eventually definitions_read (ms ++ after ∷ (ns ++ last ∷ rest)) ds (after ∷ (ns ++ last ∷ rest)) = definitions_are_read ms ds d after (ns ++ last ∷ rest) h in
    let b : Eventually blocks_read (ns ++ last ∷ rest) more (last ∷ rest) = blocks_are_read ns more hs last rest e in
    same_input blocks_read _ _ _ _ (ap (λ x. l ∷ before ∷ x) (append_assoc ms (after ∷ ns) (last ∷ rest)))
    (eventually blocks_read _ _ _ (a.from + b.from) (λ depth low. rw (f, g, a.reads depth (omega arith), h, b.reads depth (omega arith)) refl))

-- MAIN

declarations_are_read : (ls : List Lexeme) (ds : List Declaration) → DerivesDeclarations ls ds → (last : Lexeme) (rest : List Lexeme) → Is symbol.CloseBrace last → Eventually declarations_read (ls ++ last ∷ rest) ds (last ∷ rest)
declarations_are_read ls ds of_no_declaration last rest e =
    eventually declarations_read (last ∷ rest) [] (last ∷ rest) 0 (λ depth low. rw e refl)
declarations_are_read ls ds (of_single l semicolon ns more f g hs) last rest e =
    let b : Eventually declarations_read (ns ++ last ∷ rest) more (last ∷ rest) = declarations_are_read ns more hs last rest e in
    eventually declarations_read (l ∷ semicolon ∷ (ns ++ last ∷ rest)) (record { word = word_of l; shape = single } ∷ more) (last ∷ rest) b.from (λ depth low.
    rw (f, g, b.reads depth low) refl)
declarations_are_read ls ds (of_bus l before after semicolon ms ns t more f g d h i hs) last rest e =
    let a : Eventually (expression_read false) (ms ++ after ∷ (semicolon ∷ (ns ++ last ∷ rest))) t (after ∷ (semicolon ∷ (ns ++ last ∷ rest))) =
    expression_before ms t after (semicolon ∷ (ns ++ last ∷ rest)) d (ends_of symbol.CloseBracket after h refl refl refl) in
    let b : Eventually declarations_read (ns ++ last ∷ rest) more (last ∷ rest) = declarations_are_read ns more hs last rest e in
    same_input declarations_read _ _ _ _ (ap (λ x. l ∷ before ∷ x) (append_assoc ms (after ∷ semicolon ∷ ns) (last ∷ rest)))
    (eventually declarations_read _ _ _ (a.from + b.from) (λ depth low. rw (f, g, a.reads depth (omega arith), h, i, b.reads depth (omega arith)) refl))
declarations_are_read ls ds (of_typed t l semicolon ns more f g h hs) last rest e =
    let b : Eventually declarations_read (ns ++ last ∷ rest) more (last ∷ rest) = declarations_are_read ns more hs last rest e in
    eventually declarations_read (t ∷ l ∷ semicolon ∷ (ns ++ last ∷ rest)) (record { word = word_of l; shape = typed (word_of t) } ∷ more) (last ∷ rest) b.from (λ depth low.
    rw (f, g, h, b.reads depth low) refl)

formulas_are_read : (ls : List Lexeme) (ts : List Tree) → DerivesFormulas ls ts → (last : Lexeme) (rest : List Lexeme) → Is symbol.CloseBrace last → Eventually formulas_read (ls ++ last ∷ rest) ts (last ∷ rest)
formulas_are_read ls ts of_no_formula last rest e =
    eventually formulas_read (last ∷ rest) [] (last ∷ rest) 0 (λ depth low. rw e refl)
formulas_are_read ls ts (of_formula semicolon ms ns t more d h hs) last rest e =
    let a : Eventually (expression_read false) (ms ++ semicolon ∷ (ns ++ last ∷ rest)) t (semicolon ∷ (ns ++ last ∷ rest)) =
    expression_before ms t semicolon (ns ++ last ∷ rest) d (ends_of symbol.Semicolon semicolon h refl refl refl) in
    let b : Eventually formulas_read (ns ++ last ∷ rest) more (last ∷ rest) = formulas_are_read ns more hs last rest e in
    same_input formulas_read (ms ++ semicolon ∷ (ns ++ last ∷ rest)) ((ms ++ semicolon ∷ ns) ++ last ∷ rest) (t ∷ more) (last ∷ rest) (append_assoc ms (semicolon ∷ ns) (last ∷ rest))
    (eventually formulas_read (ms ++ semicolon ∷ (ns ++ last ∷ rest)) (t ∷ more) (last ∷ rest) (a.from + b.from) (λ depth low.
    rw (begins_of begins_any ms (semicolon ∷ (ns ++ last ∷ rest)) symbol.CloseBrace (starts_any Releases ms t d) refl, a.reads depth (omega arith), h, b.reads depth (omega arith)) refl))

parts_are_read : (ls : List Lexeme) (ps : List Part) → DerivesParts ls ps → (last : Lexeme) (rest : List Lexeme) → Is symbol.CloseBrace last → Eventually parts_read (ls ++ last ∷ rest) ps (last ∷ rest)
parts_are_read ls ps of_no_part last rest e =
    eventually parts_read (last ∷ rest) [] (last ∷ rest) 0 (λ depth low. rw e refl)
parts_are_read ls ps (of_inputs l before after ms ns ds more f g d h hs) last rest e =
    let a : Eventually declarations_read (ms ++ after ∷ (ns ++ last ∷ rest)) ds (after ∷ (ns ++ last ∷ rest)) = declarations_are_read ms ds d after (ns ++ last ∷ rest) h in
    let b : Eventually parts_read (ns ++ last ∷ rest) more (last ∷ rest) = parts_are_read ns more hs last rest e in
    same_input parts_read _ _ _ _ (ap (λ x. l ∷ before ∷ x) (append_assoc ms (after ∷ ns) (last ∷ rest)))
    (eventually parts_read _ _ _ (a.from + b.from) (λ depth low. rw (f, g, a.reads depth (omega arith), h, b.reads depth (omega arith)) refl))
parts_are_read ls ps (of_outputs l before after ms ns ds more f g d h hs) last rest e =
    let a : Eventually declarations_read (ms ++ after ∷ (ns ++ last ∷ rest)) ds (after ∷ (ns ++ last ∷ rest)) = declarations_are_read ms ds d after (ns ++ last ∷ rest) h in
    let b : Eventually parts_read (ns ++ last ∷ rest) more (last ∷ rest) = parts_are_read ns more hs last rest e in
    same_input parts_read _ _ _ _ (ap (λ x. l ∷ before ∷ x) (append_assoc ms (after ∷ ns) (last ∷ rest)))
    (eventually parts_read _ _ _ (a.from + b.from) (λ depth low. rw (f, g, a.reads depth (omega arith), h, b.reads depth (omega arith)) refl))
parts_are_read ls ps (of_section l before after s ms ns ts more f g d h hs) last rest e =
    let a : Eventually formulas_read (ms ++ after ∷ (ns ++ last ∷ rest)) ts (after ∷ (ns ++ last ∷ rest)) = formulas_are_read ms ts d after (ns ++ last ∷ rest) h in
    let b : Eventually parts_read (ns ++ last ∷ rest) more (last ∷ rest) = parts_are_read ns more hs last rest e in
    same_input parts_read _ _ _ _ (ap (λ x. l ∷ before ∷ x) (append_assoc ms (after ∷ ns) (last ∷ rest)))
    (eventually parts_read _ _ _ (a.from + b.from) (λ depth low. rw (f, g, a.reads depth (omega arith), h, b.reads depth (omega arith)) refl))

-- texts

main_is_read : (fs : List Field) (bs : List Block) (ms : List Lexeme) (ps : List Part) → DerivesMain ms ps → Eventually (λ depth. main_read depth fs bs) ms (record { fields = fs; blocks = bs; parts = ps }) []
main_is_read fs bs ms ps (of_main l before after qs rs e f d h) =
    let a : Eventually parts_read (qs ++ after ∷ []) rs (after ∷ []) = parts_are_read qs rs d after [] h in record { from = a.from; reads = λ depth low. rw (e, f, a.reads depth low, h) refl }

main_is_no_global : (ms : List Lexeme) (ps : List Part) → DerivesMain ms ps → begins symbol.Global ms ≡ false
main_is_no_global ms ps (of_main l before after qs rs e f d h) = test l.symbol symbol.Main symbol.Global e

rest_is_read : (fs : List Field) (gs ms : List Lexeme) (bs : List Block) (ps : List Part) → DerivesGlobal gs bs → DerivesMain ms ps
    → Eventually (λ depth. after_info depth fs) (gs ++ ms) (record { fields = fs; blocks = bs; parts = ps }) []
rest_is_read fs gs ms bs ps of_no_global m =
    let a : Eventually (λ depth. main_read depth fs []) ms (record { fields = fs; blocks = []; parts = ps }) [] = main_is_read fs [] ms ps m in
    record {
      from = a.from;
      reads = λ depth low.
          not_next symbol.Global ms (λ _ inner. braced (blocks_read depth) inner (λ bs main_at. main_read depth fs bs main_at)) (main_read depth fs [] ms) (main_is_no_global ms ps m) ∙ a.reads depth low;
    }
rest_is_read fs gs ms bs ps (of_global l before after ls cs e f d h) m =
    let a : Eventually blocks_read (ls ++ after ∷ ms) cs (after ∷ ms) = blocks_are_read ls cs d after ms h in
    let b : Eventually (λ depth. main_read depth fs cs) ms (record { fields = fs; blocks = cs; parts = ps }) [] = main_is_read fs cs ms ps m in
    same_input (λ depth. after_info depth fs) (l ∷ before ∷ (ls ++ after ∷ ms)) (l ∷ before ∷ ((ls ++ after ∷ []) ++ ms)) (record { fields = fs; blocks = cs; parts = ps }) []
    (ap (λ x. l ∷ before ∷ x) (append_assoc ls (after ∷ []) ms))
    (record { from = a.from + b.from; reads = λ depth low. rw (e, f, a.reads depth (omega arith), h) (b.reads depth (omega arith)) })

info_is_read : (is gs ms : List Lexeme) (fs : List Field) (bs : List Block) (ps : List Part) → DerivesInfo is fs → DerivesGlobal gs bs → DerivesMain ms ps
    → Eventually text_read ((is ++ gs) ++ ms) (record { fields = fs; blocks = bs; parts = ps }) []
info_is_read is gs ms fs bs ps (of_info l before after ls ks e f d h) g m =
    let a : Eventually fields_read (ls ++ after ∷ (gs ++ ms)) ks (after ∷ (gs ++ ms)) = fields_are_read ls ks d after (gs ++ ms) h in
    let b : Eventually (λ depth. after_info depth ks) (gs ++ ms) (record { fields = ks; blocks = bs; parts = ps }) [] = rest_is_read ks gs ms bs ps g m in
    same_input text_read (l ∷ before ∷ (ls ++ after ∷ (gs ++ ms))) (l ∷ before ∷ (((ls ++ after ∷ []) ++ gs) ++ ms)) (record { fields = ks; blocks = bs; parts = ps }) []
    (ap (λ x. l ∷ before ∷ x) (append_assoc (ls ++ after ∷ []) gs ms ∙ append_assoc ls (after ∷ []) (gs ++ ms)))
    (record { from = a.from + b.from; reads = λ depth low. rw (e, f, a.reads depth (omega arith), h) (b.reads depth (omega arith)) })

pub text_is_read : (ls : List Lexeme) (w : Written) → DerivesText ls w → Eventually text_read ls w []
text_is_read ls w (of_text is gs ms v i g m) = info_is_read is gs ms v.fields v.blocks v.parts i g m

pub one_text : (ls : List Lexeme) (w v : Written) → DerivesText ls w → DerivesText ls v → w ≡ v
one_text ls w v d e =
    let a : Eventually text_read ls w [] = text_is_read ls w d in
    let b : Eventually text_read ls v [] = text_is_read ls v e in
    let e : taken w [] ≡ taken v [] = sym (a.reads (a.from + b.from) (omega arith)) ∙ b.reads (a.from + b.from) (omega arith) in cc
