-- Whole texts: what is read is derived, and what stands before a refused lexeme begins a text.
use Rattle.std.proofs.Common.{◌≡◌, ℕ, zero, suc, ◌==◌, Bool, true, false, ◌&&◌, cond, List, [], ◌∷◌, ◌++◌, length, Option, None, Some, refl, sym, ◌∙◌, ap, subst, append_assoc}
use Rattle.std.specs.Prelude.{codes}
use Rattle.std.specs.Option.{is_some}
use Rattle.std.specs.Str.{bytes_eq}
use Rattle.std.proofs.lemmas.Bool.{eqb-true}
use Rattle.std.proofs.lemmas.Slice.Eq.{bytes_eq-Decides}
use Rattle.letters_and_lassos.specs.declared.kinds.Kind.{Kind}
use Rattle.letters_and_lassos.specs.declared.kinds.Kind.TheVariants.{Mealy, Moore}
use Rattle.tlsf_tokens.specs.declared.symbol.Symbol.{Symbol}
use Rattle.tlsf_tokens.specs.declared.symbol.Symbol.TheVariants as symbol
use Rattle.tlsf_syntax.specs.Tree.{Named, Tree, Alternative, Body, plain, guarded, Pattern, Member, Definition, parameter, function, enumeration, single, bus, typed, Declaration, Field, title, description, semantics, target, tags, Block, parameters, definitions, Part, inputs, outputs, section, Written}
use Rattle.tlsf_syntax.specs.Lexemes.{Lexeme, Is, word_of, span_of, end_from}
use Rattle.tlsf_syntax.specs.Symbols.{symbol_eq}
use Rattle.tlsf_syntax.specs.declared.level.Level.TheVariants.{Releases}
use Rattle.tlsf_syntax.specs.Expressions.{Derives}
use Rattle.tlsf_syntax.specs.Texts.{unquoted, IsKind, is_mealy, is_moore, IsStrict, DerivesSemantics, of_kind, of_kind_strict, of_strict_kind, DerivesNames, of_one_name, of_names, DerivesField, of_title, of_description, of_semantics, of_target, of_no_tags, of_tags, DerivesFields, of_no_field, of_field, bits_of, DerivesBits, of_bits, of_more_bits, DerivesPatterns, of_one_pattern, of_patterns, DerivesMembers, of_one_member, of_members, DerivesAlternative, of_guard, of_otherwise, EndsWithName, BeginsWithParen, DerivesAlternatives, of_one_alternative, of_alternatives, DerivesBody, of_plain, of_guarded, DerivesDefinition, of_constant, of_function, of_enumeration, of_ended_enumeration, DerivesDefinitions, of_no_definition, of_definition, DerivesParameters, of_no_parameter, of_parameter, DerivesBlocks, of_no_block, of_parameters, of_definitions, DerivesDeclarations, of_no_declaration, of_single, of_bus, of_typed, DerivesFormulas, of_no_formula, of_formula, DerivesParts, of_no_part, of_inputs, of_outputs, of_section, DerivesInfo, of_info, DerivesGlobal, of_no_global, of_global, DerivesMain, of_main, DerivesText, of_text}
use Rattle.tlsf_syntax.specs.Reading.{Answer, taken, refused, lost, go_on, begins, expect, if_next, from_to, readers}
use Rattle.tlsf_syntax.specs.TextReading.{names_read, kind_of, is_strict, kinded, expect_strict, expect_kind, semantics_read, target_read, tags_read, field_by, fields_read, Value, goes_on_value, value_read, valued, pattern_read, patterns_read, begins_member, members_read, expression_read, guard_read, alternative_of, alternatives_read, body_read, function_read, definition_read, definitions_read, parameters_read, braced, blocks_read, declaration_read, declarations_read, formulas_read, part_by, parts_read, main_read, after_info, text_read}
use Rattle.tlsf_syntax.proofs.Symbols.{same_symbol, is_symbol}
use Rattle.tlsf_syntax.proofs.Sound.{Answers, answers_taken, answers_refused, answers_lost, Right, readers_right, joined_front, after_sign}
use Rattle.tlsf_syntax.proofs.Starts.{starts_any}
use Rattle.tlsf_syntax.proofs.Completes.{Completes, completes, Opens, full, cut, opens_here, lift, sign, ex, example}

-- what was taken stands in front of what is left and is derived; what stands before a refused lexeme goes on to something derived
pub data Reads {A : Type 0} (D : List Lexeme → A → Type 0) (input : List Lexeme) : Answer A → Type 0 where
  reads_taken : (a : A) (rest front : List Lexeme) → input ≡ front ++ rest → D front a → Reads D input (taken a rest)
  reads_refused : (k : ℕ) → Opens D input k → Reads D input (refused k)
  reads_lost : Reads D input lost

-- a part, and what comes after it
reads_part : {A B : Type 0} (D : List Lexeme → B → Type 0) (P : List Lexeme → A → Type 0) (input p ls : List Lexeme) (x : Answer A) (k : A → List Lexeme → Answer B) → input ≡ p ++ ls → Reads P ls x
    → ((q : List Lexeme) (a : A) → P q a → Completes D (p ++ q)) → ((a : A) (rest q : List Lexeme) → P q a → ls ≡ q ++ rest → input ≡ (p ++ q) ++ rest → Reads D input (k a rest)) → Reads D input (go_on x k)
reads_part D P input p ls x k e (reads_taken a rest q is d) f g = g a rest q d is (joined_front input p ls q rest e is)
reads_part D P input p ls x k e (reads_refused j o) f g = reads_refused j (lift D P input p ls j e f o)
reads_part D P input p ls x k e reads_lost f g = reads_lost

-- a part after a sign
reads_after : {A B : Type 0} (D : List Lexeme → B → Type 0) (P : List Lexeme → A → Type 0) (input p rest : List Lexeme) (s : Lexeme) (inner : List Lexeme) (x : Answer A) (k : A → List Lexeme → Answer B) → input ≡ p ++ rest → rest ≡ s ∷ inner
    → Reads P inner x → ((q : List Lexeme) (a : A) → P q a → Completes D (p ++ s ∷ q)) → ((a : A) (after q : List Lexeme) → P q a → inner ≡ q ++ after → input ≡ (p ++ s ∷ q) ++ after → Reads D input (k a after))
    → Reads D input (go_on x k)
reads_after D P input p rest s inner x k e e1 r f g =
    reads_part D P input (p ++ s ∷ []) inner x k (e ∙ ap (λ y. p ++ y) e1 ∙ sym (append_assoc p (s ∷ []) inner)) r (λ q a h. subst (Completes D) (sym (append_assoc p (s ∷ []) q)) (f q a h))
    (λ a after q h e2 i. g a after q h e2 (i ∙ ap (λ y. y ++ after) (append_assoc p (s ∷ []) q)))

-- a last part
reads_last : {A B : Type 0} (D : List Lexeme → B → Type 0) (P : List Lexeme → A → Type 0) (input p ls : List Lexeme) (x : Answer A) (f : A → B) → input ≡ p ++ ls → Reads P ls x → ((q : List Lexeme) (a : A) → P q a → D (p ++ q) (f a))
    → Reads D input (go_on x (λ a rest. taken (f a) rest))
reads_last D P input p ls x f e r make = reads_part D P input p ls x (λ a rest. taken (f a) rest) e r (λ q a d. full D (p ++ q) (f a) (make q a d)) (λ a rest q d is i. reads_taken (f a) rest (p ++ q) i (make q a d))

reads_last_after : {A B : Type 0} (D : List Lexeme → B → Type 0) (P : List Lexeme → A → Type 0) (input p rest : List Lexeme) (s : Lexeme) (inner : List Lexeme) (x : Answer A) (f : A → B) → input ≡ p ++ rest → rest ≡ s ∷ inner → Reads P inner x
    → ((q : List Lexeme) (a : A) → P q a → D (p ++ s ∷ q) (f a)) → Reads D input (go_on x (λ a after. taken (f a) after))
reads_last_after D P input p rest s inner x f e e1 r make =
    reads_after D P input p rest s inner x (λ a after. taken (f a) after) e e1 r (λ q a d. full D (p ++ s ∷ q) (f a) (make q a d)) (λ a after q d is i. reads_taken (f a) after (p ++ s ∷ q) i (make q a d))

reads_expect : {B : Type 0} (D : List Lexeme → B → Type 0) (input p : List Lexeme) (s : Symbol) (ls : List Lexeme) (f : Lexeme → List Lexeme → Answer B) → input ≡ p ++ ls → Completes D p
    → ((l : Lexeme) (rest : List Lexeme) → ls ≡ l ∷ rest → Is s l → input ≡ (p ++ l ∷ []) ++ rest → Reads D input (f l rest)) → Reads D input (expect s ls f)
reads_expect D input p s [] f e c g = reads_refused 0 (opens_here D input p [] e c)
reads_expect D input p s (l ∷ ls) f e c g = by (symbol_eq l.symbol s) refl
  where
    by : (b : Bool) → symbol_eq l.symbol s ≡ b → Reads D input (cond b (f l ls) (refused (suc (length ls))))
    by true i = g l ls refl (same_symbol l.symbol s i) (e ∙ sym (append_assoc p (l ∷ []) ls))
    by false i = reads_refused (suc (length ls)) (opens_here D input p (l ∷ ls) e c)

reads_if_next : {B : Type 0} (D : List Lexeme → B → Type 0) (input : List Lexeme) (s : Symbol) (ls : List Lexeme) (f : Lexeme → List Lexeme → Answer B) (x : Answer B)
    → ((l : Lexeme) (rest : List Lexeme) → ls ≡ l ∷ rest → Is s l → Reads D input (f l rest)) → Reads D input x → Reads D input (if_next s ls f x)
reads_if_next D input s [] f x g h = h
reads_if_next D input s (l ∷ ls) f x g h = by (symbol_eq l.symbol s) refl
  where
    by : (b : Bool) → symbol_eq l.symbol s ≡ b → Reads D input (cond b (f l ls) x)
    by true e = g l ls refl (same_symbol l.symbol s e)
    by false e = h

reads_cond : {B : Type 0} (D : List Lexeme → B → Type 0) (input : List Lexeme) (b : Bool) (x y : Answer B) → Reads D input x → Reads D input y → Reads D input (cond b x y)
reads_cond D input true x y h g = h
reads_cond D input false x y h g = g

expression_reads : (ends : Bool) (depth : ℕ) (ls : List Lexeme) → Reads (Derives Releases) ls (expression_read ends depth ls)
expression_reads ends depth ls = let h : Right (readers depth) = readers_right depth in by (h.level ends Releases ls)
  where
    by : {x : Answer Tree} → Answers (Derives Releases) ls x → Reads (Derives Releases) ls x
    by (answers_taken t rest q is d u) = reads_taken t rest q is d
    by (answers_refused k o) = reads_refused k o
    by answers_lost = reads_lost

abbrev word : List ℕ → Lexeme
word text = record { symbol = symbol.Ident; text = text; start = 0; end = 0 }

-- names

names_begin : Completes DerivesNames []
names_begin = completes (sign symbol.Ident ∷ []) (word_of (sign symbol.Ident) ∷ []) (of_one_name (sign symbol.Ident) refl)

names_reads : (depth : ℕ) (ls : List Lexeme) → Reads DerivesNames ls (names_read depth ls)
names_reads zero ls = reads_lost
names_reads (suc depth) ls =
    reads_expect DerivesNames ls [] symbol.Ident ls _ refl names_begin (λ l rest e i at.
    reads_if_next DerivesNames ls symbol.Comma rest _ _ (λ comma inner e2 i2.
    reads_last_after DerivesNames DerivesNames ls (l ∷ []) rest comma inner (names_read depth inner) (λ ws. word_of l ∷ ws) at e2 (names_reads depth inner) (λ q ws d. of_names l comma q ws i i2 d))
    (reads_taken (word_of l ∷ []) rest (l ∷ []) at (of_one_name l i)))

-- fields

pub same_bytes : (xs ys : List ℕ) → bytes_eq xs ys ≡ true → xs ≡ ys
same_bytes xs ys e = (bytes_eq-Decides xs ys).0 e

kind_found : (l : Lexeme) (k : Kind) → kind_of l ≡ Some k → IsKind l k
kind_found l k e = by (symbol_eq l.symbol symbol.Ident) refl (bytes_eq l.text (codes "Mealy")) refl (bytes_eq l.text (codes "Moore")) refl e
  where
    by : (b : Bool) → symbol_eq l.symbol symbol.Ident ≡ b → (c : Bool) → bytes_eq l.text (codes "Mealy") ≡ c → (d : Bool) → bytes_eq l.text (codes "Moore") ≡ d
        → cond b (cond c (Some Mealy) (cond d (Some Moore) None)) None ≡ Some k → IsKind l k
    by true i true t d u f = let same : Mealy ≡ k = cc in subst (IsKind l) same (is_mealy l (same_symbol l.symbol symbol.Ident i) (same_bytes l.text (codes "Mealy") t))
    by true i false t true u f = let same : Moore ≡ k = cc in subst (IsKind l) same (is_moore l (same_symbol l.symbol symbol.Ident i) (same_bytes l.text (codes "Moore") u))
    by true i false t false u f = absurd cc
    by false i c t d u f = absurd cc

strict_found : (l : Lexeme) → is_strict l ≡ true → IsStrict l
strict_found l e = by (symbol_eq l.symbol symbol.Ident) refl (bytes_eq l.text (codes "Strict")) refl e
  where
    by : (b : Bool) → symbol_eq l.symbol symbol.Ident ≡ b → (c : Bool) → bytes_eq l.text (codes "Strict") ≡ c → (b && c) ≡ true → IsStrict l
    by true i true t f = (same_symbol l.symbol symbol.Ident i, same_bytes l.text (codes "Strict") t)
    by true i false t f = absurd cc
    by false i c t f = absurd cc

reads_kind : {B : Type 0} (D : List Lexeme → B → Type 0) (input p : List Lexeme) (ls : List Lexeme) (f : Kind → List Lexeme → Answer B) → input ≡ p ++ ls → Completes D p
    → ((l : Lexeme) (k : Kind) (rest : List Lexeme) → IsKind l k → input ≡ (p ++ l ∷ []) ++ rest → Reads D input (f k rest)) → Reads D input (expect_kind ls f)
reads_kind D input p [] f e c g = reads_refused 0 (opens_here D input p [] e c)
reads_kind D input p (l ∷ ls) f e c g = by (kind_of l) refl
  where
    by : (o : Option Kind) → kind_of l ≡ o → Reads D input (kinded o ls f)
    by None i = reads_refused (suc (length ls)) (opens_here D input p (l ∷ ls) e c)
    by (Some k) i = g l k ls (kind_found l k i) (e ∙ sym (append_assoc p (l ∷ []) ls))

reads_strict : {B : Type 0} (D : List Lexeme → B → Type 0) (input p : List Lexeme) (ls : List Lexeme) (f : List Lexeme → Answer B) → input ≡ p ++ ls → Completes D p
    → ((l : Lexeme) (rest : List Lexeme) → IsStrict l → input ≡ (p ++ l ∷ []) ++ rest → Reads D input (f rest)) → Reads D input (expect_strict ls f)
reads_strict D input p [] f e c g = reads_refused 0 (opens_here D input p [] e c)
reads_strict D input p (l ∷ ls) f e c g = by (is_strict l) refl
  where
    by : (b : Bool) → is_strict l ≡ b → Reads D input (cond b (f ls) (refused (suc (length ls))))
    by true i = g l ls (strict_found l i) (e ∙ sym (append_assoc p (l ∷ []) ls))
    by false i = reads_refused (suc (length ls)) (opens_here D input p (l ∷ ls) e c)

mealy_is : IsKind (word (codes "Mealy")) Mealy
mealy_is = is_mealy (word (codes "Mealy")) refl refl

semantics_reads : (l colon : Lexeme) (input ls : List Lexeme) → Is symbol.Semantics l → Is symbol.Colon colon → input ≡ (l ∷ colon ∷ []) ++ ls → Reads DerivesField input (semantics_read ls)
semantics_reads l colon input [] e f is = reads_refused 0 (opens_here DerivesField input (l ∷ colon ∷ []) [] is (full_kind l colon e f))
  where
    full_kind : (l colon : Lexeme) → Is symbol.Semantics l → Is symbol.Colon colon → Completes DerivesField (l ∷ colon ∷ [])
    full_kind l colon e f = completes (word (codes "Mealy") ∷ []) (semantics Mealy false) (of_semantics l colon (word (codes "Mealy") ∷ []) Mealy false e f (of_kind (word (codes "Mealy")) Mealy mealy_is))
semantics_reads l colon input (s ∷ ls) e f is = by (is_strict s) refl (kind_of s) refl
  where
    field : (q : List Lexeme) (k : Kind) (strict : Bool) → DerivesSemantics q k strict → DerivesField (l ∷ colon ∷ q) (semantics k strict)
    field q k strict d = of_semantics l colon q k strict e f d

    after_strict : IsStrict s → (comma : Lexeme) → Is symbol.Comma comma → Completes DerivesField (l ∷ colon ∷ s ∷ comma ∷ [])
    after_strict i comma j = completes (word (codes "Mealy") ∷ []) (semantics Mealy true) (field (s ∷ comma ∷ word (codes "Mealy") ∷ []) Mealy true (of_strict_kind s comma (word (codes "Mealy")) Mealy i j mealy_is))

    after_kind : (k : Kind) → IsKind s k → (comma : Lexeme) → Is symbol.Comma comma → Completes DerivesField (l ∷ colon ∷ s ∷ comma ∷ [])
    after_kind k i comma j = completes (word (codes "Strict") ∷ []) (semantics k true) (field (s ∷ comma ∷ word (codes "Strict") ∷ []) k true (of_kind_strict s comma (word (codes "Strict")) k i j (refl, refl)))

    by : (b : Bool) → is_strict s ≡ b → (o : Option Kind) → kind_of s ≡ o
        → Reads DerivesField input (cond b (expect symbol.Comma ls (λ _ rest. expect_kind rest (λ k after. taken (semantics k true) after)))
        (kinded o ls (λ k rest. if_next symbol.Comma rest (λ _ inner. expect_strict inner (λ after. taken (semantics k true) after)) (taken (semantics k false) rest))))
    by true i o j =
        reads_expect DerivesField input (l ∷ colon ∷ s ∷ []) symbol.Comma ls _ is
        (cut DerivesField (l ∷ colon ∷ s ∷ []) (sign symbol.Comma ∷ []) (l ∷ colon ∷ s ∷ sign symbol.Comma ∷ []) refl (after_strict (strict_found s i) (sign symbol.Comma) refl)) (λ comma rest e2 i2 at.
        reads_kind DerivesField input (l ∷ colon ∷ s ∷ comma ∷ []) rest _ at (after_strict (strict_found s i) comma i2) (λ t k after i3 at3.
        reads_taken (semantics k true) after (l ∷ colon ∷ s ∷ comma ∷ t ∷ []) at3 (field (s ∷ comma ∷ t ∷ []) k true (of_strict_kind s comma t k (strict_found s i) i2 i3))))
    by false i None j =
        reads_refused (suc (length ls)) (opens_here DerivesField input (l ∷ colon ∷ []) (s ∷ ls) is
        (completes (word (codes "Mealy") ∷ []) (semantics Mealy false) (field (word (codes "Mealy") ∷ []) Mealy false (of_kind (word (codes "Mealy")) Mealy mealy_is))))
    by false i (Some k) j =
        reads_if_next DerivesField input symbol.Comma ls _ _ (λ comma inner e2 i2.
        reads_strict DerivesField input (l ∷ colon ∷ s ∷ comma ∷ []) inner _ (is ∙ ap (λ x. l ∷ colon ∷ s ∷ x) e2) (after_kind k (kind_found s k j) comma i2) (λ t after i3 at3.
        reads_taken (semantics k true) after (l ∷ colon ∷ s ∷ comma ∷ t ∷ []) at3 (field (s ∷ comma ∷ t ∷ []) k true (of_kind_strict s comma t k (kind_found s k j) i2 i3))))
        (reads_taken (semantics k false) ls (l ∷ colon ∷ s ∷ []) is (field (s ∷ []) k false (of_kind s k (kind_found s k j))))

target_begins : (l colon : Lexeme) → Is symbol.Target l → Is symbol.Colon colon → Completes DerivesField (l ∷ colon ∷ [])
target_begins l colon e f = completes (word (codes "Mealy") ∷ []) (target Mealy 0) (of_target l colon (word (codes "Mealy")) Mealy e f mealy_is)

target_reads : (l colon : Lexeme) (input ls : List Lexeme) → Is symbol.Target l → Is symbol.Colon colon → input ≡ (l ∷ colon ∷ []) ++ ls → Reads DerivesField input (target_read ls)
target_reads l colon input [] e f is = reads_refused 0 (opens_here DerivesField input (l ∷ colon ∷ []) [] is (target_begins l colon e f))
target_reads l colon input (t ∷ ls) e f is = by (kind_of t) refl
  where
    by : (o : Option Kind) → kind_of t ≡ o → Reads DerivesField input (kinded o ls (λ k after. taken (target k t.start) after))
    by None i = reads_refused (suc (length ls)) (opens_here DerivesField input (l ∷ colon ∷ []) (t ∷ ls) is (target_begins l colon e f))
    by (Some k) i = reads_taken (target k t.start) ls (l ∷ colon ∷ t ∷ []) is (of_target l colon t k e f (kind_found t k i))

tags_reads : (depth : ℕ) (l colon : Lexeme) (input ls : List Lexeme) → Is symbol.Tags l → Is symbol.Colon colon → input ≡ (l ∷ colon ∷ []) ++ ls → Reads DerivesField input (tags_read depth ls)
tags_reads depth l colon input ls e f is =
    reads_cond DerivesField input (begins symbol.Ident ls) _ _
    (reads_last DerivesField DerivesNames input (l ∷ colon ∷ []) ls (names_read depth ls) (λ ws. tags ws) is (names_reads depth ls) (λ q ws d. of_tags l colon q ws e f d))
    (reads_taken (tags []) ls (l ∷ colon ∷ []) is (of_no_tags l colon e f))

-- a word and its colon
colon_next : (l : Lexeme) (ls : List Lexeme) (f : Lexeme → List Lexeme → Answer Field) → Completes DerivesField (l ∷ []) → ((colon : Lexeme) (rest : List Lexeme) → Is symbol.Colon colon → l ∷ ls ≡ (l ∷ colon ∷ []) ++ rest → Reads DerivesField (l ∷ ls) (f colon rest))
    → Reads DerivesField (l ∷ ls) (expect symbol.Colon ls f)
colon_next l ls f c g = reads_expect DerivesField (l ∷ ls) (l ∷ []) symbol.Colon ls f refl c (λ colon rest e i at. g colon rest i at)

field_begins : Completes DerivesField []
field_begins = completes (sign symbol.Tags ∷ sign symbol.Colon ∷ []) (tags []) (of_no_tags (sign symbol.Tags) (sign symbol.Colon) refl refl)

title_begins : (l colon : Lexeme) → Is symbol.Title l → Is symbol.Colon colon → Completes DerivesField (l ∷ colon ∷ [])
title_begins l colon e f = completes (sign symbol.Text ∷ []) (title (unquoted [])) (of_title l colon (sign symbol.Text) e f refl)

description_begins : (l colon : Lexeme) → Is symbol.Description l → Is symbol.Colon colon → Completes DerivesField (l ∷ colon ∷ [])
description_begins l colon e f = completes (sign symbol.Text ∷ []) (description (unquoted [])) (of_description l colon (sign symbol.Text) e f refl)

semantics_begins : (l colon : Lexeme) → Is symbol.Semantics l → Is symbol.Colon colon → Completes DerivesField (l ∷ colon ∷ [])
semantics_begins l colon e f = completes (word (codes "Mealy") ∷ []) (semantics Mealy false) (of_semantics l colon (word (codes "Mealy") ∷ []) Mealy false e f (of_kind (word (codes "Mealy")) Mealy mealy_is))

with_colon : (l : Lexeme) → Completes DerivesField (l ∷ sign symbol.Colon ∷ []) → Completes DerivesField (l ∷ [])
with_colon l c = cut DerivesField (l ∷ []) (sign symbol.Colon ∷ []) (l ∷ sign symbol.Colon ∷ []) refl c

field_reads : (depth : ℕ) (s : Symbol) (l : Lexeme) (ls : List Lexeme) → Is s l → Reads DerivesField (l ∷ ls) (field_by depth s ls)
field_reads depth symbol.Title l ls e =
    colon_next l ls _ (with_colon l (title_begins l (sign symbol.Colon) e refl)) (λ colon rest i at.
    reads_expect DerivesField (l ∷ ls) (l ∷ colon ∷ []) symbol.Text rest _ at (title_begins l colon e i) (λ t after e2 i2 at2. reads_taken (title (unquoted t.text)) after (l ∷ colon ∷ t ∷ []) at2 (of_title l colon t e i i2)))
field_reads depth symbol.Description l ls e =
    colon_next l ls _ (with_colon l (description_begins l (sign symbol.Colon) e refl)) (λ colon rest i at.
    reads_expect DerivesField (l ∷ ls) (l ∷ colon ∷ []) symbol.Text rest _ at (description_begins l colon e i) (λ t after e2 i2 at2. reads_taken (description (unquoted t.text)) after (l ∷ colon ∷ t ∷ []) at2 (of_description l colon t e i i2)))
field_reads depth symbol.Semantics l ls e = colon_next l ls _ (with_colon l (semantics_begins l (sign symbol.Colon) e refl)) (λ colon rest i at. semantics_reads l colon (l ∷ ls) rest e i at)
field_reads depth symbol.Target l ls e = colon_next l ls _ (with_colon l (target_begins l (sign symbol.Colon) e refl)) (λ colon rest i at. target_reads l colon (l ∷ ls) rest e i at)
field_reads depth symbol.Tags l ls e =
    colon_next l ls _ (with_colon l (full DerivesField (l ∷ sign symbol.Colon ∷ []) (tags []) (of_no_tags l (sign symbol.Colon) e refl))) (λ colon rest i at. tags_reads depth l colon (l ∷ ls) rest e i at)
field_reads depth _ l ls e = reads_refused (suc (length ls)) (opens_here DerivesField (l ∷ ls) [] (l ∷ ls) refl field_begins)

fields_reads : (depth : ℕ) (ls : List Lexeme) → Reads DerivesFields ls (fields_read depth ls)
fields_reads zero ls = reads_lost
fields_reads (suc depth) [] = reads_refused 0 (opens_here DerivesFields [] [] [] refl (full DerivesFields [] [] of_no_field))
fields_reads (suc depth) (l ∷ ls) =
    reads_cond DerivesFields (l ∷ ls) (symbol_eq l.symbol symbol.CloseBrace) _ _ (reads_taken [] (l ∷ ls) [] refl of_no_field)
    (reads_part DerivesFields DerivesField (l ∷ ls) [] (l ∷ ls) (field_by depth l.symbol ls) _ refl (field_reads depth l.symbol l ls refl)
    (λ q f d. completes [] (f ∷ []) (of_field q [] f [] d of_no_field))
    (λ f rest q d is at. reads_last DerivesFields DerivesFields (l ∷ ls) q rest (fields_read depth rest) (λ fs. f ∷ fs) at (fields_reads depth rest) (λ p fs c. of_field q p f fs d c)))

-- enumerations

-- the bits of a value, and the byte after its last lexeme
pub record IsValue (q : List Lexeme) (v : Value) : Type 0 where
  bits : DerivesBits q v.bits
  end : (e : ℕ) → end_from e q ≡ v.end

-- a value whose first lexeme gives bits is read
data ReadsValue (ls : List Lexeme) : Answer Value → Type 0 where
  value_taken : (v : Value) (rest q : List Lexeme) → ls ≡ q ++ rest → IsValue q v → ReadsValue ls (taken v rest)
  value_lost : ReadsValue ls lost

more_bits : (l : Lexeme) (ls : List Lexeme) (bs : List (Option Bool)) (x : Answer Value) → bits_of l.symbol l.text ≡ Some bs → goes_on_value l.end ls ≡ true → ReadsValue ls x
    → ReadsValue (l ∷ ls) (go_on x (λ v rest. taken (record { bits = bs ++ v.bits; end = v.end }) rest))
more_bits l ls bs x b g value_lost = value_lost
more_bits l ls bs x b g (value_taken v rest [] is d) = absurd (no_bits v.bits d.bits)
  where
    no_bits : (bs : List (Option Bool)) → DerivesBits [] bs → ⊥
    no_bits bs d = elim d [ ]
more_bits l ls bs x b g (value_taken v rest (m ∷ q) is d) =
    value_taken (record { bits = bs ++ v.bits; end = v.end }) rest (l ∷ m ∷ q) (ap (λ y. l ∷ y) is)
    (record { bits = of_more_bits l m q bs v.bits b (apart (l.end == m.start) refl (ap (goes_on_value l.end) (sym is) ∙ g)) d.bits; end = λ e. d.end l.end })
  where
    apart : (c : Bool) → (l.end == m.start) ≡ c → ((l.end == m.start) && is_some (bits_of m.symbol m.text)) ≡ true → l.end ≡ m.start
    apart true c f = eqb-true l.end m.start c
    apart false c f = let none : false ≡ true = ap (λ y. y && is_some (bits_of m.symbol m.text)) (sym c) ∙ f in absurd cc

value_reads : (depth : ℕ) (l : Lexeme) (ls : List Lexeme) → is_some (bits_of l.symbol l.text) ≡ true → ReadsValue (l ∷ ls) (value_read depth (l ∷ ls))
value_reads zero l ls b = value_lost
value_reads (suc depth) l ls b = by (λ m ms c. value_reads depth m ms c) (bits_of l.symbol l.text) refl
  where
    next_value : ((m : Lexeme) (ms : List Lexeme) → is_some (bits_of m.symbol m.text) ≡ true → ReadsValue (m ∷ ms) (value_read depth (m ∷ ms))) → (ls : List Lexeme) → goes_on_value l.end ls ≡ true → ReadsValue ls (value_read depth ls)
    next_value h [] g = absurd cc
    next_value h (m ∷ ms) g = h m ms (second (l.end == m.start) (is_some (bits_of m.symbol m.text)) g)
      where
        second : (a c : Bool) → (a && c) ≡ true → c ≡ true
        second true c e = e
        second false c e = absurd cc

    either : ((m : Lexeme) (ms : List Lexeme) → is_some (bits_of m.symbol m.text) ≡ true → ReadsValue (m ∷ ms) (value_read depth (m ∷ ms))) → (bs : List (Option Bool)) → bits_of l.symbol l.text ≡ Some bs
        → (c : Bool) → goes_on_value l.end ls ≡ c
        → ReadsValue (l ∷ ls) (cond c (go_on (value_read depth ls) (λ v rest. taken (record { bits = bs ++ v.bits; end = v.end }) rest)) (taken (record { bits = bs; end = l.end }) ls))
    either h bs e true g = more_bits l ls bs (value_read depth ls) e g (next_value h ls g)
    either h bs e false g = value_taken (record { bits = bs; end = l.end }) ls (l ∷ []) refl (record { bits = of_bits l bs e; end = λ k. refl })

    by : ((m : Lexeme) (ms : List Lexeme) → is_some (bits_of m.symbol m.text) ≡ true → ReadsValue (m ∷ ms) (value_read depth (m ∷ ms))) → (o : Option (List (Option Bool))) → bits_of l.symbol l.text ≡ o
        → ReadsValue (l ∷ ls) (valued o l ls (value_read depth))
    by h None e = let no : is_some (bits_of l.symbol l.text) ≡ false = ap is_some e in absurd cc
    by h (Some bs) e = either h bs e (goes_on_value l.end ls) refl

-- a value with its place
pub record IsPattern (q : List Lexeme) (p : Pattern) : Type 0 where
  bits : DerivesBits q p.bits
  span : p.span ≡ span_of q

star_bits : DerivesBits (sign symbol.Star ∷ []) (None ∷ [])
star_bits = of_bits (sign symbol.Star) (None ∷ []) refl

pattern_begins : Completes IsPattern []
pattern_begins = completes (sign symbol.Star ∷ []) (record { bits = None ∷ []; span = span_of (sign symbol.Star ∷ []) }) (record { bits = star_bits; span = refl })

pattern_of : (l : Lexeme) (ls : List Lexeme) (x : Answer Value) → ReadsValue (l ∷ ls) x → Reads IsPattern (l ∷ ls) (go_on x (λ v rest. taken (record { bits = v.bits; span = from_to l.start v.end }) rest))
pattern_of l ls x value_lost = reads_lost
pattern_of l ls x (value_taken v rest [] is d) = absurd (elim d.bits [ ])
pattern_of l ls x (value_taken v rest (m ∷ q) is d) =
    let same : l ≡ m = cc in
    reads_taken (record { bits = v.bits; span = from_to l.start v.end }) rest (m ∷ q) is
    (record { bits = d.bits; span = ap (λ y. from_to y.start v.end) same ∙ ap (λ y. from_to m.start y) (sym (d.end 0)) })

pattern_reads : (depth : ℕ) (ls : List Lexeme) → Reads IsPattern ls (pattern_read depth ls)
pattern_reads depth [] = reads_refused 0 (opens_here IsPattern [] [] [] refl pattern_begins)
pattern_reads zero (l ∷ ls) = reads_lost
pattern_reads (suc depth) (l ∷ ls) = by (is_some (bits_of l.symbol l.text)) refl
  where
    place_of : Value → List Lexeme → Answer Pattern
    place_of v rest = taken (record { bits = v.bits; span = from_to l.start v.end }) rest

    without : (o : Option (List (Option Bool))) → is_some o ≡ false → Reads IsPattern (l ∷ ls) (go_on (valued o l ls (value_read depth)) (λ v rest. taken (record { bits = v.bits; span = from_to l.start v.end }) rest))
    without None e = reads_refused (suc (length ls)) (opens_here IsPattern (l ∷ ls) [] (l ∷ ls) refl pattern_begins)
    without (Some bs) e = absurd cc

    by : (b : Bool) → is_some (bits_of l.symbol l.text) ≡ b → Reads IsPattern (l ∷ ls) (pattern_read (suc depth) (l ∷ ls))
    by true e = pattern_of l ls (value_read (suc depth) (l ∷ ls)) (value_reads (suc depth) l ls e)
    by false e = without (bits_of l.symbol l.text) e

patterns_of_one : (q : List Lexeme) (p : Pattern) → IsPattern q p → DerivesPatterns q (p ∷ [])
patterns_of_one q p d = subst (λ s. DerivesPatterns q (record { bits = p.bits; span = s } ∷ [])) (sym d.span) (of_one_pattern q p.bits d.bits)

patterns_of_more : (comma : Lexeme) (q o : List Lexeme) (p : Pattern) (ps : List Pattern) → IsPattern q p → Is symbol.Comma comma → DerivesPatterns o ps → DerivesPatterns (q ++ comma ∷ o) (p ∷ ps)
patterns_of_more comma q o p ps d i c = subst (λ s. DerivesPatterns (q ++ comma ∷ o) (record { bits = p.bits; span = s } ∷ ps)) (sym d.span) (of_patterns comma q o p.bits ps d.bits i c)

patterns_reads : (depth : ℕ) (ls : List Lexeme) → Reads DerivesPatterns ls (patterns_read depth ls)
patterns_reads zero ls = reads_lost
patterns_reads (suc depth) ls =
    reads_part DerivesPatterns IsPattern ls [] ls (pattern_read depth ls) _ refl (pattern_reads depth ls) (λ q p d. full DerivesPatterns q (p ∷ []) (patterns_of_one q p d)) (λ p rest q d e is.
    reads_if_next DerivesPatterns ls symbol.Comma rest _ _ (λ comma inner e2 i2.
    reads_last_after DerivesPatterns DerivesPatterns ls q rest comma inner (patterns_read depth inner) (λ ps. p ∷ ps) is e2 (patterns_reads depth inner) (λ o ps c. patterns_of_more comma q o p ps d i2 c))
    (reads_taken (p ∷ []) rest q is (patterns_of_one q p d)))

star_pattern : DerivesPatterns (sign symbol.Star ∷ []) (record { bits = None ∷ []; span = span_of (sign symbol.Star ∷ []) } ∷ [])
star_pattern = of_one_pattern (sign symbol.Star ∷ []) (None ∷ []) star_bits

named_member : (l colon : Lexeme) → Is symbol.Ident l → Is symbol.Colon colon → Completes DerivesMembers (l ∷ colon ∷ [])
named_member l colon e f = completes (sign symbol.Star ∷ []) (record { word = word_of l; values = record { bits = None ∷ []; span = span_of (sign symbol.Star ∷ []) } ∷ [] } ∷ []) (of_one_member l colon (sign symbol.Star ∷ []) (record { bits = None ∷ []; span = span_of (sign symbol.Star ∷ []) } ∷ []) e f star_pattern)

members_begin : Completes DerivesMembers []
members_begin = cut DerivesMembers [] (sign symbol.Ident ∷ sign symbol.Colon ∷ []) (sign symbol.Ident ∷ sign symbol.Colon ∷ []) refl (named_member (sign symbol.Ident) (sign symbol.Colon) refl refl)

members_reads : (depth : ℕ) (ls : List Lexeme) → Reads DerivesMembers ls (members_read depth ls)
members_reads zero ls = reads_lost
members_reads (suc depth) ls =
    reads_expect DerivesMembers ls [] symbol.Ident ls _ refl members_begin (λ l colon_at e i at.
    reads_expect DerivesMembers ls (l ∷ []) symbol.Colon colon_at _ at (cut DerivesMembers (l ∷ []) (sign symbol.Colon ∷ []) (l ∷ sign symbol.Colon ∷ []) refl (named_member l (sign symbol.Colon) i refl)) (λ colon values_at e2 i2 at2.
    reads_part DerivesMembers DerivesPatterns ls (l ∷ colon ∷ []) values_at (patterns_read depth values_at) _ at2 (patterns_reads depth values_at)
    (λ q ps d. full DerivesMembers (l ∷ colon ∷ q) (record { word = word_of l; values = ps } ∷ []) (of_one_member l colon q ps i i2 d)) (λ ps rest q d e3 is.
    reads_cond DerivesMembers ls (begins_member rest) _ _
    (reads_last DerivesMembers DerivesMembers ls (l ∷ colon ∷ q) rest (members_read depth rest) (λ ms. record { word = word_of l; values = ps } ∷ ms) is (members_reads depth rest) (λ o ms c. of_members l colon q o ps ms i i2 d c))
    (reads_taken (record { word = word_of l; values = ps } ∷ []) rest (l ∷ colon ∷ q) is (of_one_member l colon q ps i i2 d)))))

-- alternatives

pub data IsGuard : List Lexeme → Option Tree → Type 0 where
  guard_is : (q : List Lexeme) (t : Tree) → Derives Releases q t → IsGuard q (Some t)
  otherwise_is : (l : Lexeme) → Is symbol.Otherwise l → IsGuard (l ∷ []) None

guard_reads : (depth : ℕ) (ls : List Lexeme) → Reads IsGuard ls (guard_read depth ls)
guard_reads depth ls =
    reads_if_next IsGuard ls symbol.Otherwise ls _ _ (λ l rest e i. reads_taken None rest (l ∷ []) e (otherwise_is l i))
    (reads_last IsGuard (Derives Releases) ls [] ls (expression_read false depth ls) (λ t. Some t) refl (expression_reads false depth ls) (λ q t d. guard_is q t d))

-- a guard after this value: a name before `(` is always called
pub record NextGuard (value : List Lexeme) (q : List Lexeme) (g : Option Tree) : Type 0 where
  guard : IsGuard q g
  apart : ¬ (EndsWithName value × BeginsWithParen q)

front_is_paren : (rest : List Lexeme) (l : Lexeme) (ls : List Lexeme) → rest ≡ l ∷ ls → Is symbol.OpenParen l → begins symbol.OpenParen rest ≡ true
front_is_paren rest l ls e i = ap (begins symbol.OpenParen) e ∙ is_symbol l.symbol symbol.OpenParen i

guard_apart : (value rest : List Lexeme) (x : Answer (Option Tree)) → (EndsWithName value → begins symbol.OpenParen rest ≡ false) → Reads IsGuard rest x → Reads (NextGuard value) rest x
guard_apart value rest x n (reads_taken g after q is d) = reads_taken g after q is (record { guard = d; apart = λ both. never q is both })
  where
    never : (q : List Lexeme) → rest ≡ q ++ after → EndsWithName value × BeginsWithParen q → ⊥
    never [] is both = both.1
    never (l ∷ q) is both = let a : begins symbol.OpenParen rest ≡ true = front_is_paren rest l (q ++ after) is both.1 in let b : begins symbol.OpenParen rest ≡ false = n both.0 in cc
guard_apart value rest x n (reads_refused k o) = reads_refused k (record { front = o.front; rest = o.rest; is = o.is; left = o.left; completes = by o.front o.is o.completes })
  where
    by : (front : List Lexeme) → rest ≡ front ++ o.rest → Completes IsGuard front → Completes (NextGuard value) front
    by [] is c = completes (sign symbol.True ∷ []) (Some ex) (record { guard = guard_is (sign symbol.True ∷ []) ex (example Releases); apart = λ both. let no : symbol.True ≡ symbol.OpenParen = both.1 in cc })
    by (l ∷ front) is c = completes c.more c.value (record { guard = c.derived; apart = λ both. never both.1 both.0 })
      where
        never : Is symbol.OpenParen l → EndsWithName value → ⊥
        never i e = let a : begins symbol.OpenParen rest ≡ true = front_is_paren rest l (front ++ o.rest) is i in let b : begins symbol.OpenParen rest ≡ false = n e in cc
guard_apart value rest x n reads_lost = reads_lost

alternative_derived : (p : List Lexeme) (g : Option Tree) (colon : Lexeme) (q : List Lexeme) (u : Tree) → IsGuard p g → Is symbol.Colon colon → Derives Releases q u → DerivesAlternative (p ++ colon ∷ q) (alternative_of g u)
alternative_derived p g colon q u (guard_is r t d) i e = of_guard colon r q t u d i e
alternative_derived p g colon q u (otherwise_is l o) i e = of_otherwise l colon q u o i e

-- a guard isn't empty
guard_front : (q ms : List Lexeme) (g : Option Tree) → IsGuard q g → BeginsWithParen (q ++ ms) → BeginsWithParen q
guard_front [] ms g (guard_is r t d) b = absurd (starts_somehow t d)
  where
    starts_somehow : (t : Tree) → Derives Releases [] t → ⊥
    starts_somehow t d = starts_any Releases [] t d
guard_front (l ∷ q) ms g h b = b

-- what stands after a guard
abbrev AfterGuard : List Lexeme → List Lexeme → List Alternative → Type 0
AfterGuard p q others = DerivesAlternatives (p ++ q) others

-- the value of an alternative with what is known of its end
value_then : {B : Type 0} (D : List Lexeme → B → Type 0) (input p : List Lexeme) (depth : ℕ) (ls : List Lexeme) (k : Tree → List Lexeme → Answer B) → input ≡ p ++ ls → ((q : List Lexeme) (t : Tree) → Derives Releases q t → Completes D (p ++ q))
    → ((t : Tree) (rest q : List Lexeme) → Derives Releases q t → (EndsWithName q → begins symbol.OpenParen rest ≡ false) → input ≡ (p ++ q) ++ rest → Reads D input (k t rest)) → Reads D input (go_on (expression_read true depth ls) k)
value_then D input p depth ls k e f g =
    let h : Right (readers depth) = readers_right depth in by (h.level true Releases ls)
  where
    by : {x : Answer Tree} → Answers (Derives Releases) ls x → Reads D input (go_on x k)
    by (answers_taken t rest q is d u) = g t rest q d u (joined_front input p ls q rest e is)
    by (answers_refused j o) = reads_refused j (lift D (Derives Releases) input p ls j e f o)
    by answers_lost = reads_lost

alternatives_reads : (depth : ℕ) (g : Option Tree) (p : List Lexeme) → IsGuard p g → (ls : List Lexeme) → Reads (AfterGuard p) ls (alternatives_read depth g ls)
alternatives_reads zero g p h ls = reads_lost
alternatives_reads (suc depth) g p h ls =
    reads_expect (AfterGuard p) ls [] symbol.Colon ls _ refl
    (cut (AfterGuard p) [] (sign symbol.Colon ∷ sign symbol.True ∷ []) (sign symbol.Colon ∷ sign symbol.True ∷ []) refl (one (sign symbol.Colon) (sign symbol.True ∷ []) ex refl (example Releases))) (λ colon inner e i at.
    value_then (AfterGuard p) ls (colon ∷ []) depth inner _ at (λ q u d. one colon q u i d) (λ u rest q d n is.
    reads_cond (AfterGuard p) ls (begins symbol.Semicolon rest) _ _ (reads_taken (alternative_of g u ∷ []) rest (colon ∷ q) is (of_one_alternative (p ++ colon ∷ q) (alternative_of g u) (alternative_derived p g colon q u h i d)))
    (reads_part (AfterGuard p) (NextGuard q) ls (colon ∷ q) rest (guard_read depth rest) _ is (guard_apart q rest (guard_read depth rest) n (guard_reads depth rest))
    (λ o k c. two colon q u i d o k c) (λ k colon_at o c e3 is3.
    reads_last (AfterGuard p) (AfterGuard o) ls (colon ∷ q ++ o) colon_at (alternatives_read depth k colon_at) (λ others. alternative_of g u ∷ others) is3 (alternatives_reads depth k o c.guard colon_at)
    (λ r others b. joined colon q u i d o k c r others b)))))
  where
    joined : (colon : Lexeme) (q : List Lexeme) (u : Tree) → Is symbol.Colon colon → Derives Releases q u → (o : List Lexeme) (k : Option Tree) → NextGuard q o k → (r : List Lexeme) (others : List Alternative) → DerivesAlternatives (o ++ r) others
        → DerivesAlternatives (p ++ (colon ∷ q ++ o ++ r)) (alternative_of g u ∷ others)
    joined colon q u i d o k c r others b =
        subst (λ x. DerivesAlternatives x (alternative_of g u ∷ others)) (append_assoc p (colon ∷ q) (o ++ r) ∙ ap (λ x. p ++ x) (sym (append_assoc (colon ∷ q) o r)))
        (of_alternatives (p ++ colon ∷ q) (o ++ r) (alternative_of g u) others (alternative_derived p g colon q u h i d) b (λ both. c.apart (after_sign p colon q symbol.Colon i refl both.0, guard_front o r k c.guard both.1)))

    one : (colon : Lexeme) (q : List Lexeme) (u : Tree) → Is symbol.Colon colon → Derives Releases q u → Completes (AfterGuard p) (colon ∷ q)
    one colon q u i d = full (AfterGuard p) (colon ∷ q) (alternative_of g u ∷ []) (of_one_alternative (p ++ colon ∷ q) (alternative_of g u) (alternative_derived p g colon q u h i d))

    two : (colon : Lexeme) (q : List Lexeme) (u : Tree) → Is symbol.Colon colon → Derives Releases q u → (o : List Lexeme) (k : Option Tree) → NextGuard q o k → Completes (AfterGuard p) (colon ∷ q ++ o)
    two colon q u i d o k c = completes (sign symbol.Colon ∷ sign symbol.True ∷ []) (alternative_of g u ∷ alternative_of k ex ∷ []) (joined colon q u i d o k c (sign symbol.Colon ∷ sign symbol.True ∷ []) (alternative_of k ex ∷ []) (of_one_alternative (o ++ sign symbol.Colon ∷ sign symbol.True ∷ []) (alternative_of k ex) (alternative_derived o k (sign symbol.Colon) (sign symbol.True ∷ []) ex c.guard refl (example Releases))))

guarded_reads : (depth : ℕ) (g : Option Tree) (p : List Lexeme) → IsGuard p g → (input ls : List Lexeme) → input ≡ p ++ ls → Reads DerivesBody input (go_on (alternatives_read depth g ls) (λ others after. taken (guarded others) after))
guarded_reads depth g p h input ls is =
    reads_last DerivesBody (AfterGuard p) input p ls (alternatives_read depth g ls) (λ others. guarded others) is (alternatives_reads depth g p h ls) (λ q others d. of_guarded (p ++ q) others d)

body_reads : (depth : ℕ) (ls : List Lexeme) → Reads DerivesBody ls (body_read depth ls)
body_reads depth ls =
    reads_if_next DerivesBody ls symbol.Otherwise ls _ _ (λ l rest e i. guarded_reads depth None (l ∷ []) (otherwise_is l i) ls rest e)
    (reads_part DerivesBody (Derives Releases) ls [] ls (expression_read false depth ls) _ refl (expression_reads false depth ls) (λ q t d. full DerivesBody q (plain t) (of_plain q t d)) (λ t rest q d e is.
    reads_cond DerivesBody ls (begins symbol.Colon rest) _ _ (guarded_reads depth (Some t) q (guard_is q t d) ls rest is) (reads_taken (plain t) rest q is (of_plain q t d))))

-- definitions

-- what stands after the name of a definition, and its arguments
function_reads : (depth : ℕ) (w : Named) (arguments : List Named) (input p ls : List Lexeme) → input ≡ p ++ ls
    → ((a : Lexeme) (q : List Lexeme) (s : Lexeme) (b : Body) → Is symbol.Assign a → DerivesBody q b → Is symbol.Semicolon s → DerivesDefinition (p ++ a ∷ q ++ s ∷ []) (function w arguments b))
    → Reads DerivesDefinition input (function_read depth w arguments ls)
function_reads depth w arguments input p ls is make =
    reads_expect DerivesDefinition input p symbol.Assign ls _ is
    (cut DerivesDefinition p (sign symbol.Assign ∷ sign symbol.True ∷ []) (p ++ sign symbol.Assign ∷ sign symbol.True ∷ []) refl
    (ends (sign symbol.Assign) (sign symbol.True ∷ []) (plain ex) refl (of_plain (sign symbol.True ∷ []) ex (example Releases)))) (λ a inner e i at.
    reads_after DerivesDefinition DerivesBody input p ls a inner (body_read depth inner) _ is e (body_reads depth inner) (λ q b d. ends a q b i d) (λ b rest q d e2 is2.
    reads_expect DerivesDefinition input (p ++ a ∷ q) symbol.Semicolon rest _ is2 (ends a q b i d) (λ s after e3 i3 at3. reads_taken (function w arguments b) after (p ++ a ∷ q ++ s ∷ []) at3 (make a q s b i d i3))))
  where
    ends : (a : Lexeme) (q : List Lexeme) (b : Body) → Is symbol.Assign a → DerivesBody q b → Completes DerivesDefinition (p ++ a ∷ q)
    ends a q b i d = completes (sign symbol.Semicolon ∷ []) (function w arguments b) (make a q (sign symbol.Semicolon) b i d refl)

constant_begins : (l : Lexeme) → Is symbol.Ident l → Completes DerivesDefinition (l ∷ [])
constant_begins l i = completes (sign symbol.Assign ∷ sign symbol.True ∷ sign symbol.Semicolon ∷ []) (function (word_of l) [] (plain ex)) (of_constant l (sign symbol.Assign) (sign symbol.Semicolon) (sign symbol.True ∷ []) (plain ex) i refl (of_plain (sign symbol.True ∷ []) ex (example Releases)) refl)

-- the arguments of a function, and what stands after them
arguments_end : (l before after : Lexeme) (q : List Lexeme) (ws : List Named) → Is symbol.Ident l → Is symbol.OpenParen before → DerivesNames q ws → Is symbol.CloseParen after
    → (a : Lexeme) (r : List Lexeme) (s : Lexeme) (b : Body) → Is symbol.Assign a → DerivesBody r b → Is symbol.Semicolon s → DerivesDefinition (l ∷ before ∷ q ++ after ∷ [] ++ a ∷ r ++ s ∷ []) (function (word_of l) ws b)
arguments_end l before after q ws e f d g a r s b i h j =
    subst (λ x. DerivesDefinition (x ++ s ∷ []) (function (word_of l) ws b)) (sym (append_assoc (l ∷ before ∷ q) (after ∷ []) (a ∷ r))) (of_function l before after a s q r ws b e f d g i h j)

arguments_begin : (l before : Lexeme) (q : List Lexeme) (ws : List Named) → Is symbol.Ident l → Is symbol.OpenParen before → DerivesNames q ws → Completes DerivesDefinition (l ∷ before ∷ q)
arguments_begin l before q ws e f d = completes (sign symbol.CloseParen ∷ sign symbol.Assign ∷ sign symbol.True ∷ sign symbol.Semicolon ∷ []) (function (word_of l) ws (plain ex)) (subst (λ x. DerivesDefinition x (function (word_of l) ws (plain ex))) (append_assoc (l ∷ before ∷ q) (sign symbol.CloseParen ∷ sign symbol.Assign ∷ sign symbol.True ∷ []) (sign symbol.Semicolon ∷ [])) (of_function l before (sign symbol.CloseParen) (sign symbol.Assign) (sign symbol.Semicolon) q (sign symbol.True ∷ []) ws (plain ex) e f d refl refl (of_plain (sign symbol.True ∷ []) ex (example Releases)) refl))

-- the members of an enumeration
ex_members : List Member
ex_members = record { word = word_of (sign symbol.Ident); values = record { bits = None ∷ []; span = span_of (sign symbol.Star ∷ []) } ∷ [] } ∷ []

ex_members_are : DerivesMembers (sign symbol.Ident ∷ sign symbol.Colon ∷ sign symbol.Star ∷ []) ex_members
unfolding ex_members
ex_members_are = of_one_member (sign symbol.Ident) (sign symbol.Colon) (sign symbol.Star ∷ []) (record { bits = None ∷ []; span = span_of (sign symbol.Star ∷ []) } ∷ []) refl refl star_pattern

enumeration_begins : (e l a : Lexeme) → Is symbol.Enum e → Is symbol.Ident l → Is symbol.Assign a → Completes DerivesDefinition (e ∷ l ∷ a ∷ [])
enumeration_begins e l a f g h = completes (sign symbol.Ident ∷ sign symbol.Colon ∷ sign symbol.Star ∷ []) (enumeration (word_of l) ex_members) (of_enumeration e l a (sign symbol.Ident ∷ sign symbol.Colon ∷ sign symbol.Star ∷ []) ex_members f g h ex_members_are)

definition_begins : Completes DerivesDefinition []
definition_begins = cut DerivesDefinition [] (sign symbol.Ident ∷ []) (sign symbol.Ident ∷ []) refl (constant_begins (sign symbol.Ident) refl)

definition_reads : (depth : ℕ) (ls : List Lexeme) → Reads DerivesDefinition ls (definition_read depth ls)
definition_reads depth ls =
    reads_if_next DerivesDefinition ls symbol.Enum ls _ _ (λ e name_at e1 i1.
    reads_expect DerivesDefinition ls (e ∷ []) symbol.Ident name_at _ e1 (cut DerivesDefinition (e ∷ []) (sign symbol.Ident ∷ sign symbol.Assign ∷ []) (e ∷ sign symbol.Ident ∷ sign symbol.Assign ∷ []) refl (enumeration_begins e (sign symbol.Ident) (sign symbol.Assign) i1 refl refl)) (λ l sign_at e2 i2 at2.
    reads_expect DerivesDefinition ls (e ∷ l ∷ []) symbol.Assign sign_at _ at2 (cut DerivesDefinition (e ∷ l ∷ []) (sign symbol.Assign ∷ []) (e ∷ l ∷ sign symbol.Assign ∷ []) refl (enumeration_begins e l (sign symbol.Assign) i1 i2 refl)) (λ a inner e3 i3 at3.
    reads_part DerivesDefinition DerivesMembers ls (e ∷ l ∷ a ∷ []) inner (members_read depth inner) _ at3 (members_reads depth inner)
    (λ q ms d. full DerivesDefinition (e ∷ l ∷ a ∷ q) (enumeration (word_of l) ms) (of_enumeration e l a q ms i1 i2 i3 d)) (λ ms rest q d e4 is.
    reads_if_next DerivesDefinition ls symbol.Semicolon rest _ _
    (λ s after e5 i5. reads_taken (enumeration (word_of l) ms) after (e ∷ l ∷ a ∷ q ++ s ∷ []) (is ∙ ap (λ x. (e ∷ l ∷ a ∷ q) ++ x) e5 ∙ sym (append_assoc (e ∷ l ∷ a ∷ q) (s ∷ []) after)) (of_ended_enumeration e l a s q ms i1 i2 i3 d i5))
    (reads_taken (enumeration (word_of l) ms) rest (e ∷ l ∷ a ∷ q) is (of_enumeration e l a q ms i1 i2 i3 d))))))
    (reads_expect DerivesDefinition ls [] symbol.Ident ls _ refl definition_begins (λ l after_word e1 i1 at.
    reads_if_next DerivesDefinition ls symbol.OpenParen after_word _ _ (λ before inner e2 i2.
    reads_after DerivesDefinition DerivesNames ls (l ∷ []) after_word before inner (names_read depth inner) _ at e2 (names_reads depth inner) (λ q ws d. arguments_begin l before q ws i1 i2 d) (λ ws rest q d e3 is.
    reads_expect DerivesDefinition ls (l ∷ before ∷ q) symbol.CloseParen rest _ is (arguments_begin l before q ws i1 i2 d) (λ last sign_at e4 i4 at4.
    function_reads depth (word_of l) ws ls (l ∷ before ∷ q ++ last ∷ []) sign_at at4 (arguments_end l before last q ws i1 i2 d i4))))
    (function_reads depth (word_of l) [] ls (l ∷ []) after_word at (λ a q s b i h j. of_constant l a s q b i1 i h j))))

definitions_reads : (depth : ℕ) (ls : List Lexeme) → Reads DerivesDefinitions ls (definitions_read depth ls)
definitions_reads zero ls = reads_lost
definitions_reads (suc depth) ls =
    reads_cond DerivesDefinitions ls (begins symbol.CloseBrace ls) _ _ (reads_taken [] ls [] refl of_no_definition)
    (reads_part DerivesDefinitions DerivesDefinition ls [] ls (definition_read depth ls) _ refl (definition_reads depth ls)
    (λ q d h. completes [] (d ∷ []) (of_definition q [] d [] h of_no_definition))
    (λ d rest q h e is. reads_last DerivesDefinitions DerivesDefinitions ls q rest (definitions_read depth rest) (λ ds. d ∷ ds) is (definitions_reads depth rest) (λ o ds c. of_definition q o d ds h c)))

parameter_ends : (l a : Lexeme) (q : List Lexeme) (t : Tree) → Is symbol.Ident l → Is symbol.Assign a → Derives Releases q t → Completes DerivesParameters (l ∷ a ∷ q)
parameter_ends l a q t e f d = completes (sign symbol.Semicolon ∷ []) (parameter (word_of l) t ∷ []) (of_parameter l a (sign symbol.Semicolon) q [] t [] e f d refl of_no_parameter)

parameters_reads : (depth : ℕ) (ls : List Lexeme) → Reads DerivesParameters ls (parameters_read depth ls)
parameters_reads zero ls = reads_lost
parameters_reads (suc depth) ls =
    reads_cond DerivesParameters ls (begins symbol.CloseBrace ls) _ _ (reads_taken [] ls [] refl of_no_parameter)
    (reads_expect DerivesParameters ls [] symbol.Ident ls _ refl (full DerivesParameters [] [] of_no_parameter) (λ l sign_at e1 i1 at1.
    reads_expect DerivesParameters ls (l ∷ []) symbol.Assign sign_at _ at1
    (cut DerivesParameters (l ∷ []) (sign symbol.Assign ∷ sign symbol.True ∷ []) (l ∷ sign symbol.Assign ∷ sign symbol.True ∷ []) refl (parameter_ends l (sign symbol.Assign) (sign symbol.True ∷ []) ex i1 refl (example Releases))) (λ a inner e2 i2 at2.
    reads_part DerivesParameters (Derives Releases) ls (l ∷ a ∷ []) inner (expression_read false depth inner) _ at2 (expression_reads false depth inner) (λ q t d. parameter_ends l a q t i1 i2 d) (λ t rest q d e3 is.
    reads_expect DerivesParameters ls (l ∷ a ∷ q) symbol.Semicolon rest _ is (parameter_ends l a q t i1 i2 d) (λ s after e4 i4 at4.
    reads_last_after DerivesParameters DerivesParameters ls (l ∷ a ∷ q) rest s after (parameters_read depth after) (λ ds. parameter (word_of l) t ∷ ds) is e4 (parameters_reads depth after) (λ o ds c. of_parameter l a s q o t ds i1 i2 d i4 c))))))

-- what stands in braces
reads_braced : {A B : Type 0} (D : List Lexeme → B → Type 0) (P : List Lexeme → A → Type 0) (input p ls : List Lexeme) (F : List Lexeme → Answer A) (K : A → List Lexeme → Answer B) → input ≡ p ++ ls → Completes D p
    → ((inner : List Lexeme) → Reads P inner (F inner)) → ((before : Lexeme) (q : List Lexeme) (a : A) → Is symbol.OpenBrace before → P q a → Completes D (p ++ before ∷ q))
    → ((before last : Lexeme) (q after : List Lexeme) (a : A) → Is symbol.OpenBrace before → P q a → Is symbol.CloseBrace last → input ≡ (p ++ before ∷ q ++ last ∷ []) ++ after → Reads D input (K a after)) → Reads D input (braced F ls K)
reads_braced D P input p ls F K is c r f g =
    reads_expect D input p symbol.OpenBrace ls _ is c (λ before inner e1 i1 at1.
    reads_after D P input p ls before inner (F inner) _ is e1 (r inner) (λ q a d. f before q a i1 d) (λ a rest q d e2 is2.
    reads_expect D input (p ++ before ∷ q) symbol.CloseBrace rest _ is2 (f before q a i1 d) (λ last after e3 i3 at3. g before last q after a i1 d i3 at3)))

parameters_block : (l before last : Lexeme) (q o : List Lexeme) (ds : List Definition) (bs : List Block) → Is symbol.Parameters l → Is symbol.OpenBrace before → DerivesParameters q ds → Is symbol.CloseBrace last → DerivesBlocks o bs
    → DerivesBlocks (l ∷ before ∷ q ++ last ∷ [] ++ o) (parameters ds ∷ bs)
parameters_block l before last q o ds bs e f d g h = subst (λ x. DerivesBlocks x (parameters ds ∷ bs)) (sym (append_assoc (l ∷ before ∷ q) (last ∷ []) o)) (of_parameters l before last q o ds bs e f d g h)

definitions_block : (l before last : Lexeme) (q o : List Lexeme) (ds : List Definition) (bs : List Block) → Is symbol.Definitions l → Is symbol.OpenBrace before → DerivesDefinitions q ds → Is symbol.CloseBrace last → DerivesBlocks o bs
    → DerivesBlocks (l ∷ before ∷ q ++ last ∷ [] ++ o) (definitions ds ∷ bs)
definitions_block l before last q o ds bs e f d g h = subst (λ x. DerivesBlocks x (definitions ds ∷ bs)) (sym (append_assoc (l ∷ before ∷ q) (last ∷ []) o)) (of_definitions l before last q o ds bs e f d g h)

parameters_ends : (l before : Lexeme) (q : List Lexeme) (ds : List Definition) → Is symbol.Parameters l → Is symbol.OpenBrace before → DerivesParameters q ds → Completes DerivesBlocks (l ∷ before ∷ q)
parameters_ends l before q ds e f d = completes (sign symbol.CloseBrace ∷ []) (parameters ds ∷ []) (of_parameters l before (sign symbol.CloseBrace) q [] ds [] e f d refl of_no_block)

definitions_end : (l before : Lexeme) (q : List Lexeme) (ds : List Definition) → Is symbol.Definitions l → Is symbol.OpenBrace before → DerivesDefinitions q ds → Completes DerivesBlocks (l ∷ before ∷ q)
definitions_end l before q ds e f d = completes (sign symbol.CloseBrace ∷ []) (definitions ds ∷ []) (of_definitions l before (sign symbol.CloseBrace) q [] ds [] e f d refl of_no_block)

blocks_reads : (depth : ℕ) (ls : List Lexeme) → Reads DerivesBlocks ls (blocks_read depth ls)
blocks_reads zero ls = reads_lost
blocks_reads (suc depth) ls =
    reads_if_next DerivesBlocks ls symbol.Parameters ls _ _ (λ l inner e1 i1.
    reads_braced DerivesBlocks DerivesParameters ls (l ∷ []) inner (parameters_read depth) _ e1 (cut DerivesBlocks (l ∷ []) (sign symbol.OpenBrace ∷ []) (l ∷ sign symbol.OpenBrace ∷ []) refl (parameters_ends l (sign symbol.OpenBrace) [] [] i1 refl of_no_parameter))
    (λ after. parameters_reads depth after) (λ before q ds i d. parameters_ends l before q ds i1 i d) (λ before last q after ds i d j at.
    reads_last DerivesBlocks DerivesBlocks ls (l ∷ before ∷ q ++ last ∷ []) after (blocks_read depth after) (λ bs. parameters ds ∷ bs) at (blocks_reads depth after) (λ o bs c. parameters_block l before last q o ds bs i1 i d j c)))
    (reads_if_next DerivesBlocks ls symbol.Definitions ls _ _ (λ l inner e1 i1.
    reads_braced DerivesBlocks DerivesDefinitions ls (l ∷ []) inner (definitions_read depth) _ e1 (cut DerivesBlocks (l ∷ []) (sign symbol.OpenBrace ∷ []) (l ∷ sign symbol.OpenBrace ∷ []) refl (definitions_end l (sign symbol.OpenBrace) [] [] i1 refl of_no_definition))
    (λ after. definitions_reads depth after) (λ before q ds i d. definitions_end l before q ds i1 i d) (λ before last q after ds i d j at.
    reads_last DerivesBlocks DerivesBlocks ls (l ∷ before ∷ q ++ last ∷ []) after (blocks_read depth after) (λ bs. definitions ds ∷ bs) at (blocks_reads depth after) (λ o bs c. definitions_block l before last q o ds bs i1 i d j c)))
    (reads_taken [] ls [] refl of_no_block))

-- MAIN

-- one declaration
pub record IsDeclaration (q : List Lexeme) (d : Declaration) : Type 0 where
  before : (ms : List Lexeme) (ds : List Declaration) → DerivesDeclarations ms ds → DerivesDeclarations (q ++ ms) (d ∷ ds)

single_is : (l s : Lexeme) → Is symbol.Ident l → Is symbol.Semicolon s → IsDeclaration (l ∷ s ∷ []) (record { word = word_of l; shape = single })
single_is l s e f = record { before = λ ms ds d. of_single l s ms ds e f d }

bus_is : (l before last s : Lexeme) (q : List Lexeme) (t : Tree) → Is symbol.Ident l → Is symbol.OpenBracket before → Derives Releases q t → Is symbol.CloseBracket last → Is symbol.Semicolon s
    → IsDeclaration (l ∷ before ∷ q ++ last ∷ s ∷ []) (record { word = word_of l; shape = bus t })
bus_is l before last s q t e f d g h = record {
  before = λ ms ds c. subst (λ x. DerivesDeclarations x (record { word = word_of l; shape = bus t } ∷ ds)) (sym (append_assoc (l ∷ before ∷ q) (last ∷ s ∷ []) ms)) (of_bus l before last s q ms t ds e f d g h c);
}

typed_is : (t l s : Lexeme) → Is symbol.Ident t → Is symbol.Ident l → Is symbol.Semicolon s → IsDeclaration (t ∷ l ∷ s ∷ []) (record { word = word_of l; shape = typed (word_of t) })
typed_is t l s e f g = record { before = λ ms ds d. of_typed t l s ms ds e f g d }

declaration_begins : (l : Lexeme) → Is symbol.Ident l → Completes IsDeclaration (l ∷ [])
declaration_begins l e = completes (sign symbol.Semicolon ∷ []) (record { word = word_of l; shape = single }) (single_is l (sign symbol.Semicolon) e refl)

bus_ends : (l before : Lexeme) (q : List Lexeme) (t : Tree) → Is symbol.Ident l → Is symbol.OpenBracket before → Derives Releases q t → Completes IsDeclaration (l ∷ before ∷ q)
bus_ends l before q t e f d = completes (sign symbol.CloseBracket ∷ sign symbol.Semicolon ∷ []) (record { word = word_of l; shape = bus t }) (bus_is l before (sign symbol.CloseBracket) (sign symbol.Semicolon) q t e f d refl refl)

bus_closed : (l before last : Lexeme) (q : List Lexeme) (t : Tree) → Is symbol.Ident l → Is symbol.OpenBracket before → Derives Releases q t → Is symbol.CloseBracket last → Completes IsDeclaration (l ∷ before ∷ q ++ last ∷ [])
bus_closed l before last q t e f d g = completes (sign symbol.Semicolon ∷ []) (record { word = word_of l; shape = bus t }) (subst (λ x. IsDeclaration x (record { word = word_of l; shape = bus t })) (sym (append_assoc (l ∷ before ∷ q) (last ∷ []) (sign symbol.Semicolon ∷ []))) (bus_is l before last (sign symbol.Semicolon) q t e f d g refl))

declaration_reads : (depth : ℕ) (ls : List Lexeme) → Reads IsDeclaration ls (declaration_read depth ls)
declaration_reads depth ls =
    reads_expect IsDeclaration ls [] symbol.Ident ls _ refl (cut IsDeclaration [] (sign symbol.Ident ∷ []) (sign symbol.Ident ∷ []) refl (declaration_begins (sign symbol.Ident) refl)) (λ l after_word e1 i1 at.
    reads_if_next IsDeclaration ls symbol.Semicolon after_word _ _ (λ s after e2 i2. reads_taken (record { word = word_of l; shape = single }) after (l ∷ s ∷ []) (at ∙ ap (λ x. l ∷ x) e2) (single_is l s i1 i2))
    (reads_if_next IsDeclaration ls symbol.OpenBracket after_word _ _ (λ before inner e2 i2.
    reads_after IsDeclaration (Derives Releases) ls (l ∷ []) after_word before inner (expression_read false depth inner) _ at e2 (expression_reads false depth inner) (λ q t d. bus_ends l before q t i1 i2 d) (λ t rest q d e3 is.
    reads_expect IsDeclaration ls (l ∷ before ∷ q) symbol.CloseBracket rest _ is (bus_ends l before q t i1 i2 d) (λ last semicolon_at e4 i4 at4.
    reads_expect IsDeclaration ls (l ∷ before ∷ q ++ last ∷ []) symbol.Semicolon semicolon_at _ at4 (bus_closed l before last q t i1 i2 d i4) (λ s after e5 i5 at5.
    reads_taken (record { word = word_of l; shape = bus t }) after (l ∷ before ∷ q ++ last ∷ s ∷ []) (at5 ∙ ap (λ x. x ++ after) (append_assoc (l ∷ before ∷ q) (last ∷ []) (s ∷ []))) (bus_is l before last s q t i1 i2 d i4 i5)))))
    (reads_expect IsDeclaration ls (l ∷ []) symbol.Ident after_word _ at (declaration_begins l i1) (λ n semicolon_at e2 i2 at2.
    reads_expect IsDeclaration ls (l ∷ n ∷ []) symbol.Semicolon semicolon_at _ at2
    (completes (sign symbol.Semicolon ∷ []) (record { word = word_of n; shape = typed (word_of l) }) (typed_is l n (sign symbol.Semicolon) i1 i2 refl)) (λ s after e3 i3 at3.
    reads_taken (record { word = word_of n; shape = typed (word_of l) }) after (l ∷ n ∷ s ∷ []) at3 (typed_is l n s i1 i2 i3))))))

declarations_reads : (depth : ℕ) (ls : List Lexeme) → Reads DerivesDeclarations ls (declarations_read depth ls)
declarations_reads zero ls = reads_lost
declarations_reads (suc depth) ls =
    reads_cond DerivesDeclarations ls (begins symbol.CloseBrace ls) _ _ (reads_taken [] ls [] refl of_no_declaration)
    (reads_part DerivesDeclarations IsDeclaration ls [] ls (declaration_read depth ls) _ refl (declaration_reads depth ls)
    (λ q d h. completes [] (d ∷ []) (h.before [] [] of_no_declaration))
    (λ d rest q h e is. reads_last DerivesDeclarations DerivesDeclarations ls q rest (declarations_read depth rest) (λ ds. d ∷ ds) is (declarations_reads depth rest) (λ o ds c. h.before o ds c)))

formula_ends : (q : List Lexeme) (t : Tree) → Derives Releases q t → Completes DerivesFormulas q
formula_ends q t d = completes (sign symbol.Semicolon ∷ []) (t ∷ []) (of_formula (sign symbol.Semicolon) q [] t [] d refl of_no_formula)

formulas_reads : (depth : ℕ) (ls : List Lexeme) → Reads DerivesFormulas ls (formulas_read depth ls)
formulas_reads zero ls = reads_lost
formulas_reads (suc depth) ls =
    reads_cond DerivesFormulas ls (begins symbol.CloseBrace ls) _ _ (reads_taken [] ls [] refl of_no_formula)
    (reads_part DerivesFormulas (Derives Releases) ls [] ls (expression_read false depth ls) _ refl (expression_reads false depth ls) (λ q t d. formula_ends q t d) (λ t rest q d e is.
    reads_expect DerivesFormulas ls q symbol.Semicolon rest _ is (formula_ends q t d) (λ s after e2 i2 at2.
    reads_last_after DerivesFormulas DerivesFormulas ls q rest s after (formulas_read depth after) (λ ts. t ∷ ts) is e2 (formulas_reads depth after) (λ o ts c. of_formula s q o t ts d i2 c))))

-- one part of MAIN
pub record IsPart (q : List Lexeme) (p : Part) : Type 0 where
  before : (ms : List Lexeme) (ps : List Part) → DerivesParts ms ps → DerivesParts (q ++ ms) (p ∷ ps)

-- a part is a word, and what stands in braces
part_in_braces : {A : Type 0} (P : List Lexeme → A → Type 0) (f : A → Part) (l : Lexeme) (ls : List Lexeme) (F : List Lexeme → Answer A) → ((inner : List Lexeme) → Reads P inner (F inner)) → (nothing : A) → P [] nothing
    → ((before last : Lexeme) (q ms : List Lexeme) (a : A) (ps : List Part) → Is symbol.OpenBrace before → P q a → Is symbol.CloseBrace last → DerivesParts ms ps → DerivesParts (l ∷ before ∷ q ++ last ∷ ms) (f a ∷ ps))
    → Reads IsPart (l ∷ ls) (braced F ls (λ a after. taken (f a) after))
part_in_braces {A = A} P f l ls F r nothing empty make =
    reads_braced IsPart P (l ∷ ls) (l ∷ []) ls F _ refl (cut IsPart (l ∷ []) (sign symbol.OpenBrace ∷ []) (l ∷ sign symbol.OpenBrace ∷ []) refl (ends (sign symbol.OpenBrace) [] nothing refl empty)) r (λ before q a i d. ends before q a i d)
    (λ before last q after a i d j at. reads_taken (f a) after (l ∷ before ∷ q ++ last ∷ []) at (is before last q a i d j))
  where
    is : (before last : Lexeme) (q : List Lexeme) (a : A) → Is symbol.OpenBrace before → P q a → Is symbol.CloseBrace last → IsPart (l ∷ before ∷ q ++ last ∷ []) (f a)
    is before last q a i d j = record { before = λ ms ps c. subst (λ x. DerivesParts x (f a ∷ ps)) (sym (append_assoc (l ∷ before ∷ q) (last ∷ []) ms)) (make before last q ms a ps i d j c) }

    ends : (before : Lexeme) (q : List Lexeme) (a : A) → Is symbol.OpenBrace before → P q a → Completes IsPart (l ∷ before ∷ q)
    ends before q a i d = completes (sign symbol.CloseBrace ∷ []) (f a) (is before (sign symbol.CloseBrace) q a i d refl)

part_begins : Completes IsPart []
part_begins = completes (sign symbol.Inputs ∷ sign symbol.OpenBrace ∷ sign symbol.CloseBrace ∷ []) (inputs []) (record { before = λ ms ps c. of_inputs (sign symbol.Inputs) (sign symbol.OpenBrace) (sign symbol.CloseBrace) [] ms [] ps refl refl of_no_declaration refl c })

part_reads : (depth : ℕ) (s : Symbol) (l : Lexeme) (ls : List Lexeme) → Is s l → Reads IsPart (l ∷ ls) (part_by depth s ls)
part_reads depth symbol.Inputs l ls e =
    part_in_braces DerivesDeclarations (λ ds. inputs ds) l ls (declarations_read depth) (λ inner. declarations_reads depth inner) [] of_no_declaration (λ before last q ms ds ps i d j c. of_inputs l before last q ms ds ps e i d j c)
part_reads depth symbol.Outputs l ls e =
    part_in_braces DerivesDeclarations (λ ds. outputs ds) l ls (declarations_read depth) (λ inner. declarations_reads depth inner) [] of_no_declaration (λ before last q ms ds ps i d j c. of_outputs l before last q ms ds ps e i d j c)
part_reads depth (symbol.Section s) l ls e =
    part_in_braces DerivesFormulas (λ ts. section s ts) l ls (formulas_read depth) (λ inner. formulas_reads depth inner) [] of_no_formula (λ before last q ms ts ps i d j c. of_section l before last s q ms ts ps e i d j c)
part_reads depth _ l ls e = reads_refused (suc (length ls)) (opens_here IsPart (l ∷ ls) [] (l ∷ ls) refl part_begins)

parts_reads : (depth : ℕ) (ls : List Lexeme) → Reads DerivesParts ls (parts_read depth ls)
parts_reads zero ls = reads_lost
parts_reads (suc depth) [] = reads_refused 0 (opens_here DerivesParts [] [] [] refl (full DerivesParts [] [] of_no_part))
parts_reads (suc depth) (l ∷ ls) =
    reads_cond DerivesParts (l ∷ ls) (symbol_eq l.symbol symbol.CloseBrace) _ _ (reads_taken [] (l ∷ ls) [] refl of_no_part)
    (reads_part DerivesParts IsPart (l ∷ ls) [] (l ∷ ls) (part_by depth l.symbol ls) _ refl (part_reads depth l.symbol l ls refl)
    (λ q p h. completes [] (p ∷ []) (h.before [] [] of_no_part))
    (λ p rest q h e is. reads_last DerivesParts DerivesParts (l ∷ ls) q rest (parts_read depth rest) (λ ps. p ∷ ps) is (parts_reads depth rest) (λ o ps c. h.before o ps c)))

-- MAIN after these fields and blocks
pub record IsMain (fs : List Field) (bs : List Block) (q : List Lexeme) (w : Written) : Type 0 where
  fields : w.fields ≡ fs
  blocks : w.blocks ≡ bs
  parts : DerivesMain q w.parts

main_ends : (fs : List Field) (bs : List Block) (l before : Lexeme) (q : List Lexeme) (ps : List Part) → Is symbol.Main l → Is symbol.OpenBrace before → DerivesParts q ps → Completes (IsMain fs bs) (l ∷ before ∷ q)
main_ends fs bs l before q ps e f d = completes (sign symbol.CloseBrace ∷ []) (record { fields = fs; blocks = bs; parts = ps }) (record { fields = refl; blocks = refl; parts = of_main l before (sign symbol.CloseBrace) q ps e f d refl })

main_begins : (fs : List Field) (bs : List Block) (l : Lexeme) → Is symbol.Main l → Completes (IsMain fs bs) (l ∷ [])
main_begins fs bs l e = cut (IsMain fs bs) (l ∷ []) (sign symbol.OpenBrace ∷ []) (l ∷ sign symbol.OpenBrace ∷ []) refl (main_ends fs bs l (sign symbol.OpenBrace) [] [] e refl of_no_part)

main_reads : (depth : ℕ) (fs : List Field) (bs : List Block) (ls : List Lexeme) → Reads (IsMain fs bs) ls (main_read depth fs bs ls)
main_reads depth fs bs ls =
    reads_expect (IsMain fs bs) ls [] symbol.Main ls _ refl (cut (IsMain fs bs) [] (sign symbol.Main ∷ []) (sign symbol.Main ∷ []) refl (main_begins fs bs (sign symbol.Main) refl)) (λ l inner e1 i1 at.
    reads_braced (IsMain fs bs) DerivesParts ls (l ∷ []) inner (parts_read depth) _ at (main_begins fs bs l i1) (λ after. parts_reads depth after) (λ before q ps i d. main_ends fs bs l before q ps i1 i d) (λ before last q after ps i d j at2.
    reads_taken (record { fields = fs; blocks = bs; parts = ps }) after (l ∷ before ∷ q ++ last ∷ []) at2 (record { fields = refl; blocks = refl; parts = of_main l before last q ps i1 i d j })))

-- what stands after INFO
pub record IsAfterInfo (fs : List Field) (q : List Lexeme) (w : Written) : Type 0 where
  fields : w.fields ≡ fs
  first : List Lexeme
  second : List Lexeme
  is : q ≡ first ++ second
  blocks : DerivesGlobal first w.blocks
  parts : DerivesMain second w.parts

without_global : (fs : List Field) (q : List Lexeme) (w : Written) → IsMain fs [] q w → IsAfterInfo fs q w
without_global fs q w m = record { fields = m.fields; first = []; second = q; is = refl; blocks = subst (DerivesGlobal []) (sym m.blocks) of_no_global; parts = m.parts }

with_global : (fs : List Field) (l before last : Lexeme) (q ms : List Lexeme) (bs : List Block) (w : Written) → Is symbol.Global l → Is symbol.OpenBrace before → DerivesBlocks q bs → Is symbol.CloseBrace last → IsMain fs bs ms w
    → IsAfterInfo fs (l ∷ before ∷ q ++ last ∷ [] ++ ms) w
with_global fs l before last q ms bs w e f d g m = record {
  fields = m.fields;
  first = l ∷ before ∷ q ++ last ∷ [];
  second = ms;
  is = refl;
  blocks = subst (DerivesGlobal (l ∷ before ∷ q ++ last ∷ [])) (sym m.blocks) (of_global l before last q bs e f d g);
  parts = m.parts;
}

ex_main : (fs : List Field) (bs : List Block) → IsMain fs bs (sign symbol.Main ∷ sign symbol.OpenBrace ∷ sign symbol.CloseBrace ∷ []) (record { fields = fs; blocks = bs; parts = [] })
ex_main fs bs = record { fields = refl; blocks = refl; parts = of_main (sign symbol.Main) (sign symbol.OpenBrace) (sign symbol.CloseBrace) [] [] refl refl of_no_part refl }

after_info_begins : (fs : List Field) → Completes (IsAfterInfo fs) []
after_info_begins fs = completes (sign symbol.Main ∷ sign symbol.OpenBrace ∷ sign symbol.CloseBrace ∷ []) (record { fields = fs; blocks = []; parts = [] }) (without_global fs (sign symbol.Main ∷ sign symbol.OpenBrace ∷ sign symbol.CloseBrace ∷ []) (record { fields = fs; blocks = []; parts = [] }) (ex_main fs []))

global_closed : (fs : List Field) (l before last : Lexeme) (q : List Lexeme) (bs : List Block) → Is symbol.Global l → Is symbol.OpenBrace before → DerivesBlocks q bs → Is symbol.CloseBrace last → Completes (IsAfterInfo fs) (l ∷ before ∷ q ++ last ∷ [])
global_closed fs l before last q bs e f d g = completes (sign symbol.Main ∷ sign symbol.OpenBrace ∷ sign symbol.CloseBrace ∷ []) (record { fields = fs; blocks = bs; parts = [] }) (with_global fs l before last q (sign symbol.Main ∷ sign symbol.OpenBrace ∷ sign symbol.CloseBrace ∷ []) bs (record { fields = fs; blocks = bs; parts = [] }) e f d g (ex_main fs bs))

global_ends : (fs : List Field) (l before : Lexeme) (q : List Lexeme) (bs : List Block) → Is symbol.Global l → Is symbol.OpenBrace before → DerivesBlocks q bs → Completes (IsAfterInfo fs) (l ∷ before ∷ q)
global_ends fs l before q bs e f d = cut (IsAfterInfo fs) (l ∷ before ∷ q) (sign symbol.CloseBrace ∷ []) (l ∷ before ∷ q ++ sign symbol.CloseBrace ∷ []) refl (global_closed fs l before (sign symbol.CloseBrace) q bs e f d refl)

after_info_reads : (depth : ℕ) (fs : List Field) (ls : List Lexeme) → Reads (IsAfterInfo fs) ls (after_info depth fs ls)
after_info_reads depth fs ls =
    reads_if_next (IsAfterInfo fs) ls symbol.Global ls _ _ (λ l inner e1 i1.
    reads_braced (IsAfterInfo fs) DerivesBlocks ls (l ∷ []) inner (blocks_read depth) _ e1 (cut (IsAfterInfo fs) (l ∷ []) (sign symbol.OpenBrace ∷ []) (l ∷ sign symbol.OpenBrace ∷ []) refl (global_ends fs l (sign symbol.OpenBrace) [] [] i1 refl of_no_block))
    (λ after. blocks_reads depth after) (λ before q bs i d. global_ends fs l before q bs i1 i d) (λ before last q after bs i d j at.
    whole_main (l ∷ before ∷ q ++ last ∷ []) after (main_read depth fs bs after) (IsMain fs bs) at (main_reads depth fs bs after) (λ o w m. with_global fs l before last q o bs w i1 i d j m)))
    (whole_main [] ls (main_read depth fs [] ls) (IsMain fs []) refl (main_reads depth fs [] ls) (λ q w m. without_global fs q w m))
  where
    whole_main : (p after : List Lexeme) (x : Answer Written) (P : List Lexeme → Written → Type 0) → ls ≡ p ++ after → Reads P after x → ((q : List Lexeme) (w : Written) → P q w → IsAfterInfo fs (p ++ q) w) → Reads (IsAfterInfo fs) ls x
    whole_main p after x P e (reads_taken w rest q is d) make = reads_taken w rest (p ++ q) (joined_front ls p after q rest e is) (make q w d)
    whole_main p after x P e (reads_refused k o) make = reads_refused k (lift (IsAfterInfo fs) P ls p after k e (λ q w d. full (IsAfterInfo fs) (p ++ q) w (make q w d)) o)
    whole_main p after x P e reads_lost make = reads_lost

text_is : (l before last : Lexeme) (q ms : List Lexeme) (fs : List Field) (w : Written) → Is symbol.Info l → Is symbol.OpenBrace before → DerivesFields q fs → Is symbol.CloseBrace last → IsAfterInfo fs ms w
    → DerivesText (l ∷ before ∷ q ++ last ∷ [] ++ ms) w
text_is l before last q ms fs w e f d g m =
    subst (λ x. DerivesText x w) (append_assoc (l ∷ before ∷ q ++ last ∷ []) m.first m.second ∙ ap (λ x. (l ∷ before ∷ q ++ last ∷ []) ++ x) (sym m.is))
    (of_text (l ∷ before ∷ q ++ last ∷ []) m.first m.second w (subst (DerivesInfo (l ∷ before ∷ q ++ last ∷ [])) (sym m.fields) (of_info l before last q fs e f d g)) m.blocks m.parts)

info_closed : (l before last : Lexeme) (q : List Lexeme) (fs : List Field) → Is symbol.Info l → Is symbol.OpenBrace before → DerivesFields q fs → Is symbol.CloseBrace last → Completes DerivesText (l ∷ before ∷ q ++ last ∷ [])
info_closed l before last q fs e f d g = let c : Completes (IsAfterInfo fs) [] = after_info_begins fs in completes c.more c.value (text_is l before last q c.more fs c.value e f d g c.derived)

info_ends : (l before : Lexeme) (q : List Lexeme) (fs : List Field) → Is symbol.Info l → Is symbol.OpenBrace before → DerivesFields q fs → Completes DerivesText (l ∷ before ∷ q)
info_ends l before q fs e f d = cut DerivesText (l ∷ before ∷ q) (sign symbol.CloseBrace ∷ []) (l ∷ before ∷ q ++ sign symbol.CloseBrace ∷ []) refl (info_closed l before (sign symbol.CloseBrace) q fs e f d refl)

info_begins : (l : Lexeme) → Is symbol.Info l → Completes DerivesText (l ∷ [])
info_begins l e = cut DerivesText (l ∷ []) (sign symbol.OpenBrace ∷ []) (l ∷ sign symbol.OpenBrace ∷ []) refl (info_ends l (sign symbol.OpenBrace) [] [] e refl of_no_field)

pub text_reads : (depth : ℕ) (ls : List Lexeme) → Reads DerivesText ls (text_read depth ls)
text_reads depth ls =
    reads_expect DerivesText ls [] symbol.Info ls _ refl (cut DerivesText [] (sign symbol.Info ∷ []) (sign symbol.Info ∷ []) refl (info_begins (sign symbol.Info) refl)) (λ l inner e1 i1 at.
    reads_braced DerivesText DerivesFields ls (l ∷ []) inner (fields_read depth) _ at (info_begins l i1) (λ after. fields_reads depth after) (λ before q fs i d. info_ends l before q fs i1 i d) (λ before last q after fs i d j at2.
    whole_rest l before last q after fs i1 i d j at2 (after_info depth fs after) (after_info_reads depth fs after)))
  where
    whole_rest : (l before last : Lexeme) (q after : List Lexeme) (fs : List Field) → Is symbol.Info l → Is symbol.OpenBrace before → DerivesFields q fs → Is symbol.CloseBrace last → ls ≡ (l ∷ before ∷ q ++ last ∷ []) ++ after
        → (x : Answer Written) → Reads (IsAfterInfo fs) after x → Reads DerivesText ls x
    whole_rest l before last q after fs e f d g is x (reads_taken w rest o is2 m) = reads_taken w rest (l ∷ before ∷ q ++ last ∷ [] ++ o) (joined_front ls (l ∷ before ∷ q ++ last ∷ []) after o rest is is2) (text_is l before last q o fs w e f d g m)
    whole_rest l before last q after fs e f d g is x (reads_refused k o) =
        reads_refused k (lift DerivesText (IsAfterInfo fs) ls (l ∷ before ∷ q ++ last ∷ []) after k is (λ o w m. full DerivesText (l ∷ before ∷ q ++ last ∷ [] ++ o) w (text_is l before last q o fs w e f d g m)) o)
    whole_rest l before last q after fs e f d g is x reads_lost = reads_lost
