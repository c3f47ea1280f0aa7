-- Whole texts: a lexeme is refused whatever comes after it.
use Rattle.std.proofs.Common.{◌≡◌, ℕ, zero, suc, Bool, true, false, ◌&&◌, cond, List, [], ◌∷◌, ◌++◌, length, Option, None, Some, refl, sym, ap, subst, arith}
use Rattle.std.specs.Option.{is_some}
use Rattle.letters_and_lassos.specs.declared.kinds.Kind.{Kind}
use Rattle.tlsf_tokens.specs.declared.symbol.Symbol.{Symbol}
use Rattle.tlsf_tokens.specs.declared.symbol.Symbol.TheVariants as symbol
use Rattle.tlsf_syntax.specs.Tree.{Named, Tree, plain, guarded, Pattern, Member, Definition, parameter, function, enumeration, single, bus, typed, Field, title, description, semantics, target, tags, Block, parameters, definitions, inputs, outputs, section, Written}
use Rattle.tlsf_syntax.specs.Lexemes.{Lexeme, Is, word_of}
use Rattle.tlsf_syntax.specs.Symbols.{symbol_eq}
use Rattle.tlsf_syntax.specs.declared.level.Level.TheVariants.{Releases}
use Rattle.tlsf_syntax.specs.Expressions.{big_of}
use Rattle.tlsf_syntax.specs.Texts.{unquoted, bits_of}
use Rattle.tlsf_syntax.specs.Reading.{Answer, taken, refused, lost, go_on, begins, expect, if_next, from_to, readers}
use Rattle.tlsf_syntax.specs.TextReading.{names_read, kind_of, is_strict, kinded, expect_strict, expect_kind, semantics_read, target_read, tags_read, field_by, fields_read, Value, goes_on_value, value_read, valued, pattern_read, patterns_read, begins_member, members_read, expression_read, guard_read, alternative_of, alternatives_read, body_read, function_read, definition_read, definitions_read, parameters_read, braced, blocks_read, declaration_read, declarations_read, formulas_read, part_by, parts_read, main_read, after_info, text_read}
use Rattle.tlsf_syntax.proofs.Symbols.{same_symbol}
use Rattle.tlsf_syntax.proofs.Agreement.{steady_test, Fork, Leaves, leaves_taken, leaves_refused, leaves_lost, Passes, passing, stopping, Agrees, both_taken, both_pass, Steady, rewritten, go_leaves, go_agrees, steady_go_on, steady_after, steady_taken, steady_lost, steady_expect, steady_if_next, steady_begins, Step, steps_on, step_refused, steps_as, steady_front, Stop, goes_through, Agreeing, mapped, left_after, readers_agree}

-- one form after another
next : {A B : Type 0} (e : Fork) (F : List Lexeme → Answer A) (K : A → List Lexeme → Answer B) → Steady ⊥ e F → ((a : A) → Steady ⊥ e (K a)) → Steady ⊥ e (λ ls. go_on (F ls) K)
next e F K f g = steady_after ⊥ ⊥ e F K (λ n. n) f g

-- a whole expression that no other one follows
expression_then : {B : Type 0} (e : Fork) (depth : ℕ) (K : Tree → List Lexeme → Answer B) → ((t : Tree) → Steady ⊥ e (K t)) → Steady ⊥ e (λ ls. go_on (expression_read false depth ls) K)
expression_then e depth K g =
    let h : Agreeing e (readers depth) = readers_agree e depth in
    steady_after ⊥ (Stop e.last false) e (expression_read false depth) K (goes_through e.last) (h.level false Releases) g

-- parts until a closing brace
steady_parts : {A : Type 0} {B : Type 0} (e : Fork) (b : Symbol) (nothing : B) (P : Symbol → List Lexeme → Answer A) (K : A → List Lexeme → Answer B) (G : List Lexeme → Answer B) → Leaves 0 (G [])
    → ((l : Lexeme) (ls : List Lexeme) → G (l ∷ ls) ≡ cond (symbol_eq l.symbol b) (taken nothing (l ∷ ls)) (go_on (P l.symbol ls) K)) → ((s : Symbol) (l : Lexeme) → Step ⊥ e l (P s)) → ((a : A) → Steady ⊥ e (K a)) → Steady ⊥ e G
steady_parts e b nothing P K G none_left is h g = steady_front ⊥ e G (λ l ls. cond (symbol_eq l.symbol b) (taken nothing (l ∷ ls)) (go_on (P l.symbol ls) K)) none_left is (λ l. by l (symbol_eq l.symbol b) (h l.symbol l))
  where
    by : (l : Lexeme) (c : Bool) → Step ⊥ e l (P l.symbol) → Step ⊥ e l (λ ls. cond c (taken nothing (l ∷ ls)) (go_on (P l.symbol ls) K))
    by l true t = steps_as (λ ls. taken nothing ls) (steady_taken ⊥ e nothing) (λ ls. refl)
    by l false (steps_on t) = steps_on (next e (P l.symbol) K t g)
    by l false (step_refused r) = step_refused (λ ls. ap (λ x. go_on x K) (r ls))
    by l false (steps_as F f r) = steps_as (λ ls. go_on (F ls) K) (next e F K f g) (λ ls. ap (λ x. go_on x K) (r ls))

-- names

names_steady : (e : Fork) (depth : ℕ) → Steady ⊥ e (names_read depth)
names_steady e zero = steady_lost ⊥ e
names_steady e (suc depth) =
    steady_expect ⊥ e symbol.Ident _ (λ l. steady_if_next ⊥ e symbol.Comma _ _ (λ _. next e (names_read depth) _ (names_steady e depth) (λ ws. steady_taken ⊥ e _)) (steady_taken ⊥ e _))

-- fields

kinded_step : {A : Type 0} (e : Fork) (l : Lexeme) (o : Option Kind) (f : Kind → List Lexeme → Answer A) → ((k : Kind) → Steady ⊥ e (f k)) → Step ⊥ e l (λ ls. kinded o ls f)
kinded_step e l None f g = step_refused (λ ls. refl)
kinded_step e l (Some k) f g = steps_on (g k)

kind_steady : {A : Type 0} (e : Fork) (f : Kind → List Lexeme → Answer A) → ((k : Kind) → Steady ⊥ e (f k)) → Steady ⊥ e (λ ls. expect_kind ls f)
kind_steady e f g = steady_front ⊥ e (λ ls. expect_kind ls f) (λ l ls. kinded (kind_of l) ls f) (leaves_refused 0 (omega arith)) (λ l ls. refl) (λ l. kinded_step e l (kind_of l) f g)

strict_steady : {A : Type 0} (e : Fork) (f : List Lexeme → Answer A) → Steady ⊥ e f → Steady ⊥ e (λ ls. expect_strict ls f)
strict_steady e f g = steady_front ⊥ e (λ ls. expect_strict ls f) (λ l ls. cond (is_strict l) (f ls) (refused (suc (length ls)))) (leaves_refused 0 (omega arith)) (λ l ls. refl) (λ l. by l (is_strict l))
  where
    by : (l : Lexeme) (b : Bool) → Step ⊥ e l (λ ls. cond b (f ls) (refused (suc (length ls))))
    by l true = steps_on g
    by l false = step_refused (λ ls. refl)

abbrev kind_first : Lexeme → List Lexeme → Answer Field
kind_first l ls = kinded (kind_of l) ls (λ k rest. if_next symbol.Comma rest (λ _ inner. expect_strict inner (λ after. taken (semantics k true) after)) (taken (semantics k false) rest))

semantics_steady : (e : Fork) → Steady ⊥ e semantics_read
semantics_steady e =
    steady_front ⊥ e semantics_read (λ l ls. cond (is_strict l) (expect symbol.Comma ls (λ _ rest. expect_kind rest (λ k after. taken (semantics k true) after))) (kind_first l ls)) (leaves_refused 0 (omega arith)) (λ l ls. refl) (λ l. by l (is_strict l))
  where
    by : (l : Lexeme) (b : Bool) → Step ⊥ e l (λ ls. cond b (expect symbol.Comma ls (λ _ rest. expect_kind rest (λ k after. taken (semantics k true) after))) (kind_first l ls))
    by l true = steps_on (steady_expect ⊥ e symbol.Comma _ (λ _. kind_steady e _ (λ k. steady_taken ⊥ e (semantics k true))))
    by l false = kinded_step e l (kind_of l) _ (λ k. steady_if_next ⊥ e symbol.Comma _ _ (λ _. strict_steady e _ (steady_taken ⊥ e (semantics k true))) (steady_taken ⊥ e (semantics k false)))

target_steady : (e : Fork) → Steady ⊥ e target_read
target_steady e = steady_front ⊥ e target_read (λ l ls. kinded (kind_of l) ls (λ k after. taken (target k l.start) after)) (leaves_refused 0 (omega arith)) (λ l ls. refl) (λ l. kinded_step e l (kind_of l) _ (λ k. steady_taken ⊥ e (target k l.start)))

tags_steady : (e : Fork) (depth : ℕ) → Steady ⊥ e (tags_read depth)
tags_steady e depth = steady_begins ⊥ e symbol.Ident _ _ (next e (names_read depth) _ (names_steady e depth) (λ ws. steady_taken ⊥ e (tags ws))) (steady_taken ⊥ e (tags []))

field_step : (e : Fork) (depth : ℕ) (s : Symbol) (l : Lexeme) → Step ⊥ e l (field_by depth s)
field_step e depth symbol.Title l = steps_on (steady_expect ⊥ e symbol.Colon _ (λ _. steady_expect ⊥ e symbol.Text _ (λ t. steady_taken ⊥ e (title (unquoted t.text)))))
field_step e depth symbol.Description l = steps_on (steady_expect ⊥ e symbol.Colon _ (λ _. steady_expect ⊥ e symbol.Text _ (λ t. steady_taken ⊥ e (description (unquoted t.text)))))
field_step e depth symbol.Semantics l = steps_on (steady_expect ⊥ e symbol.Colon _ (λ _. semantics_steady e))
field_step e depth symbol.Target l = steps_on (steady_expect ⊥ e symbol.Colon _ (λ _. target_steady e))
field_step e depth symbol.Tags l = steps_on (steady_expect ⊥ e symbol.Colon _ (λ _. tags_steady e depth))
field_step e depth _ l = step_refused (λ ls. refl)

fields_steady : (e : Fork) (depth : ℕ) → Steady ⊥ e (fields_read depth)
fields_steady e zero = steady_lost ⊥ e
fields_steady e (suc depth) =
    steady_parts e symbol.CloseBrace [] (field_by depth) (λ f rest. go_on (fields_read depth rest) (λ fs after. taken (f ∷ fs) after)) (fields_read (suc depth)) (leaves_refused 0 (omega arith)) (λ l ls. refl) (field_step e depth)
    (λ f. next e (fields_read depth) _ (fields_steady e depth) (λ fs. steady_taken ⊥ e (f ∷ fs)))

-- enumerations

value_steady : (e : Fork) (depth : ℕ) → Steady ⊥ e (value_read depth)
value_steady e zero = steady_lost ⊥ e
value_steady e (suc depth) = steady_front ⊥ e (value_read (suc depth)) (λ l ls. valued (bits_of l.symbol l.text) l ls (value_read depth)) (leaves_refused 0 (omega arith)) (λ l ls. refl) (λ l. by (value_steady e depth) l (bits_of l.symbol l.text))
  where
    by : Steady ⊥ e (value_read depth) → (l : Lexeme) (o : Option (List (Option Bool))) → Step ⊥ e l (λ ls. valued o l ls (value_read depth))
    by rest l None = step_refused (λ ls. refl)
    by rest l (Some bs) =
        steps_on (steady_test ⊥ e (goes_on_value l.end) _ _ (λ m ls. refl) (next e (value_read depth) _ rest (λ v. steady_taken ⊥ e (record { bits = bs ++ v.bits; end = v.end })))
        (steady_taken ⊥ e (record { bits = bs; end = l.end })))

pattern_steady : (e : Fork) (depth : ℕ) → Steady ⊥ e (pattern_read depth)
pattern_steady e depth = steady_front ⊥ e (pattern_read depth) (λ l ls. go_on (value_read depth (l ∷ ls)) (pattern_of l)) (leaves_refused 0 (omega arith)) (λ l ls. refl) (λ l.
    steps_as (λ ls. go_on (value_read depth ls) (pattern_of l)) (next e (value_read depth) (pattern_of l) (value_steady e depth) (λ v. steady_taken ⊥ e (record { bits = v.bits; span = from_to l.start v.end }))) (λ ls. refl))
  where
    pattern_of : Lexeme → Value → List Lexeme → Answer Pattern
    pattern_of l v rest = taken (record { bits = v.bits; span = from_to l.start v.end }) rest

patterns_steady : (e : Fork) (depth : ℕ) → Steady ⊥ e (patterns_read depth)
patterns_steady e zero = steady_lost ⊥ e
patterns_steady e (suc depth) =
    next e (pattern_read depth) _ (pattern_steady e depth) (λ p. steady_if_next ⊥ e symbol.Comma _ _ (λ _. next e (patterns_read depth) _ (patterns_steady e depth) (λ ps. steady_taken ⊥ e (p ∷ ps))) (steady_taken ⊥ e (p ∷ [])))

-- an enumeration may end before a name
abbrev NameStop : Fork → Type 0
NameStop e = Is symbol.Ident e.last

-- a form that begins with a name passes one
names_pass : {B : Type 0} (S : Type 0) (e : Fork) (f : Lexeme → List Lexeme → Answer B) → Is symbol.Ident e.last → Steady S e (f e.last) → (after : List Lexeme) → Passes S e.last after (expect symbol.Ident (e.last ∷ after) f)
names_pass S e f i s after =
    subst (λ b. Passes S e.last after (cond b (f e.last after) (refused (suc (length after))))) (sym (ap (λ x. symbol_eq x symbol.Ident) i)) (passing (f e.last after) (s.leaves after))

no_name_no_member : (l : Lexeme) (ls : List Lexeme) → symbol_eq l.symbol symbol.Ident ≡ false → begins_member (l ∷ ls) ≡ false
no_name_no_member l [] e = refl
no_name_no_member l (n ∷ ls) e = ap (λ b. b && symbol_eq n.symbol symbol.Colon) e

more_members_steady : (e : Fork) (depth : ℕ) (m : Member) → Steady (NameStop e) e (members_read depth) → (Is symbol.Ident e.last → (after : List Lexeme) → Passes (NameStop e) e.last after (members_read depth (e.last ∷ after)))
    → Steady (NameStop e) e (λ ls. cond (begins_member ls) (go_on (members_read depth ls) (λ ms after. taken (m ∷ ms) after)) (taken (m ∷ []) ls))
more_members_steady e depth m h g = record { same = by_front; leaves = λ ls. less (begins_member ls) ls }
  where
    joins : List Member → List Lexeme → Answer (List Member)
    joins ms after = taken (m ∷ ms) after

    either : (b : Bool) (p : List Lexeme)
        → Agrees (NameStop e) e (cond b (go_on (members_read depth (p ++ e.last ∷ e.one)) (λ ms after. taken (m ∷ ms) after)) (taken (m ∷ []) (p ++ e.last ∷ e.one)))
        (cond b (go_on (members_read depth (p ++ e.last ∷ e.other)) (λ ms after. taken (m ∷ ms) after)) (taken (m ∷ []) (p ++ e.last ∷ e.other)))
    either true p =
        go_agrees (NameStop e) (NameStop e) e (members_read depth (p ++ e.last ∷ e.one)) (members_read depth (p ++ e.last ∷ e.other)) (λ ms after. taken (m ∷ ms) after) (h.same p) (λ ms. steady_taken (NameStop e) e (m ∷ ms))
        (λ s ms after. stopping (m ∷ ms) s)
    either false p = both_taken (m ∷ []) p

    passed : (b : Bool) (after : List Lexeme) → Is symbol.Ident e.last
        → Passes (NameStop e) e.last after (cond b (go_on (members_read depth (e.last ∷ after)) (λ ms rest. taken (m ∷ ms) rest)) (taken (m ∷ []) (e.last ∷ after)))
    passed true after i = mapped (NameStop e) e.last after (members_read depth (e.last ∷ after)) (λ ms. m ∷ ms) (g i after)
    passed false after i = stopping (m ∷ []) i

    at_last : (b : Bool) → symbol_eq e.last.symbol symbol.Ident ≡ b
        → Agrees (NameStop e) e (cond (begins_member (e.last ∷ e.one)) (go_on (members_read depth (e.last ∷ e.one)) (λ ms after. taken (m ∷ ms) after)) (taken (m ∷ []) (e.last ∷ e.one)))
        (cond (begins_member (e.last ∷ e.other)) (go_on (members_read depth (e.last ∷ e.other)) (λ ms after. taken (m ∷ ms) after)) (taken (m ∷ []) (e.last ∷ e.other)))
    at_last true i = let n : Is symbol.Ident e.last = same_symbol e.last.symbol symbol.Ident i in
        both_pass (cond (begins_member (e.last ∷ e.one)) (go_on (members_read depth (e.last ∷ e.one)) (λ ms after. taken (m ∷ ms) after)) (taken (m ∷ []) (e.last ∷ e.one)))
        (cond (begins_member (e.last ∷ e.other)) (go_on (members_read depth (e.last ∷ e.other)) (λ ms after. taken (m ∷ ms) after)) (taken (m ∷ []) (e.last ∷ e.other)))
        (passed (begins_member (e.last ∷ e.one)) e.one n) (passed (begins_member (e.last ∷ e.other)) e.other n)
    at_last false i =
        rewritten (NameStop e) e (taken (m ∷ []) (e.last ∷ e.one)) (taken (m ∷ []) (e.last ∷ e.other))
        (cond (begins_member (e.last ∷ e.one)) (go_on (members_read depth (e.last ∷ e.one)) (λ ms after. taken (m ∷ ms) after)) (taken (m ∷ []) (e.last ∷ e.one)))
        (cond (begins_member (e.last ∷ e.other)) (go_on (members_read depth (e.last ∷ e.other)) (λ ms after. taken (m ∷ ms) after)) (taken (m ∷ []) (e.last ∷ e.other)))
        (ap (λ b. cond b (go_on (members_read depth (e.last ∷ e.one)) (λ ms after. taken (m ∷ ms) after)) (taken (m ∷ []) (e.last ∷ e.one))) (no_name_no_member e.last e.one i))
        (ap (λ b. cond b (go_on (members_read depth (e.last ∷ e.other)) (λ ms after. taken (m ∷ ms) after)) (taken (m ∷ []) (e.last ∷ e.other))) (no_name_no_member e.last e.other i))
        (both_taken (m ∷ []) [])

    by_front : (p : List Lexeme)
        → Agrees (NameStop e) e (cond (begins_member (p ++ e.last ∷ e.one)) (go_on (members_read depth (p ++ e.last ∷ e.one)) (λ ms after. taken (m ∷ ms) after)) (taken (m ∷ []) (p ++ e.last ∷ e.one)))
        (cond (begins_member (p ++ e.last ∷ e.other)) (go_on (members_read depth (p ++ e.last ∷ e.other)) (λ ms after. taken (m ∷ ms) after)) (taken (m ∷ []) (p ++ e.last ∷ e.other)))
    by_front [] = at_last (symbol_eq e.last.symbol symbol.Ident) refl
    by_front (l ∷ []) = either (symbol_eq l.symbol symbol.Ident && symbol_eq e.last.symbol symbol.Colon) (l ∷ [])
    by_front (l ∷ n ∷ p) = either (symbol_eq l.symbol symbol.Ident && symbol_eq n.symbol symbol.Colon) (l ∷ n ∷ p)

    less : (b : Bool) (ls : List Lexeme) → Leaves (length ls) (cond b (go_on (members_read depth ls) (λ ms after. taken (m ∷ ms) after)) (taken (m ∷ []) ls))
    less true ls = go_leaves (length ls) (members_read depth ls) (λ ms after. taken (m ∷ ms) after) (h.leaves ls) (λ ms rest. leaves_taken (m ∷ ms) rest (omega arith))
    less false ls = leaves_taken (m ∷ []) ls (omega arith)

-- what stands after a member's name
abbrev member_named : ℕ → Lexeme → List Lexeme → Answer (List Member)
member_named depth l colon_at =
    expect symbol.Colon colon_at (λ _ values_at. go_on (patterns_read depth values_at) (λ ps rest.
    cond (begins_member rest) (go_on (members_read depth rest) (λ ms after. taken (record { word = word_of l; values = ps } ∷ ms) after)) (taken (record { word = word_of l; values = ps } ∷ []) rest)))

after_name : (e : Fork) (depth : ℕ) → Steady (NameStop e) e (members_read depth) → (Is symbol.Ident e.last → (after : List Lexeme) → Passes (NameStop e) e.last after (members_read depth (e.last ∷ after)))
    → (l : Lexeme) → Steady (NameStop e) e (member_named depth l)
after_name e depth h g l =
    steady_expect (NameStop e) e symbol.Colon _ (λ _. steady_after (NameStop e) ⊥ e (patterns_read depth) _ (λ n. n) (patterns_steady e depth) (λ ps. more_members_steady e depth (record { word = word_of l; values = ps }) h g))

-- a list of members, and that it passes a name
pub record MembersAgree (e : Fork) (depth : ℕ) : Type 0 where
  steady : Steady (NameStop e) e (members_read depth)
  front : Is symbol.Ident e.last → (after : List Lexeme) → Passes (NameStop e) e.last after (members_read depth (e.last ∷ after))

members_agree : (e : Fork) (depth : ℕ) → MembersAgree e depth
members_agree e zero = record { steady = steady_lost (NameStop e) e; front = λ i after. passing lost leaves_lost }
members_agree e (suc depth) = let h : MembersAgree e depth = members_agree e depth in record {
  steady = steady_expect (NameStop e) e symbol.Ident _ (λ l. after_name e depth h.steady h.front l);
  front = λ i after. names_pass (NameStop e) e (member_named depth) i (after_name e depth h.steady h.front e.last) after;
}

-- definitions

guard_steady : (e : Fork) (depth : ℕ) → Steady ⊥ e (guard_read depth)
guard_steady e depth = steady_if_next ⊥ e symbol.Otherwise _ _ (λ _. steady_taken ⊥ e _) (expression_then e depth _ (λ t. steady_taken ⊥ e (Some t)))

big_is_no_semicolon : (s : Symbol) → is_some (big_of s) ≡ true → symbol_eq s symbol.Semicolon ≡ false
big_is_no_semicolon symbol.And b = refl
big_is_no_semicolon symbol.Or b = refl
big_is_no_semicolon _ b = absurd cc

big_is_no_otherwise : (s : Symbol) → is_some (big_of s) ≡ true → symbol_eq s symbol.Otherwise ≡ false
big_is_no_otherwise symbol.And b = refl
big_is_no_otherwise symbol.Or b = refl
big_is_no_otherwise _ b = absurd cc

-- a guard may begin with the sign of a big operator
guard_passes : (e : Fork) (depth : ℕ) → is_some (big_of e.last.symbol) ≡ true → (after : List Lexeme) → Passes ⊥ e.last after (guard_read depth (e.last ∷ after))
guard_passes e depth b after =
    let h : Agreeing e (readers depth) = readers_agree e depth in
    subst (λ c. Passes ⊥ e.last after (cond c (taken None after) (go_on (expression_read false depth (e.last ∷ after)) (λ t rest. taken (Some t) rest)))) (sym (big_is_no_otherwise e.last.symbol b))
    (mapped ⊥ e.last after (expression_read false depth (e.last ∷ after)) (λ t. Some t) (h.big_front b Releases (omega arith) after))

pub record AlternativesAgree (e : Fork) (depth : ℕ) : Type 0 where
  steady : (g : Option Tree) → Steady ⊥ e (alternatives_read depth g)

more_alternatives : (e : Fork) (depth : ℕ) → AlternativesAgree e depth → (g : Option Tree) (u : Tree)
    → Steady ⊥ e (λ rest. go_on (guard_read depth rest) (λ h colon_at. go_on (alternatives_read depth h colon_at) (λ others after. taken (alternative_of g u ∷ others) after)))
more_alternatives e depth h g u = next e (guard_read depth) _ (guard_steady e depth) (λ k. next e (alternatives_read depth k) _ (h.steady k) (λ others. steady_taken ⊥ e (alternative_of g u ∷ others)))

alternatives_agree : (e : Fork) (depth : ℕ) → AlternativesAgree e depth
alternatives_agree e zero = record { steady = λ g. steady_lost ⊥ e }
alternatives_agree e (suc depth) = let h : AlternativesAgree e depth = alternatives_agree e depth in record {
  steady = λ g. steady_expect ⊥ e symbol.Colon _ (λ _. let r : Agreeing e (readers depth) = readers_agree e depth in
      steady_go_on ⊥ (Stop e.last true) e (expression_read true depth) _ (r.level true Releases)
      (λ u. steady_begins ⊥ e symbol.Semicolon _ _ (steady_taken ⊥ e (alternative_of g u ∷ [])) (more_alternatives e depth h g u)) (λ s u after. stopped e depth h g u s.1 after));
}
  where
    stopped : (e : Fork) (depth : ℕ) → AlternativesAgree e depth → (g : Option Tree) (u : Tree) → is_some (big_of e.last.symbol) ≡ true → (after : List Lexeme)
        → Passes ⊥ e.last after (cond (begins symbol.Semicolon (e.last ∷ after)) (taken (alternative_of g u ∷ []) (e.last ∷ after))
        (go_on (guard_read depth (e.last ∷ after)) (λ h colon_at. go_on (alternatives_read depth h colon_at) (λ others rest. taken (alternative_of g u ∷ others) rest))))
    stopped e depth h g u b after =
        subst (λ c. Passes ⊥ e.last after (cond c (taken (alternative_of g u ∷ []) (e.last ∷ after))
        (go_on (guard_read depth (e.last ∷ after)) (λ h colon_at. go_on (alternatives_read depth h colon_at) (λ others rest. taken (alternative_of g u ∷ others) rest))))) (sym (big_is_no_semicolon e.last.symbol b))
        (left_after e.last after (guard_read depth (e.last ∷ after)) (λ k colon_at. go_on (alternatives_read depth k colon_at) (λ others rest. taken (alternative_of g u ∷ others) rest)) (guard_passes e depth b after)
        (λ k rest. let t : Steady ⊥ e (λ ls. go_on (alternatives_read depth k ls) (λ others after'. taken (alternative_of g u ∷ others) after')) =
        next e (alternatives_read depth k) _ (h.steady k) (λ others. steady_taken ⊥ e (alternative_of g u ∷ others)) in t.leaves rest))

body_steady : (e : Fork) (depth : ℕ) → Steady ⊥ e (body_read depth)
body_steady e depth =
    let h : AlternativesAgree e depth = alternatives_agree e depth in
    steady_if_next ⊥ e symbol.Otherwise _ _ (λ _. next e (alternatives_read depth None) _ (h.steady None) (λ others. steady_taken ⊥ e (guarded others)))
    (expression_then e depth _ (λ t. steady_begins ⊥ e symbol.Colon _ _ (next e (alternatives_read depth (Some t)) _ (h.steady (Some t)) (λ others. steady_taken ⊥ e (guarded others))) (steady_taken ⊥ e (plain t))))

function_steady : (S : Type 0) (e : Fork) (depth : ℕ) (w : Named) (arguments : List Named) → Steady S e (function_read depth w arguments)
function_steady S e depth w arguments =
    steady_expect S e symbol.Assign _ (λ _. steady_after S ⊥ e (body_read depth) _ (λ n. n) (body_steady e depth) (λ b. steady_expect S e symbol.Semicolon _ (λ _. steady_taken S e (function w arguments b))))

-- what stands after the name of a definition
abbrev after_word : ℕ → Lexeme → List Lexeme → Answer Definition
after_word depth l ls =
    if_next symbol.OpenParen ls (λ _ inner. go_on (names_read depth inner) (λ ws rest. expect symbol.CloseParen rest (λ _ sign_at. function_read depth (word_of l) ws sign_at))) (function_read depth (word_of l) [] ls)

after_word_steady : (S : Type 0) (e : Fork) (depth : ℕ) (l : Lexeme) → Steady S e (after_word depth l)
after_word_steady S e depth l =
    steady_if_next S e symbol.OpenParen _ _ (λ _. steady_after S ⊥ e (names_read depth) _ (λ n. n) (names_steady e depth) (λ ws. steady_expect S e symbol.CloseParen _ (λ _. function_steady S e depth (word_of l) ws)))
    (function_steady S e depth (word_of l) [])

-- a name isn't the sign at the end of an enumeration
name_no_semicolon : {X : Type 0} (l : Lexeme) (after : List Lexeme) (f : Lexeme → List Lexeme → X) (x : X) → Is symbol.Ident l → if_next symbol.Semicolon (l ∷ after) f x ≡ x
name_no_semicolon l after f x i = ap (λ b. cond b (f l after) x) (ap (λ s. symbol_eq s symbol.Semicolon) i)

definition_steady : (e : Fork) (depth : ℕ) → Steady (NameStop e) e (definition_read depth)
definition_steady e depth =
    let h : MembersAgree e depth = members_agree e depth in
    steady_if_next (NameStop e) e symbol.Enum _ _ (λ _. steady_expect (NameStop e) e symbol.Ident _ (λ l. steady_expect (NameStop e) e symbol.Assign _ (λ _.
    steady_go_on (NameStop e) (NameStop e) e (members_read depth) (λ ms rest. if_next symbol.Semicolon rest (λ _ after. taken (enumeration (word_of l) ms) after) (taken (enumeration (word_of l) ms) rest)) h.steady
    (λ ms. steady_if_next (NameStop e) e symbol.Semicolon _ _ (λ _. steady_taken (NameStop e) e (enumeration (word_of l) ms)) (steady_taken (NameStop e) e (enumeration (word_of l) ms)))
    (λ s ms after. subst (Passes (NameStop e) e.last after) (sym (name_no_semicolon e.last after (λ _ rest. taken (enumeration (word_of l) ms) rest) (taken (enumeration (word_of l) ms) (e.last ∷ after)) s)) (stopping (enumeration (word_of l) ms) s)))))
    (steady_expect (NameStop e) e symbol.Ident _ (λ l. after_word_steady (NameStop e) e depth l))

-- a definition passes a name
definition_front : (e : Fork) (depth : ℕ) → Is symbol.Ident e.last → (after : List Lexeme) → Passes ⊥ e.last after (definition_read depth (e.last ∷ after))
definition_front e depth i after =
    subst (Passes ⊥ e.last after) (sym (ap (λ b. cond b (enumeration_read after) (expect symbol.Ident (e.last ∷ after) (λ l next. after_word depth l next))) (ap (λ s. symbol_eq s symbol.Enum) i)))
    (names_pass ⊥ e (λ l next. after_word depth l next) i (after_word_steady ⊥ e depth e.last) after)
  where
    enumeration_read : List Lexeme → Answer Definition
    enumeration_read name_at = expect symbol.Ident name_at (λ l sign_at. expect symbol.Assign sign_at (λ _ inner. go_on (members_read depth inner) (λ ms rest.
        if_next symbol.Semicolon rest (λ _ after. taken (enumeration (word_of l) ms) after) (taken (enumeration (word_of l) ms) rest))))

pub record DefinitionsAgree (e : Fork) (depth : ℕ) : Type 0 where
  steady : Steady ⊥ e (definitions_read depth)
  front : Is symbol.Ident e.last → (after : List Lexeme) → Passes ⊥ e.last after (definitions_read depth (e.last ∷ after))

definitions_agree : (e : Fork) (depth : ℕ) → DefinitionsAgree e depth
definitions_agree e zero = record { steady = steady_lost ⊥ e; front = λ i after. passing lost leaves_lost }
definitions_agree e (suc depth) = let h : DefinitionsAgree e depth = definitions_agree e depth in record {
  steady = steady_begins ⊥ e symbol.CloseBrace _ _ (steady_taken ⊥ e [])
      (steady_go_on ⊥ (NameStop e) e (definition_read depth) (λ d rest. go_on (definitions_read depth rest) (λ ds after. taken (d ∷ ds) after)) (definition_steady e depth)
      (λ d. next e (definitions_read depth) _ h.steady (λ ds. steady_taken ⊥ e (d ∷ ds))) (λ s d after. mapped ⊥ e.last after (definitions_read depth (e.last ∷ after)) (λ ds. d ∷ ds) (h.front s after)));
  front = λ i after. fronted e depth h i after;
}
  where
    fronted : (e : Fork) (depth : ℕ) → DefinitionsAgree e depth → Is symbol.Ident e.last → (after : List Lexeme) → Passes ⊥ e.last after (definitions_read (suc depth) (e.last ∷ after))
    fronted e depth h i after =
        subst (λ b. Passes ⊥ e.last after (cond b (taken [] (e.last ∷ after)) (go_on (definition_read depth (e.last ∷ after)) (λ d rest. go_on (definitions_read depth rest) (λ ds last. taken (d ∷ ds) last)))))
        (sym (ap (λ s. symbol_eq s symbol.CloseBrace) i))
        (left_after e.last after (definition_read depth (e.last ∷ after)) (λ d rest. go_on (definitions_read depth rest) (λ ds last. taken (d ∷ ds) last)) (definition_front e depth i after)
        (λ d rest. let t : Steady ⊥ e (λ ls. go_on (definitions_read depth ls) (λ ds last. taken (d ∷ ds) last)) = next e (definitions_read depth) _ h.steady (λ ds. steady_taken ⊥ e (d ∷ ds)) in t.leaves rest))

parameters_steady : (e : Fork) (depth : ℕ) → Steady ⊥ e (parameters_read depth)
parameters_steady e zero = steady_lost ⊥ e
parameters_steady e (suc depth) =
    steady_begins ⊥ e symbol.CloseBrace _ _ (steady_taken ⊥ e []) (steady_expect ⊥ e symbol.Ident _ (λ l. steady_expect ⊥ e symbol.Assign _ (λ _. expression_then e depth _ (λ t. steady_expect ⊥ e symbol.Semicolon _ (λ _.
    next e (parameters_read depth) _ (parameters_steady e depth) (λ ds. steady_taken ⊥ e (parameter (word_of l) t ∷ ds)))))))

braced_steady : {A B : Type 0} (e : Fork) (F : List Lexeme → Answer A) (K : A → List Lexeme → Answer B) → Steady ⊥ e F → ((a : A) → Steady ⊥ e (K a)) → Steady ⊥ e (λ ls. braced F ls K)
braced_steady e F K f g = steady_expect ⊥ e symbol.OpenBrace _ (λ _. next e F _ f (λ a. steady_expect ⊥ e symbol.CloseBrace _ (λ _. g a)))

blocks_steady : (e : Fork) (depth : ℕ) → Steady ⊥ e (blocks_read depth)
blocks_steady e zero = steady_lost ⊥ e
blocks_steady e (suc depth) =
    let h : DefinitionsAgree e depth = definitions_agree e depth in
    steady_if_next ⊥ e symbol.Parameters _ _ (λ _. braced_steady e (parameters_read depth) _ (parameters_steady e depth) (λ ds. next e (blocks_read depth) _ (blocks_steady e depth) (λ bs. steady_taken ⊥ e (parameters ds ∷ bs))))
    (steady_if_next ⊥ e symbol.Definitions _ _ (λ _. braced_steady e (definitions_read depth) _ h.steady (λ ds. next e (blocks_read depth) _ (blocks_steady e depth) (λ bs. steady_taken ⊥ e (definitions ds ∷ bs)))) (steady_taken ⊥ e []))

-- MAIN

declaration_steady : (e : Fork) (depth : ℕ) → Steady ⊥ e (declaration_read depth)
declaration_steady e depth =
    steady_expect ⊥ e symbol.Ident _ (λ l. steady_if_next ⊥ e symbol.Semicolon _ _ (λ _. steady_taken ⊥ e (record { word = word_of l; shape = single }))
    (steady_if_next ⊥ e symbol.OpenBracket _ _ (λ _. expression_then e depth _ (λ t. steady_expect ⊥ e symbol.CloseBracket _ (λ _. steady_expect ⊥ e symbol.Semicolon _ (λ _. steady_taken ⊥ e (record { word = word_of l; shape = bus t })))))
    (steady_expect ⊥ e symbol.Ident _ (λ n. steady_expect ⊥ e symbol.Semicolon _ (λ _. steady_taken ⊥ e (record { word = word_of n; shape = typed (word_of l) }))))))

declarations_steady : (e : Fork) (depth : ℕ) → Steady ⊥ e (declarations_read depth)
declarations_steady e zero = steady_lost ⊥ e
declarations_steady e (suc depth) =
    steady_begins ⊥ e symbol.CloseBrace _ _ (steady_taken ⊥ e []) (next e (declaration_read depth) _ (declaration_steady e depth) (λ d. next e (declarations_read depth) _ (declarations_steady e depth) (λ ds. steady_taken ⊥ e (d ∷ ds))))

formulas_steady : (e : Fork) (depth : ℕ) → Steady ⊥ e (formulas_read depth)
formulas_steady e zero = steady_lost ⊥ e
formulas_steady e (suc depth) =
    steady_begins ⊥ e symbol.CloseBrace _ _ (steady_taken ⊥ e []) (expression_then e depth _ (λ t. steady_expect ⊥ e symbol.Semicolon _ (λ _. next e (formulas_read depth) _ (formulas_steady e depth) (λ ts. steady_taken ⊥ e (t ∷ ts)))))

part_step : (e : Fork) (depth : ℕ) (s : Symbol) (l : Lexeme) → Step ⊥ e l (part_by depth s)
part_step e depth symbol.Inputs l = steps_on (braced_steady e (declarations_read depth) _ (declarations_steady e depth) (λ ds. steady_taken ⊥ e (inputs ds)))
part_step e depth symbol.Outputs l = steps_on (braced_steady e (declarations_read depth) _ (declarations_steady e depth) (λ ds. steady_taken ⊥ e (outputs ds)))
part_step e depth (symbol.Section s) l = steps_on (braced_steady e (formulas_read depth) _ (formulas_steady e depth) (λ ts. steady_taken ⊥ e (section s ts)))
part_step e depth _ l = step_refused (λ ls. refl)

parts_steady : (e : Fork) (depth : ℕ) → Steady ⊥ e (parts_read depth)
parts_steady e zero = steady_lost ⊥ e
parts_steady e (suc depth) =
    steady_parts e symbol.CloseBrace [] (part_by depth) (λ p rest. go_on (parts_read depth rest) (λ ps after. taken (p ∷ ps) after)) (parts_read (suc depth)) (leaves_refused 0 (omega arith)) (λ l ls. refl) (part_step e depth)
    (λ p. next e (parts_read depth) _ (parts_steady e depth) (λ ps. steady_taken ⊥ e (p ∷ ps)))

main_steady : (e : Fork) (depth : ℕ) (fs : List Field) (bs : List Block) → Steady ⊥ e (main_read depth fs bs)
main_steady e depth fs bs = steady_expect ⊥ e symbol.Main _ (λ _. braced_steady e (parts_read depth) _ (parts_steady e depth) (λ ps. steady_taken ⊥ e (record { fields = fs; blocks = bs; parts = ps })))

after_info_steady : (e : Fork) (depth : ℕ) (fs : List Field) → Steady ⊥ e (after_info depth fs)
after_info_steady e depth fs =
    steady_if_next ⊥ e symbol.Global _ _ (λ _. braced_steady e (blocks_read depth) _ (blocks_steady e depth) (λ bs. main_steady e depth fs bs)) (main_steady e depth fs [])

pub text_steady : (e : Fork) (depth : ℕ) → Steady ⊥ e (text_read depth)
text_steady e depth = steady_expect ⊥ e symbol.Info _ (λ _. braced_steady e (fields_read depth) _ (fields_steady e depth) (λ fs. after_info_steady e depth fs))

-- what is refused for good

not_at_end : (p : List Lexeme) (l : Lexeme) (ls : List Lexeme) → p ++ l ∷ ls ≡ [] → ⊥
not_at_end [] l ls e = absurd cc
not_at_end (q ∷ p) l ls e = absurd cc

never_whole : (e : Fork) (w : Written) (x y : Answer Written) → Agrees ⊥ e x y → x ≡ refused (suc (length e.one)) → y ≡ taken w [] → ⊥
never_whole e w x y (both_pass v u (passing c (leaves_refused j h)) k) f g = let i : j ≡ suc (length e.one) = cc in omega (arith, h, i)
never_whole e w x y (both_pass v u (stopping a s) k) f g = s
never_whole e w x y _ f g = absurd cc

never_left : (e : Fork) (w v : Written) (x y : Answer Written) → Agrees ⊥ e x y → x ≡ taken w (e.last ∷ e.one) → y ≡ taken v [] → ⊥
never_left e w v x y (both_taken a p) f g = not_at_end p e.last e.other (cc)
never_left e w v x y (both_pass z u (passing c (leaves_taken a rest h)) k) f g = let i : rest ≡ e.last ∷ e.one = cc in let j : length rest ≡ suc (length e.one) = ap length i in omega (arith, h, j)
never_left e w v x y (both_pass z u (stopping a s) k) f g = s
never_left e w v x y _ f g = absurd cc

-- a lexeme that is refused is refused whatever comes after it
pub refused_for_good : (e : Fork) (depth : ℕ) (front : List Lexeme) (w : Written) → text_read depth (front ++ e.last ∷ e.one) ≡ refused (suc (length e.one)) → text_read depth (front ++ e.last ∷ e.other) ≡ taken w [] → ⊥
refused_for_good e depth front w f g =
    let s : Steady ⊥ e (text_read depth) = text_steady e depth in never_whole e w (text_read depth (front ++ e.last ∷ e.one)) (text_read depth (front ++ e.last ∷ e.other)) (s.same front) f g

-- and so is one that is left
pub left_for_good : (e : Fork) (depth : ℕ) (front : List Lexeme) (w v : Written) → text_read depth (front ++ e.last ∷ e.one) ≡ taken w (e.last ∷ e.one) → text_read depth (front ++ e.last ∷ e.other) ≡ taken v [] → ⊥
left_for_good e depth front w v f g =
    let s : Steady ⊥ e (text_read depth) = text_steady e depth in never_left e w v (text_read depth (front ++ e.last ∷ e.one)) (text_read depth (front ++ e.last ∷ e.other)) (s.same front) f g
