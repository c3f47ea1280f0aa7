-- What is derived is read, where what follows doesn't go on with it.
use Rattle.std.proofs.Common.{◌≡◌, ◌<◌, ◌≤◌, ◌+◌, ℕ, zero, suc, Bool, true, false, ◌&&◌, cond, List, [], ◌∷◌, ◌++◌, length, Option, None, Some, refl, sym, ◌∙◌, ap, subst, arith, append_assoc, length-append}
use Rattle.tlsf_syntax.specs.declared.expr.Op.{Op}
use Rattle.tlsf_syntax.specs.declared.expr.Op.TheVariants as op
use Rattle.tlsf_tokens.specs.declared.symbol.Symbol.{Symbol}
use Rattle.tlsf_tokens.specs.declared.symbol.Symbol.TheVariants as symbol
use Rattle.tlsf_syntax.specs.Tree.{Tree, Trees, Links, Ranges, tree_span, named, call, index, size_of, paren, set, steps, chain, pair, prefix, count, window, big, no_trees, tree, no_links, link, no_ranges, members, between}
use Rattle.tlsf_syntax.specs.Lexemes.{Lexeme, Is, word_of, span_of, lexeme_span}
use Rattle.tlsf_syntax.specs.Symbols.{symbol_eq}
use Rattle.tlsf_syntax.specs.declared.level.Level.{Level}
use Rattle.tlsf_syntax.specs.declared.level.Level.TheVariants.{Primary, Products, Quotients, Sums, Comparisons, Memberships, Prefixes, Releases}
use Rattle.tlsf_syntax.specs.declared.level.Joins.{Joins}
use Rattle.tlsf_syntax.specs.declared.level.Joins.TheVariants as joins
use Rattle.tlsf_syntax.specs.Expressions.{tighter_of, joins_of, operator_of, prefix_of, window_of, big_of, bound_of, Derives, of_number, of_true, of_false, of_name, of_call, of_index, of_size, of_paren, of_set, of_steps, of_tighter, of_chain, of_once, of_right, of_prefix, of_count, of_window, of_big, DerivesList, of_none, of_last, of_more, DerivesLinks, of_no_link, of_link, DerivesRanges, of_members, of_between, DerivesMoreRanges, of_no_range, of_range}
use Rattle.tlsf_syntax.specs.Texts.{EndsWithName}
use Rattle.tlsf_syntax.specs.Reading.{Answer, taken, go_on, begins, if_next, level_number, at_level, operator_here, Readers, chain_of, links_end, from_to, word_with, set_with, set_second, prefix_by, prefix_with, prefixed, counted, windowed, big_with, level_with, list_with, linked, links_with, more_ranges, between_with, ranges_with, readers}
use Rattle.tlsf_syntax.proofs.Symbols.{same_symbol}
use Rattle.std.specs.Option.{is_some}
use Rattle.std.proofs.lemmas.List.{append-nil}
use mathlib.Core.Bool.{and-false}
use Rattle.tlsf_syntax.proofs.Starts.{begins_primary, begins_any, StartsWith, starts_any, starts_primary, tighter_number, prefix_level, not_symbol, end_append, derived_end, links_ends, span_join, span_closed, ends-append, Follows, follows_part, operator_follows, operator_found, Ends, ends_of, ends_follow}

-- readers that go deep enough read this
pub record Eventually {A : Type 0} (F : ℕ → List Lexeme → Answer A) (input : List Lexeme) (a : A) (rest : List Lexeme) : Type 0 where
  pub from : ℕ
  pub reads : (depth : ℕ) → from ≤ depth → F depth input ≡ taken a rest

pub eventually : {A : Type 0} (F : ℕ → List Lexeme → Answer A) (input : List Lexeme) (a : A) (rest : List Lexeme) (from : ℕ) → ((depth : ℕ) → from ≤ depth → F (suc depth) input ≡ taken a rest) → Eventually F input a rest
eventually F input a rest from h = record { from = suc from; reads = by }
  where
    by : (depth : ℕ) → suc from ≤ depth → F depth input ≡ taken a rest
    by zero low = absurd (omega arith)
    by (suc depth) low = h depth (omega arith)

-- the same input, written otherwise
pub same_input : {A : Type 0} (F : ℕ → List Lexeme → Answer A) (input input' : List Lexeme) (a : A) (rest : List Lexeme) → input' ≡ input → Eventually F input a rest → Eventually F input' a rest
same_input F input input' a rest e r = record { from = r.from; reads = λ depth low. ap (F depth) e ∙ r.reads depth low }

abbrev pub LevelReads : Bool → Level → List Lexeme → Tree → List Lexeme → Type 0
LevelReads ends n = Eventually (λ depth. (readers depth).level ends n)

abbrev pub ListReads : List Lexeme → Trees → List Lexeme → Type 0
ListReads = Eventually (λ depth. (readers depth).list)

abbrev pub LinksReads : Bool → Level → List Lexeme → Links → List Lexeme → Type 0
LinksReads ends m = Eventually (λ depth. (readers depth).links ends m)

abbrev pub RangesReads : List Lexeme → Ranges → List Lexeme → Type 0
RangesReads = Eventually (λ depth. (readers depth).ranges)

level_step : (ends : Bool) (m : Level) (input : List Lexeme) (t : Tree) (rest : List Lexeme) (from : ℕ) → ((depth : ℕ) → from ≤ depth → level_with (readers depth) ends m input ≡ taken t rest) → LevelReads ends m input t rest
unfolding readers
level_step ends m input t rest from h = eventually (λ depth. (readers depth).level ends m) input t rest from h

list_step : (input : List Lexeme) (ts : Trees) (rest : List Lexeme) (from : ℕ) → ((depth : ℕ) → from ≤ depth → list_with (readers depth) input ≡ taken ts rest) → ListReads input ts rest
unfolding readers
list_step input ts rest from h = eventually (λ depth. (readers depth).list) input ts rest from h

links_step : (ends : Bool) (m : Level) (input : List Lexeme) (links : Links) (rest : List Lexeme) (from : ℕ) → ((depth : ℕ) → from ≤ depth → links_with (readers depth) ends m input ≡ taken links rest) → LinksReads ends m input links rest
unfolding readers
links_step ends m input links rest from h = eventually (λ depth. (readers depth).links ends m) input links rest from h

ranges_step : (input : List Lexeme) (rs : Ranges) (rest : List Lexeme) (from : ℕ) → ((depth : ℕ) → from ≤ depth → ranges_with (readers depth) input ≡ taken rs rest) → RangesReads input rs rest
unfolding readers
ranges_step input rs rest from h = eventually (λ depth. (readers depth).ranges) input rs rest from h

-- the same input and tree, written otherwise
same_level : (ends : Bool) (n : Level) (input input' : List Lexeme) (t t' : Tree) (rest : List Lexeme) → input' ≡ input → t ≡ t' → LevelReads ends n input t rest → LevelReads ends n input' t' rest
same_level ends n input input' t t' rest e f a = subst (λ u. LevelReads ends n input' u rest) f (same_input (λ depth. (readers depth).level ends n) input input' t rest e a)

-- parts of a reader

word_is_name : (r : Readers) (l : Lexeme) (rest : List Lexeme) → begins symbol.OpenParen rest ≡ false → begins symbol.OpenBracket rest ≡ false → word_with r l rest ≡ taken (named (lexeme_span l) l.text) rest
word_is_name r l [] a b = refl
word_is_name r l (n ∷ rest) a b = rw (a, b) refl

-- no operator follows
no_links_read : (ends : Bool) (m : Level) (rest : List Lexeme) → operator_here ends m rest ≡ None → LinksReads ends m rest no_links rest
no_links_read ends m rest e = links_step ends m rest no_links rest 0 (λ depth low. ap (λ o. linked (readers depth) ends m (tighter_of m) o rest) e ∙ none_linked (readers depth) (tighter_of m))
  where
    none_linked : (r : Readers) (o : Option Level) → linked r ends m o None rest ≡ taken no_links rest
    none_linked r None = refl
    none_linked r (Some n) = refl

-- an expression that begins as a primary has no prefix
no_prefix : (r : Readers) (ends : Bool) (n : Level) (s : Symbol) (l : Lexeme) (ls : List Lexeme) → begins_primary s ≡ true → prefix_by r ends n s l ls ≡ r.level ends n (l ∷ ls)
no_prefix r ends n symbol.Not l ls e = absurd cc
no_prefix r ends n symbol.Next l ls e = absurd cc
no_prefix r ends n symbol.Finally l ls e = absurd cc
no_prefix r ends n symbol.Globally l ls e = absurd cc
no_prefix r ends n symbol.And l ls e = absurd cc
no_prefix r ends n symbol.Or l ls e = absurd cc
no_prefix r ends n _ l ls e = refl

no_prefix_at : (r : Readers) (ends : Bool) (n : Level) (ls : List Lexeme) → StartsWith begins_primary ls → prefix_with r ends n ls ≡ r.level ends n ls
no_prefix_at r ends n [] s = absurd s
no_prefix_at r ends n (l ∷ ls) s = no_prefix r ends n l.symbol l ls s

pub StartsWith-append : (p : Symbol → Bool) (ls ms : List Lexeme) → StartsWith p ls → StartsWith p (ls ++ ms)
StartsWith-append p [] ms s = absurd s
StartsWith-append p (l ∷ ls) ms s = s

-- a level without its operator is the tighter one
tighter_reads : (ends : Bool) (n m : Level) (ls : List Lexeme) (t : Tree) (rest : List Lexeme) → tighter_of m ≡ Some n → (level_number n ≤ 8 → StartsWith begins_primary ls)
    → operator_here ends m rest ≡ None → LevelReads ends n (ls ++ rest) t rest → LevelReads ends m (ls ++ rest) t rest
tighter_reads ends n m ls t rest e starts here a =
    let nothing : LinksReads ends m rest no_links rest = no_links_read ends m rest here in
    level_step ends m (ls ++ rest) t rest (a.from + nothing.from) (λ depth low. by (joins_of m) refl depth (a.reads depth (omega arith)) (nothing.reads depth (omega arith)))
  where
    by : (j : Joins) → joins_of m ≡ j → (depth : ℕ) → (readers depth).level ends n (ls ++ rest) ≡ taken t rest → (readers depth).links ends m rest ≡ taken no_links rest
        → level_with (readers depth) ends m (ls ++ rest) ≡ taken t rest
    by joins.Left j depth read no_more = rw (e, j, read, no_more) refl
    by joins.Once j depth read no_more = rw (e, j, read, here) refl
    by joins.Right j depth read no_more = rw (e, j, read, here) refl
    by joins.None j depth read no_more = rw (e, j) (no_prefix_at (readers depth) ends n (ls ++ rest) (StartsWith-append begins_primary ls rest (starts (prefix_level m n j e))) ∙ read)

-- a name is read as itself
pub name_reads : (ends : Bool) (l : Lexeme) (rest : List Lexeme) → Is symbol.Ident l → begins symbol.OpenParen rest ≡ false → begins symbol.OpenBracket rest ≡ false
    → LevelReads ends Primary (l ∷ rest) (named (lexeme_span l) l.text) rest
name_reads ends l rest e a b = level_step ends Primary _ _ rest 0 (λ depth low. rw e (word_is_name (readers depth) l rest a b))

pub name_reads_sum : (l : Lexeme) (rest : List Lexeme) → Is symbol.Ident l → Follows false Sums (l ∷ []) rest → LevelReads false Sums (l ∷ rest) (named (lexeme_span l) l.text) rest
name_reads_sum l rest e f =
    let s : StartsWith begins_primary (l ∷ []) = ap begins_primary e in
    tighter_reads false Quotients Sums (l ∷ []) _ rest refl (λ _. s) (f.operators Sums (omega arith))
    (tighter_reads false Products Quotients (l ∷ []) _ rest refl (λ _. s) (f.operators Quotients (omega arith))
    (tighter_reads false Primary Products (l ∷ []) _ rest refl (λ _. s) (f.operators Products (omega arith)) (name_reads false l rest e (f.call e) f.bracket)))

-- each form, from what its parts are read as; `last` closes it

pub test : (a b s : Symbol) → a ≡ b → symbol_eq a s ≡ symbol_eq b s
test a b s e = ap (λ x. symbol_eq x s) e

call_step : (ends : Bool) (l before last : Lexeme) (inner rest : List Lexeme) (ts : Trees) → Is symbol.Ident l → Is symbol.OpenParen before → Is symbol.CloseParen last → ListReads inner ts (last ∷ rest)
    → LevelReads ends Primary (l ∷ before ∷ inner) (call (from_to l.start last.end) (word_of l) ts) rest
call_step ends l before last inner rest ts e f g a =
    level_step ends Primary _ _ rest a.from (λ depth low. rw (e, f, a.reads depth low, g) refl)

index_step : (ends : Bool) (l before last : Lexeme) (inner rest : List Lexeme) (t : Tree) → Is symbol.Ident l → Is symbol.OpenBracket before → Is symbol.CloseBracket last → LevelReads false Releases inner t (last ∷ rest)
    → LevelReads ends Primary (l ∷ before ∷ inner) (index (from_to l.start last.end) (word_of l) t) rest
index_step ends l before last inner rest t e f g a =
    level_step ends Primary _ _ rest a.from (λ depth low. rw (e, f, a.reads depth low, g) refl)

size_step : (ends : Bool) (l : Lexeme) (inner rest : List Lexeme) (t : Tree) → Is symbol.SizeOf l → LevelReads false Primary inner t rest → LevelReads ends Primary (l ∷ inner) (size_of (from_to l.start (tree_span t).end) t) rest
size_step ends l inner rest t e a =
    level_step ends Primary _ _ rest a.from (λ depth low. rw (e, a.reads depth low) refl)

paren_step : (ends : Bool) (l last : Lexeme) (inner rest : List Lexeme) (t : Tree) → Is symbol.OpenParen l → Is symbol.CloseParen last → LevelReads false Releases inner t (last ∷ rest)
    → LevelReads ends Primary (l ∷ inner) (paren (from_to l.start last.end) t) rest
paren_step ends l last inner rest t e g a =
    level_step ends Primary _ _ rest a.from (λ depth low. rw (e, a.reads depth low, g) refl)

set_not_empty : (r : Readers) (l : Lexeme) (ls : List Lexeme) → StartsWith begins_any ls → set_with r l ls ≡ go_on (r.level false Releases ls) (λ t rest. set_second r l t rest)
set_not_empty r l [] s = absurd s
set_not_empty r l (x ∷ ls) s = rw (not_symbol begins_any x.symbol symbol.CloseBrace s refl) refl

set_none : (ends : Bool) (l last : Lexeme) (rest : List Lexeme) → Is symbol.OpenBrace l → Is symbol.CloseBrace last → LevelReads ends Primary (l ∷ last ∷ rest) (set (from_to l.start last.end) no_trees) rest
set_none ends l last rest e g =
    level_step ends Primary _ _ rest 0 (λ depth low. rw (e, g) refl)

set_one : (ends : Bool) (l last : Lexeme) (inner rest : List Lexeme) (t : Tree) → Is symbol.OpenBrace l → Is symbol.CloseBrace last → StartsWith begins_any inner → LevelReads false Releases inner t (last ∷ rest)
    → LevelReads ends Primary (l ∷ inner) (set (from_to l.start last.end) (tree t no_trees)) rest
set_one ends l last inner rest t e g s a =
    level_step ends Primary _ _ rest a.from (λ depth low. rw e (set_not_empty (readers depth) l inner s ∙ rw (a.reads depth low, g) refl))

set_two : (ends : Bool) (l comma last : Lexeme) (inner second rest : List Lexeme) (t u : Tree) → Is symbol.OpenBrace l → Is symbol.Comma comma → Is symbol.CloseBrace last → StartsWith begins_any inner
    → LevelReads false Releases inner t (comma ∷ second) → LevelReads false Releases second u (last ∷ rest)
    → LevelReads ends Primary (l ∷ inner) (set (from_to l.start last.end) (tree t (tree u no_trees))) rest
set_two ends l comma last inner second rest t u e f g s a b =
    level_step ends Primary _ _ rest (a.from + b.from) (λ depth low. rw e (set_not_empty (readers depth) l inner s ∙ rw (a.reads depth (omega arith), f, b.reads depth (omega arith), g) refl))

set_many : (ends : Bool) (l comma sign last : Lexeme) (inner second third rest : List Lexeme) (t u : Tree) (more : Trees) → Is symbol.OpenBrace l → Is symbol.Comma comma → Is symbol.Comma sign → Is symbol.CloseBrace last
    → StartsWith begins_any inner → LevelReads false Releases inner t (comma ∷ second) → LevelReads false Releases second u (sign ∷ third) → ListReads third more (last ∷ rest)
    → LevelReads ends Primary (l ∷ inner) (set (from_to l.start last.end) (tree t (tree u more))) rest
set_many ends l comma sign last inner second third rest t u more e f h g s a b c =
    level_step ends Primary _ _ rest (a.from + b.from + c.from) (λ depth low.
    rw e (set_not_empty (readers depth) l inner s ∙ rw (a.reads depth (omega arith), f, b.reads depth (omega arith), h, c.reads depth (omega arith), g) refl))

steps_step : (ends : Bool) (l comma dots last : Lexeme) (inner second third rest : List Lexeme) (t u v : Tree) → Is symbol.OpenBrace l → Is symbol.Comma comma → Is symbol.Dots dots → Is symbol.CloseBrace last
    → StartsWith begins_any inner → LevelReads false Releases inner t (comma ∷ second) → LevelReads false Releases second u (dots ∷ third) → LevelReads false Releases third v (last ∷ rest)
    → LevelReads ends Primary (l ∷ inner) (steps (from_to l.start last.end) t u v) rest
steps_step ends l comma dots last inner second third rest t u v e f h g s a b c =
    level_step ends Primary _ _ rest (a.from + b.from + c.from) (λ depth low.
    rw e (set_not_empty (readers depth) l inner s ∙ rw (a.reads depth (omega arith), f, b.reads depth (omega arith), h, c.reads depth (omega arith), g) refl))

bracket_apart : {X : Type 0} (ls : List Lexeme) (f : Lexeme → List Lexeme → X) (x : X) → StartsWith begins_any ls → if_next symbol.OpenBracket ls f x ≡ x
bracket_apart [] f x s = absurd s
bracket_apart (l ∷ ls) f x s = ap (λ b. cond b (f l ls) x) (not_symbol begins_any l.symbol symbol.OpenBracket s refl)

prefix_is : (r : Readers) (ends : Bool) (n : Level) (s : Symbol) (o : Op) (l : Lexeme) (ls : List Lexeme) → prefix_of s ≡ Some o → StartsWith begins_any ls → prefix_by r ends n s l ls ≡ prefixed r ends o l ls
prefix_is r ends n symbol.Not o l ls e s = let f : op.Not ≡ o = cc in ap (λ x. prefixed r ends x l ls) f
prefix_is r ends n symbol.Next o l ls e s = let f : op.Next ≡ o = cc in bracket_apart ls (λ _ inner. counted r ends l inner) (prefixed r ends op.Next l ls) s ∙ ap (λ x. prefixed r ends x l ls) f
prefix_is r ends n symbol.Finally o l ls e s = let f : op.Finally ≡ o = cc in bracket_apart ls (λ _ inner. windowed r ends op.Finally l inner) (prefixed r ends op.Finally l ls) s ∙ ap (λ x. prefixed r ends x l ls) f
prefix_is r ends n symbol.Globally o l ls e s = let f : op.Globally ≡ o = cc in bracket_apart ls (λ _ inner. windowed r ends op.Globally l inner) (prefixed r ends op.Globally l ls) s ∙ ap (λ x. prefixed r ends x l ls) f
prefix_is r ends n _ o l ls e s = absurd cc

window_is : (r : Readers) (ends : Bool) (n : Level) (s : Symbol) (o : Op) (l before : Lexeme) (ls : List Lexeme) → window_of s ≡ Some o → Is symbol.OpenBracket before → prefix_by r ends n s l (before ∷ ls) ≡ windowed r ends o l ls
window_is r ends n symbol.Finally o l before ls e f =
    let g : op.Finally ≡ o = cc in ap (λ b. cond b (windowed r ends op.Finally l ls) (prefixed r ends op.Finally l (before ∷ ls))) (test before.symbol symbol.OpenBracket symbol.OpenBracket f) ∙ ap (λ x. windowed r ends x l ls) g
window_is r ends n symbol.Globally o l before ls e f =
    let g : op.Globally ≡ o = cc in ap (λ b. cond b (windowed r ends op.Globally l ls) (prefixed r ends op.Globally l (before ∷ ls))) (test before.symbol symbol.OpenBracket symbol.OpenBracket f) ∙ ap (λ x. windowed r ends x l ls) g
window_is r ends n _ o l before ls e f = absurd cc

big_is : (r : Readers) (ends : Bool) (n : Level) (s : Symbol) (o : Op) (l : Lexeme) (ls : List Lexeme) → big_of s ≡ Some o → prefix_by r ends n s l ls ≡ big_with r ends o l ls
big_is r ends n symbol.And o l ls e = let f : op.And ≡ o = cc in ap (λ x. big_with r ends x l ls) f
big_is r ends n symbol.Or o l ls e = let f : op.Or ≡ o = cc in ap (λ x. big_with r ends x l ls) f
big_is r ends n _ o l ls e = absurd cc

prefix_step : (ends : Bool) (l : Lexeme) (inner rest : List Lexeme) (t : Tree) (o : Op) → prefix_of l.symbol ≡ Some o → StartsWith begins_any inner → LevelReads ends Prefixes inner t rest
    → LevelReads ends Prefixes (l ∷ inner) (prefix (from_to l.start (tree_span t).end) o t) rest
prefix_step ends l inner rest t o e s a =
    level_step ends Prefixes (l ∷ inner) (prefix (from_to l.start (tree_span t).end) o t) rest a.from (λ depth low.
    prefix_is (readers depth) ends Memberships l.symbol o l inner e s ∙ ap (λ x. go_on x (λ u after. taken (prefix (from_to l.start (tree_span u).end) o u) after)) (a.reads depth low))

count_step : (ends : Bool) (l before last : Lexeme) (inner body rest : List Lexeme) (t u : Tree) → Is symbol.Next l → Is symbol.OpenBracket before → Is symbol.CloseBracket last
    → LevelReads false Releases inner t (last ∷ body) → LevelReads ends Prefixes body u rest → LevelReads ends Prefixes (l ∷ before ∷ inner) (count (from_to l.start (tree_span u).end) t u) rest
count_step ends l before last inner body rest t u e f g a b =
    level_step ends Prefixes _ _ rest (a.from + b.from) (λ depth low. rw (e, f, a.reads depth (omega arith), g, b.reads depth (omega arith)) refl)

window_step : (ends : Bool) (l before colon last : Lexeme) (inner second body rest : List Lexeme) (t u v : Tree) (o : Op) → window_of l.symbol ≡ Some o → Is symbol.OpenBracket before → Is symbol.Colon colon
    → Is symbol.CloseBracket last → LevelReads false Releases inner t (colon ∷ second) → LevelReads false Releases second u (last ∷ body) → LevelReads ends Prefixes body v rest
    → LevelReads ends Prefixes (l ∷ before ∷ inner) (window (from_to l.start (tree_span v).end) o t u v) rest
window_step ends l before colon last inner second body rest t u v o e f h g a b c =
    level_step ends Prefixes _ _ rest (a.from + b.from + c.from) (λ depth low.
    window_is (readers depth) ends Memberships l.symbol o l before inner e f ∙ rw (a.reads depth (omega arith), h, b.reads depth (omega arith), g, c.reads depth (omega arith)) refl)

big_step : (ends : Bool) (l before last : Lexeme) (inner body rest : List Lexeme) (rs : Ranges) (t : Tree) (o : Op) → big_of l.symbol ≡ Some o → Is symbol.OpenBracket before → Is symbol.CloseBracket last
    → RangesReads inner rs (last ∷ body) → LevelReads ends Prefixes body t rest → LevelReads ends Prefixes (l ∷ before ∷ inner) (big (from_to l.start (tree_span t).end) o rs t) rest
big_step ends l before last inner body rest rs t o e f g a b =
    level_step ends Prefixes _ _ rest (a.from + b.from) (λ depth low.
    big_is (readers depth) ends Memberships l.symbol o l (before ∷ inner) e ∙ rw (f, a.reads depth (omega arith), g, b.reads depth (omega arith)) refl)

chain_step : (ends : Bool) (n m : Level) (input middle rest : List Lexeme) (t : Tree) (links : Links) → tighter_of m ≡ Some n → joins_of m ≡ joins.Left → LevelReads ends n input t middle → LinksReads ends m middle links rest
    → LevelReads ends m input (chain_of t links) rest
chain_step ends n m input middle rest t links e j a b =
    level_step ends m _ _ rest (a.from + b.from) (λ depth low. rw (e, j, a.reads depth (omega arith), b.reads depth (omega arith)) refl)

once_step : (ends : Bool) (n m : Level) (input : List Lexeme) (l : Lexeme) (second rest : List Lexeme) (t u : Tree) (o : Op) → tighter_of m ≡ Some n → joins_of m ≡ joins.Once → operator_here ends m (l ∷ second) ≡ Some o
    → LevelReads ends n input t (l ∷ second) → LevelReads ends n second u rest → LevelReads ends m input (pair (from_to (tree_span t).start (tree_span u).end) o t u) rest
once_step ends n m input l second rest t u o e j h a b =
    level_step ends m _ _ rest (a.from + b.from) (λ depth low. rw (e, j, a.reads depth (omega arith), h, b.reads depth (omega arith)) refl)

right_step : (ends : Bool) (n m : Level) (input : List Lexeme) (l : Lexeme) (second rest : List Lexeme) (t u : Tree) (o : Op) → tighter_of m ≡ Some n → joins_of m ≡ joins.Right → operator_here ends m (l ∷ second) ≡ Some o
    → LevelReads ends n input t (l ∷ second) → LevelReads ends m second u rest → LevelReads ends m input (pair (from_to (tree_span t).start (tree_span u).end) o t u) rest
right_step ends n m input l second rest t u o e j h a b =
    level_step ends m _ _ rest (a.from + b.from) (λ depth low. rw (e, j, a.reads depth (omega arith), h, b.reads depth (omega arith)) refl)

link_step : (ends : Bool) (n m : Level) (l : Lexeme) (input middle rest : List Lexeme) (t : Tree) (o : Op) (more : Links) → tighter_of m ≡ Some n → operator_here ends m (l ∷ input) ≡ Some o
    → LevelReads ends n input t middle → LinksReads ends m middle more rest → LinksReads ends m (l ∷ input) (link o t more) rest
link_step ends n m l input middle rest t o more e h a b =
    links_step ends m _ _ rest (a.from + b.from) (λ depth low. rw (e, h, a.reads depth (omega arith), b.reads depth (omega arith)) refl)

-- a sign that closes a list
record Closes (l : Lexeme) : Type 0 where
  ends : Ends l
  comma : symbol_eq l.symbol symbol.Comma ≡ false

closes_of : (s : Symbol) (l : Lexeme) → Is s l → operator_of s ≡ None → symbol_eq s symbol.OpenBracket ≡ false → symbol_eq s symbol.OpenParen ≡ false → symbol_eq s symbol.Comma ≡ false → Closes l
closes_of s l e a b c d = record { ends = ends_of s l e a b c; comma = test l.symbol s symbol.Comma e ∙ d }

list_last : (last : Lexeme) (input rest : List Lexeme) (t : Tree) → Closes last → LevelReads false Releases input t (last ∷ rest) → ListReads input (tree t no_trees) (last ∷ rest)
list_last last input rest t c a = list_step input (tree t no_trees) (last ∷ rest) a.from (λ depth low. rw (a.reads depth low, c.comma) refl)

list_more : (comma : Lexeme) (input second rest : List Lexeme) (t : Tree) (more : Trees) → Is symbol.Comma comma → LevelReads false Releases input t (comma ∷ second) → ListReads second more rest
    → ListReads input (tree t more) rest
list_more comma input second rest t more e a b =
    list_step _ _ rest (a.from + b.from) (λ depth low. rw (a.reads depth (omega arith), e, b.reads depth (omega arith)) refl)

-- what stands after a range
record MoreReads (input : List Lexeme) (more : Ranges) (rest : List Lexeme) : Type 0 where
  from : ℕ
  reads : (depth : ℕ) → from ≤ depth → (f : Ranges → Ranges) → more_ranges (readers depth) input f ≡ taken (f more) rest

members_step : (l sign : Lexeme) (input middle rest : List Lexeme) (t : Tree) (more : Ranges) → Is symbol.Ident l → Is symbol.In sign → LevelReads false Releases input t middle → MoreReads middle more rest
    → RangesReads (l ∷ sign ∷ input) (members (word_of l) t more) rest
members_step l sign input middle rest t more e f a b =
    ranges_step _ _ rest (a.from + b.from) (λ depth low. rw (e, f, a.reads depth (omega arith)) (b.reads depth (omega arith) (λ others. members (word_of l) t others)))

between_step : (low_sign word high_sign : Lexeme) (input second middle rest : List Lexeme) (t u : Tree) (low high : Bool) (more : Ranges)
    → ((r : Readers) → ranges_with r input ≡ between_with r input) → bound_of low_sign.symbol ≡ Some low → Is symbol.Ident word → bound_of high_sign.symbol ≡ Some high
    → LevelReads false Sums input t (low_sign ∷ word ∷ high_sign ∷ second) → LevelReads false Sums second u middle → MoreReads middle more rest
    → RangesReads input (between t low (word_of word) high u more) rest
between_step low_sign word high_sign input second middle rest t u low high more apart e f g a b c =
    ranges_step _ _ rest (a.from + b.from + c.from) (λ depth below.
    apart (readers depth) ∙ rw (a.reads depth (omega arith), e, f, g, b.reads depth (omega arith)) (c.reads depth (omega arith) (λ others. between t low (word_of word) high u others)))

-- what follows operands and ranges

links_follow : (m : Level) (ms : List Lexeme) (links : Links) → DerivesLinks m ms links → (ends : Bool) (n : Level) (xs ls rest : List Lexeme) → level_number n < level_number m → Follows ends m (xs ++ (ls ++ ms)) rest
    → Follows ends n ls (ms ++ rest)
links_follow m ms links (of_no_link k) ends n xs ls rest low f =
    follows_part ends k n (xs ++ (ls ++ [])) ls rest (λ e. ends-append xs (ls ++ []) (subst EndsWithName (sym (append-nil ls)) e)) (omega arith) f
links_follow m ms links (of_link n' k l ns ps t o more a b c d) ends n xs ls rest low f = operator_follows ends n k ls l ((ns ++ ps) ++ rest) o b low

more_follow : (ms : List Lexeme) (more : Ranges) → DerivesMoreRanges ms more → (n : Level) (ls : List Lexeme) (last : Lexeme) (rest : List Lexeme) → Closes last → Follows false n ls (ms ++ last ∷ rest)
more_follow ms more of_no_range n ls last rest c = ends_follow n ls last rest c.ends
more_follow ms more (of_range comma ns rs e d) n ls last rest c = ends_follow n ls comma (ns ++ last ∷ rest) (ends_of symbol.Comma comma e refl refl refl)

left_alike : {A : Type 0} {a b : A} {xs ys : List Lexeme} → taken a xs ≡ taken b ys → xs ≡ ys
left_alike e = cc

is_bound : Symbol → Bool
is_bound s = is_some (bound_of s)

-- the lower bound of a range doesn't begin with a name and `IN`
no_member : (ls : List Lexeme) (low_sign : Lexeme) (more : List Lexeme) (t : Tree) (low : Bool) → StartsWith begins_any ls → bound_of low_sign.symbol ≡ Some low → LevelReads false Sums (ls ++ low_sign ∷ more) t (low_sign ∷ more)
    → (r : Readers) → ranges_with r (ls ++ low_sign ∷ more) ≡ between_with r (ls ++ low_sign ∷ more)
unfolding is_bound
no_member [] low_sign more t low s e a r = absurd s
no_member (x ∷ []) low_sign more t low s e a r =
    ap (λ b. cond (symbol_eq x.symbol symbol.Ident && b) (go_on (r.level false Releases more) (λ u after. more_ranges r after (λ others. members (word_of x) u others))) (between_with r (x ∷ low_sign ∷ more)))
    (not_symbol is_bound low_sign.symbol symbol.In (ap is_some e) refl)
    ∙ ap (λ b. cond b (go_on (r.level false Releases more) (λ u after. more_ranges r after (λ others. members (word_of x) u others))) (between_with r (x ∷ low_sign ∷ more))) (and-false (symbol_eq x.symbol symbol.Ident))
no_member (x ∷ y ∷ zs) low_sign more t low s e a r = by (symbol_eq x.symbol symbol.Ident) refl (symbol_eq y.symbol symbol.In) refl
  where
    by : (b : Bool) → symbol_eq x.symbol symbol.Ident ≡ b → (c : Bool) → symbol_eq y.symbol symbol.In ≡ c
        → cond (b && c) (go_on (r.level false Releases (zs ++ low_sign ∷ more)) (λ u after. more_ranges r after (λ others. members (word_of x) u others))) (between_with r (x ∷ y ∷ (zs ++ low_sign ∷ more)))
        ≡ between_with r (x ∷ y ∷ (zs ++ low_sign ∷ more))
    by false f c g = refl
    by true f false g = refl
    by true f true g =
        let in_sign : y.symbol ≡ symbol.In = same_symbol y.symbol symbol.In g in
        let n : LevelReads false Sums (x ∷ y ∷ (zs ++ low_sign ∷ more)) (named (lexeme_span x) x.text) (y ∷ (zs ++ low_sign ∷ more)) =
        name_reads_sum x (y ∷ (zs ++ low_sign ∷ more)) (same_symbol x.symbol symbol.Ident f)
        (operator_follows false Sums Memberships (x ∷ []) y (zs ++ low_sign ∷ more) op.Element (ap operator_of in_sign) (omega arith)) in
        let same : y ∷ (zs ++ low_sign ∷ more) ≡ low_sign ∷ more = left_alike (sym (n.reads (a.from + n.from) (omega arith)) ∙ a.reads (a.from + n.from) (omega arith)) in
        let long : suc (length (zs ++ low_sign ∷ more)) ≡ suc (length more) = ap length same in
        let sum : length (zs ++ low_sign ∷ more) ≡ length zs + suc (length more) = length-append zs (low_sign ∷ more) in
        absurd (omega arith)

abbrev pub HasTree : Trees → Type 0
HasTree no_trees = ⊥
HasTree (tree t more) = Unit {0}

follows_self : (ends : Bool) (n : Level) (ls ms rest : List Lexeme) → (EndsWithName ms → EndsWithName ls) → Follows ends n ls rest → Follows ends n ms rest
follows_self ends n ls ms rest part f = record { operators = f.operators; bracket = f.bracket; call = λ e. f.call (part e) }

primary_operator : (s : Symbol) → at_level Primary (operator_of s) ≡ None
primary_operator symbol.Star = refl
primary_operator _ = refl

only_primary : (k : Level) → level_number k ≤ 0 → k ≡ Primary
only_primary Primary h = refl
only_primary _ h = absurd (omega arith)

-- no operator is so tight that a primary could go on with it
primary_follows : (ends : Bool) (ls ms rest : List Lexeme) → (EndsWithName ms → EndsWithName ls) → Follows ends Primary ls rest → Follows false Primary ms rest
primary_follows ends ls ms rest part f = record { operators = λ k h. by rest k (only_primary k h); bracket = f.bracket; call = λ e. f.call (part e) }
  where
    by : (rest : List Lexeme) (k : Level) → k ≡ Primary → operator_here false k rest ≡ None
    by [] k e = refl
    by (l ∷ ls) k e = ap (λ x. at_level x (operator_of l.symbol)) e ∙ primary_operator l.symbol

bound_operator : (s : Symbol) (b : Bool) → bound_of s ≡ Some b → (o : Op) × (operator_of s ≡ Some (Comparisons, o))
bound_operator symbol.Less b e = (op.Less, refl)
bound_operator symbol.LessEqual b e = (op.LessEqual, refl)
bound_operator _ b e = absurd cc

bound_follows : (n : Level) (ls : List Lexeme) (sign : Lexeme) (more : List Lexeme) (low : Bool) → bound_of sign.symbol ≡ Some low → level_number n < 7 → Follows false n ls (sign ∷ more)
bound_follows n ls sign more low e h =
    let o : (o : Op) × (operator_of sign.symbol ≡ Some (Comparisons, o)) = bound_operator sign.symbol low e in operator_follows false n Comparisons ls sign more o.0 o.1 h

mutual
  pub level_reads : (n : Level) (ls : List Lexeme) (t : Tree) → Derives n ls t → (ends : Bool) (rest : List Lexeme) → Follows ends n ls rest → LevelReads ends n (ls ++ rest) t rest
  level_reads n ls t (of_number l e) ends rest f =
      level_step ends Primary _ _ rest 0 (λ depth low. rw e refl)
  level_reads n ls t (of_true l e) ends rest f =
      level_step ends Primary _ _ rest 0 (λ depth low. rw e refl)
  level_reads n ls t (of_false l e) ends rest f =
      level_step ends Primary _ _ rest 0 (λ depth low. rw e refl)
  level_reads n ls t (of_name l e) ends rest f = name_reads ends l rest e (f.call e) f.bracket
  level_reads n ls t (of_call l before after ms u more e g d h) ends rest f =
      same_level ends Primary (l ∷ before ∷ (ms ++ after ∷ rest)) (l ∷ before ∷ ((ms ++ after ∷ []) ++ rest)) (call (from_to l.start after.end) (word_of l) (tree u more))
      (call (span_of (l ∷ before ∷ ms ++ after ∷ [])) (word_of l) (tree u more)) rest
      (ap (λ x. l ∷ before ∷ x) (append_assoc ms (after ∷ []) rest)) (ap (λ s. call s (word_of l) (tree u more)) (sym (span_closed l (before ∷ ms) after)))
      (call_step ends l before after (ms ++ after ∷ rest) rest (tree u more) e g h (list_reads ms (tree u more) d tt after rest (closes_of symbol.CloseParen after h refl refl refl refl)))
  level_reads n ls t (of_index l before after ms u e g d h) ends rest f =
      same_level ends Primary (l ∷ before ∷ (ms ++ after ∷ rest)) (l ∷ before ∷ ((ms ++ after ∷ []) ++ rest)) (index (from_to l.start after.end) (word_of l) u)
      (index (span_of (l ∷ before ∷ ms ++ after ∷ [])) (word_of l) u) rest
      (ap (λ x. l ∷ before ∷ x) (append_assoc ms (after ∷ []) rest)) (ap (λ s. index s (word_of l) u) (sym (span_closed l (before ∷ ms) after)))
      (index_step ends l before after (ms ++ after ∷ rest) rest u e g h
      (level_reads Releases ms u d false (after ∷ rest) (ends_follow Releases ms after rest (ends_of symbol.CloseBracket after h refl refl refl))))
  level_reads n ls t (of_size l ms u e d) ends rest f =
      same_level ends Primary (l ∷ (ms ++ rest)) (l ∷ (ms ++ rest)) (size_of (from_to l.start (tree_span u).end) u) (size_of (span_of (l ∷ ms)) u) rest refl
      (ap (λ x. size_of (from_to l.start x) u) (sym (derived_end Primary ms u l.end d)))
      (size_step ends l (ms ++ rest) rest u e (level_reads Primary ms u d false rest (primary_follows ends (l ∷ ms) ms rest (λ x. ends-append (l ∷ []) ms x) f)))
  level_reads n ls t (of_paren before after ms u e d h) ends rest f =
      same_level ends Primary (before ∷ (ms ++ after ∷ rest)) (before ∷ ((ms ++ after ∷ []) ++ rest)) (paren (from_to before.start after.end) u) (paren (span_of (before ∷ ms ++ after ∷ [])) u) rest
      (ap (λ x. before ∷ x) (append_assoc ms (after ∷ []) rest)) (ap (λ s. paren s u) (sym (span_closed before ms after)))
      (paren_step ends before after (ms ++ after ∷ rest) rest u e h
      (level_reads Releases ms u d false (after ∷ rest) (ends_follow Releases ms after rest (ends_of symbol.CloseParen after h refl refl refl))))
  level_reads n ls t (of_set before after ms us e d h) ends rest f =
      same_level ends Primary (before ∷ (ms ++ after ∷ rest)) (before ∷ ((ms ++ after ∷ []) ++ rest)) (set (from_to before.start after.end) us) (set (span_of (before ∷ ms ++ after ∷ [])) us) rest
      (ap (λ x. before ∷ x) (append_assoc ms (after ∷ []) rest)) (ap (λ s. set s us) (sym (span_closed before ms after))) (set_reads ms us d ends before after rest e h)
  level_reads n ls t (of_steps before comma dots after ms ns ps u v w e d1 g d2 i d3 h) ends rest f =
      same_level ends Primary (before ∷ (ms ++ comma ∷ (ns ++ dots ∷ (ps ++ after ∷ rest)))) (before ∷ ((ms ++ comma ∷ ns ++ dots ∷ ps ++ after ∷ []) ++ rest))
      (steps (from_to before.start after.end) u v w) (steps (span_of (before ∷ ms ++ comma ∷ ns ++ dots ∷ ps ++ after ∷ [])) u v w) rest
      (ap (λ x. before ∷ x) (append_assoc ((ms ++ comma ∷ ns) ++ dots ∷ ps) (after ∷ []) rest ∙ append_assoc (ms ++ comma ∷ ns) (dots ∷ ps) (after ∷ rest) ∙ append_assoc ms (comma ∷ ns) (dots ∷ (ps ++ after ∷ rest))))
      (ap (λ s. steps s u v w) (sym (span_closed before ((ms ++ comma ∷ ns) ++ dots ∷ ps) after)))
      (steps_step ends before comma dots after (ms ++ comma ∷ (ns ++ dots ∷ (ps ++ after ∷ rest))) (ns ++ dots ∷ (ps ++ after ∷ rest)) (ps ++ after ∷ rest) rest u v w e g i h
      (StartsWith-append begins_any ms (comma ∷ (ns ++ dots ∷ (ps ++ after ∷ rest))) (starts_any Releases ms u d1))
      (level_reads Releases ms u d1 false (comma ∷ (ns ++ dots ∷ (ps ++ after ∷ rest))) (ends_follow Releases ms comma (ns ++ dots ∷ (ps ++ after ∷ rest)) (ends_of symbol.Comma comma g refl refl refl)))
      (level_reads Releases ns v d2 false (dots ∷ (ps ++ after ∷ rest)) (ends_follow Releases ns dots (ps ++ after ∷ rest) (ends_of symbol.Dots dots i refl refl refl)))
      (level_reads Releases ps w d3 false (after ∷ rest) (ends_follow Releases ps after rest (ends_of symbol.CloseBrace after h refl refl refl))))
  level_reads n ls t (of_tighter k m ms u e d) ends rest f =
      let low : level_number m ≡ suc (level_number k) = tighter_number m k e in
      tighter_reads ends k m ms u rest e (λ h. starts_primary k ms u d h) (f.operators m (omega arith)) (level_reads k ms u d ends rest (follows_part ends m k ms ms rest (λ x. x) (omega arith) f))
  level_reads n ls t (of_chain k m ms ns u v o more e j d links) ends rest f =
      let low : level_number m ≡ suc (level_number k) = tighter_number m k e in
      same_level ends m (ms ++ (ns ++ rest)) ((ms ++ ns) ++ rest) (chain (from_to (tree_span u).start (links_end (tree_span v).end more)) u (link o v more)) (chain (span_of (ms ++ ns)) u (link o v more)) rest
      (append_assoc ms ns rest) (ap (λ s. chain s u (link o v more)) (sym (span_join k ms ns u (links_end (tree_span v).end more) d (λ x. links_ends m ns (link o v more) x links))))
      (chain_step ends k m (ms ++ (ns ++ rest)) (ns ++ rest) rest u (link o v more) e j
      (level_reads k ms u d ends (ns ++ rest) (links_follow m ns (link o v more) links ends k [] ms rest (omega arith) f))
      (links_reads m ns (link o v more) links ends rest (follows_self ends m (ms ++ ns) ns rest (λ x. ends-append ms ns x) f)))
  level_reads n ls t (of_once k m l ms ns u v o e j d g d2) ends rest f =
      let low : level_number m ≡ suc (level_number k) = tighter_number m k e in
      same_level ends m (ms ++ l ∷ (ns ++ rest)) ((ms ++ l ∷ ns) ++ rest) (pair (from_to (tree_span u).start (tree_span v).end) o u v) (pair (span_of (ms ++ l ∷ ns)) o u v) rest
      (append_assoc ms (l ∷ ns) rest) (ap (λ s. pair s o u v) (sym (span_join k ms (l ∷ ns) u (tree_span v).end d (λ x. derived_end k ns v l.end d2))))
      (once_step ends k m (ms ++ l ∷ (ns ++ rest)) l (ns ++ rest) rest u v o e j (operator_found ends m l (ns ++ rest) o g (StartsWith-append begins_any ns rest (starts_any k ns v d2)))
      (level_reads k ms u d ends (l ∷ (ns ++ rest)) (operator_follows ends k m ms l (ns ++ rest) o g (omega arith)))
      (level_reads k ns v d2 ends rest (follows_part ends m k (ms ++ l ∷ ns) ns rest (λ x. ends-append ms (l ∷ ns) (ends-append (l ∷ []) ns x)) (omega arith) f)))
  level_reads n ls t (of_right k m l ms ns u v o e j d g d2) ends rest f =
      let low : level_number m ≡ suc (level_number k) = tighter_number m k e in
      same_level ends m (ms ++ l ∷ (ns ++ rest)) ((ms ++ l ∷ ns) ++ rest) (pair (from_to (tree_span u).start (tree_span v).end) o u v) (pair (span_of (ms ++ l ∷ ns)) o u v) rest
      (append_assoc ms (l ∷ ns) rest) (ap (λ s. pair s o u v) (sym (span_join k ms (l ∷ ns) u (tree_span v).end d (λ x. derived_end m ns v l.end d2))))
      (right_step ends k m (ms ++ l ∷ (ns ++ rest)) l (ns ++ rest) rest u v o e j (operator_found ends m l (ns ++ rest) o g (StartsWith-append begins_any ns rest (starts_any m ns v d2)))
      (level_reads k ms u d ends (l ∷ (ns ++ rest)) (operator_follows ends k m ms l (ns ++ rest) o g (omega arith)))
      (level_reads m ns v d2 ends rest (follows_self ends m (ms ++ l ∷ ns) ns rest (λ x. ends-append ms (l ∷ ns) (ends-append (l ∷ []) ns x)) f)))
  level_reads n ls t (of_prefix l ms u o e d) ends rest f =
      same_level ends Prefixes (l ∷ (ms ++ rest)) (l ∷ (ms ++ rest)) (prefix (from_to l.start (tree_span u).end) o u) (prefix (span_of (l ∷ ms)) o u) rest refl
      (ap (λ x. prefix (from_to l.start x) o u) (sym (derived_end Prefixes ms u l.end d)))
      (prefix_step ends l (ms ++ rest) rest u o e (StartsWith-append begins_any ms rest (starts_any Prefixes ms u d))
      (level_reads Prefixes ms u d ends rest (follows_self ends Prefixes (l ∷ ms) ms rest (λ x. ends-append (l ∷ []) ms x) f)))
  level_reads n ls t (of_count l before after ms ns u v e g d h d2) ends rest f =
      same_level ends Prefixes (l ∷ before ∷ (ms ++ after ∷ (ns ++ rest))) (l ∷ before ∷ ((ms ++ after ∷ ns) ++ rest)) (count (from_to l.start (tree_span v).end) u v)
      (count (span_of (l ∷ before ∷ ms ++ after ∷ ns)) u v) rest (ap (λ x. l ∷ before ∷ x) (append_assoc ms (after ∷ ns) rest))
      (ap (λ x. count (from_to l.start x) u v) (sym (end_append before.end ms (after ∷ ns) ∙ derived_end Prefixes ns v after.end d2)))
      (count_step ends l before after (ms ++ after ∷ (ns ++ rest)) (ns ++ rest) rest u v e g h
      (level_reads Releases ms u d false (after ∷ (ns ++ rest)) (ends_follow Releases ms after (ns ++ rest) (ends_of symbol.CloseBracket after h refl refl refl)))
      (level_reads Prefixes ns v d2 ends rest (follows_self ends Prefixes (l ∷ before ∷ ms ++ after ∷ ns) ns rest (λ x. ends-append (l ∷ before ∷ ms) (after ∷ ns) (ends-append (after ∷ []) ns x)) f)))
  level_reads n ls t (of_window l before colon after ms ns ps u v w o e g d1 i d2 h d3) ends rest f =
      same_level ends Prefixes (l ∷ before ∷ (ms ++ colon ∷ (ns ++ after ∷ (ps ++ rest)))) (l ∷ before ∷ ((ms ++ colon ∷ ns ++ after ∷ ps) ++ rest)) (window (from_to l.start (tree_span w).end) o u v w)
      (window (span_of (l ∷ before ∷ ms ++ colon ∷ ns ++ after ∷ ps)) o u v w) rest
      (ap (λ x. l ∷ before ∷ x) (append_assoc (ms ++ colon ∷ ns) (after ∷ ps) rest ∙ append_assoc ms (colon ∷ ns) (after ∷ (ps ++ rest))))
      (ap (λ x. window (from_to l.start x) o u v w)
      (sym (end_append before.end (ms ++ colon ∷ ns) (after ∷ ps) ∙ derived_end Prefixes ps w after.end d3)))
      (window_step ends l before colon after (ms ++ colon ∷ (ns ++ after ∷ (ps ++ rest))) (ns ++ after ∷ (ps ++ rest)) (ps ++ rest) rest u v w o e g i h
      (level_reads Releases ms u d1 false (colon ∷ (ns ++ after ∷ (ps ++ rest))) (ends_follow Releases ms colon (ns ++ after ∷ (ps ++ rest)) (ends_of symbol.Colon colon i refl refl refl)))
      (level_reads Releases ns v d2 false (after ∷ (ps ++ rest)) (ends_follow Releases ns after (ps ++ rest) (ends_of symbol.CloseBracket after h refl refl refl)))
      (level_reads Prefixes ps w d3 ends rest (follows_self ends Prefixes (l ∷ before ∷ ms ++ colon ∷ ns ++ after ∷ ps) ps rest
      (λ x. ends-append (l ∷ before ∷ (ms ++ colon ∷ ns)) (after ∷ ps) (ends-append (after ∷ []) ps x)) f)))
  level_reads n ls t (of_big l before after ms ns rs u o e g d h d2) ends rest f =
      same_level ends Prefixes (l ∷ before ∷ (ms ++ after ∷ (ns ++ rest))) (l ∷ before ∷ ((ms ++ after ∷ ns) ++ rest)) (big (from_to l.start (tree_span u).end) o rs u)
      (big (span_of (l ∷ before ∷ ms ++ after ∷ ns)) o rs u) rest (ap (λ x. l ∷ before ∷ x) (append_assoc ms (after ∷ ns) rest))
      (ap (λ x. big (from_to l.start x) o rs u) (sym (end_append before.end ms (after ∷ ns) ∙ derived_end Prefixes ns u after.end d2)))
      (big_step ends l before after (ms ++ after ∷ (ns ++ rest)) (ns ++ rest) rest rs u o e g h
      (ranges_reads ms rs d after (ns ++ rest) (closes_of symbol.CloseBracket after h refl refl refl refl))
      (level_reads Prefixes ns u d2 ends rest (follows_self ends Prefixes (l ∷ before ∷ ms ++ after ∷ ns) ns rest (λ x. ends-append (l ∷ before ∷ ms) (after ∷ ns) (ends-append (after ∷ []) ns x)) f)))

  list_reads : (ls : List Lexeme) (ts : Trees) → DerivesList ls ts → HasTree ts → (last : Lexeme) (rest : List Lexeme) → Closes last → ListReads (ls ++ last ∷ rest) ts (last ∷ rest)
  list_reads ls ts of_none h last rest c = absurd h
  list_reads ls ts (of_last ms t d) h last rest c = list_last last (ms ++ last ∷ rest) rest t c (level_reads Releases ms t d false (last ∷ rest) (ends_follow Releases ms last rest c.ends))
  list_reads ls ts (of_more comma ms ns t u more d e ds) h last rest c =
      same_input (λ depth. (readers depth).list) (ms ++ comma ∷ (ns ++ last ∷ rest)) ((ms ++ comma ∷ ns) ++ last ∷ rest) (tree t (tree u more)) (last ∷ rest) (append_assoc ms (comma ∷ ns) (last ∷ rest))
      (list_more comma (ms ++ comma ∷ (ns ++ last ∷ rest)) (ns ++ last ∷ rest) (last ∷ rest) t (tree u more) e
      (level_reads Releases ms t d false (comma ∷ (ns ++ last ∷ rest)) (ends_follow Releases ms comma (ns ++ last ∷ rest) (ends_of symbol.Comma comma e refl refl refl)))
      (list_reads ns (tree u more) ds tt last rest c))

  set_reads : (ls : List Lexeme) (ts : Trees) → DerivesList ls ts → (ends : Bool) (before after : Lexeme) (rest : List Lexeme) → Is symbol.OpenBrace before → Is symbol.CloseBrace after
      → LevelReads ends Primary (before ∷ (ls ++ after ∷ rest)) (set (from_to before.start after.end) ts) rest
  set_reads ls ts of_none ends before after rest e h = set_none ends before after rest e h
  set_reads ls ts (of_last ms t d) ends before after rest e h =
      set_one ends before after (ms ++ after ∷ rest) rest t e h (StartsWith-append begins_any ms (after ∷ rest) (starts_any Releases ms t d))
      (level_reads Releases ms t d false (after ∷ rest) (ends_follow Releases ms after rest (ends_of symbol.CloseBrace after h refl refl refl)))
  set_reads ls ts (of_more comma ms ns t u more d g ds) ends before after rest e h =
      same_level ends Primary (before ∷ (ms ++ comma ∷ (ns ++ after ∷ rest))) (before ∷ ((ms ++ comma ∷ ns) ++ after ∷ rest)) (set (from_to before.start after.end) (tree t (tree u more)))
      (set (from_to before.start after.end) (tree t (tree u more))) rest (ap (λ x. before ∷ x) (append_assoc ms (comma ∷ ns) (after ∷ rest))) refl
      (set_more_reads ns u more ds ends before after comma (ms ++ comma ∷ (ns ++ after ∷ rest)) rest t e h g (StartsWith-append begins_any ms (comma ∷ (ns ++ after ∷ rest)) (starts_any Releases ms t d))
      (level_reads Releases ms t d false (comma ∷ (ns ++ after ∷ rest)) (ends_follow Releases ms comma (ns ++ after ∷ rest) (ends_of symbol.Comma comma g refl refl refl))))

  set_more_reads : (ls : List Lexeme) (u : Tree) (more : Trees) → DerivesList ls (tree u more) → (ends : Bool) (before after comma : Lexeme) (input rest : List Lexeme) (t : Tree) → Is symbol.OpenBrace before
      → Is symbol.CloseBrace after → Is symbol.Comma comma → StartsWith begins_any input → LevelReads false Releases input t (comma ∷ (ls ++ after ∷ rest))
      → LevelReads ends Primary (before ∷ input) (set (from_to before.start after.end) (tree t (tree u more))) rest
  set_more_reads ls u more (of_last ms v d) ends before after comma input rest t e h g s a =
      set_two ends before comma after input (ms ++ after ∷ rest) rest t v e g h s a
      (level_reads Releases ms v d false (after ∷ rest) (ends_follow Releases ms after rest (ends_of symbol.CloseBrace after h refl refl refl)))
  set_more_reads ls u more (of_more sign ms ns v w others d i ds) ends before after comma input rest t e h g s a =
      let b : LevelReads false Releases ((ms ++ sign ∷ ns) ++ after ∷ rest) v (sign ∷ (ns ++ after ∷ rest)) =
      same_level false Releases (ms ++ sign ∷ (ns ++ after ∷ rest)) ((ms ++ sign ∷ ns) ++ after ∷ rest) v v (sign ∷ (ns ++ after ∷ rest)) (append_assoc ms (sign ∷ ns) (after ∷ rest)) refl
      (level_reads Releases ms v d false (sign ∷ (ns ++ after ∷ rest)) (ends_follow Releases ms sign (ns ++ after ∷ rest) (ends_of symbol.Comma sign i refl refl refl))) in
      set_many ends before comma sign after input ((ms ++ sign ∷ ns) ++ after ∷ rest) (ns ++ after ∷ rest) rest t v (tree w others) e g i h s a b
      (list_reads ns (tree w others) ds tt after rest (closes_of symbol.CloseBrace after h refl refl refl refl))

  links_reads : (m : Level) (ms : List Lexeme) (links : Links) → DerivesLinks m ms links → (ends : Bool) (rest : List Lexeme) → Follows ends m ms rest → LinksReads ends m (ms ++ rest) links rest
  links_reads m ms links (of_no_link k) ends rest f = no_links_read ends k rest (f.operators k (omega arith))
  links_reads m ms links (of_link n k l ns ps t o more e g d others) ends rest f =
      let low : level_number k ≡ suc (level_number n) = tighter_number k n e in
      same_input (λ depth. (readers depth).links ends k) (l ∷ (ns ++ (ps ++ rest))) (l ∷ ((ns ++ ps) ++ rest)) (link o t more) rest (ap (λ x. l ∷ x) (append_assoc ns ps rest))
      (link_step ends n k l (ns ++ (ps ++ rest)) (ps ++ rest) rest t o more e (operator_found ends k l (ns ++ (ps ++ rest)) o g (StartsWith-append begins_any ns (ps ++ rest) (starts_any n ns t d)))
      (level_reads n ns t d ends (ps ++ rest) (links_follow k ps more others ends n (l ∷ []) ns rest (omega arith) f))
      (links_reads k ps more others ends rest (follows_self ends k (l ∷ ns ++ ps) ps rest (λ x. ends-append (l ∷ ns) ps x) f)))

  ranges_reads : (ls : List Lexeme) (rs : Ranges) → DerivesRanges ls rs → (last : Lexeme) (rest : List Lexeme) → Closes last → RangesReads (ls ++ last ∷ rest) rs (last ∷ rest)
  ranges_reads ls rs (of_members l sign ms ns t more e g d others) last rest c =
      same_input (λ depth. (readers depth).ranges) (l ∷ sign ∷ (ms ++ (ns ++ last ∷ rest))) (l ∷ sign ∷ ((ms ++ ns) ++ last ∷ rest)) (members (word_of l) t more) (last ∷ rest) (ap (λ x. l ∷ sign ∷ x) (append_assoc ms ns (last ∷ rest)))
      (members_step l sign (ms ++ (ns ++ last ∷ rest)) (ns ++ last ∷ rest) (last ∷ rest) t more e g
      (level_reads Releases ms t d false (ns ++ last ∷ rest) (more_follow ns more others Releases ms last rest c)) (more_reads ns more others last rest c))
  ranges_reads ls rs (of_between low_sign l high_sign ms ns ps t u low high more d e g h d2 others) last rest c =
      let a : LevelReads false Sums (ms ++ low_sign ∷ l ∷ high_sign ∷ (ns ++ (ps ++ last ∷ rest))) t (low_sign ∷ l ∷ high_sign ∷ (ns ++ (ps ++ last ∷ rest))) =
      level_reads Sums ms t d false (low_sign ∷ l ∷ high_sign ∷ (ns ++ (ps ++ last ∷ rest))) (bound_follows Sums ms low_sign (l ∷ high_sign ∷ (ns ++ (ps ++ last ∷ rest))) low e (omega arith)) in
      same_input (λ depth. (readers depth).ranges) (ms ++ low_sign ∷ l ∷ high_sign ∷ (ns ++ (ps ++ last ∷ rest))) ((ms ++ low_sign ∷ l ∷ high_sign ∷ ns ++ ps) ++ last ∷ rest) (between t low (word_of l) high u more) (last ∷ rest)
      (append_assoc (ms ++ low_sign ∷ l ∷ high_sign ∷ ns) ps (last ∷ rest) ∙ append_assoc ms (low_sign ∷ l ∷ high_sign ∷ ns) (ps ++ last ∷ rest))
      (between_step low_sign l high_sign (ms ++ low_sign ∷ l ∷ high_sign ∷ (ns ++ (ps ++ last ∷ rest))) (ns ++ (ps ++ last ∷ rest)) (ps ++ last ∷ rest) (last ∷ rest) t u low high more
      (no_member ms low_sign (l ∷ high_sign ∷ (ns ++ (ps ++ last ∷ rest))) t low (starts_any Sums ms t d) e a) e g h a
      (level_reads Sums ns u d2 false (ps ++ last ∷ rest) (more_follow ps more others Sums ns last rest c)) (more_reads ps more others last rest c))

  more_reads : (ms : List Lexeme) (more : Ranges) → DerivesMoreRanges ms more → (last : Lexeme) (rest : List Lexeme) → Closes last → MoreReads (ms ++ last ∷ rest) more (last ∷ rest)
  more_reads ms more of_no_range last rest c = record { from = 0; reads = λ depth low f. ap (λ b. cond b (go_on ((readers depth).ranges rest) (λ others after. taken (f others) after)) (taken (f no_ranges) (last ∷ rest))) c.comma }
  more_reads ms more (of_range comma ns rs e d) last rest c =
      let a : RangesReads (ns ++ last ∷ rest) rs (last ∷ rest) = ranges_reads ns rs d last rest c in
      record {
        from = a.from;
        reads = λ depth low f.
            ap (λ b. cond b (go_on ((readers depth).ranges (ns ++ last ∷ rest)) (λ others after. taken (f others) after)) (taken (f no_ranges) (comma ∷ (ns ++ last ∷ rest)))) (test comma.symbol symbol.Comma symbol.Comma e)
            ∙ ap (λ x. go_on x (λ others after. taken (f others) after)) (a.reads depth low);
      }

pub nothing_follows : (n : Level) (ls : List Lexeme) → Follows false n ls []
nothing_follows n ls = record { operators = λ m h. refl; bracket = refl; call = λ _. refl }

pub one_tree : (n : Level) (ls : List Lexeme) (t u : Tree) → Derives n ls t → Derives n ls u → t ≡ u
one_tree n ls t u d e =
    let a : LevelReads false n (ls ++ []) t [] = level_reads n ls t d false [] (nothing_follows n ls) in
    let b : LevelReads false n (ls ++ []) u [] = level_reads n ls u e false [] (nothing_follows n ls) in
    let e : taken t [] ≡ taken u [] = sym (a.reads (a.from + b.from) (omega arith)) ∙ b.reads (a.from + b.from) (omega arith) in cc
