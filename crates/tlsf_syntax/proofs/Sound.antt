-- What is read is derived, and what stands before a refused lexeme begins something that is derived.
use Rattle.std.proofs.Common.{◌≡◌, ◌≤◌, ℕ, zero, suc, ◌==◌, Bool, true, false, ◌&&◌, cond, List, [], ◌∷◌, ◌++◌, length, drop, Option, None, Some, refl, sym, ◌∙◌, ap, subst, append_assoc}
use Rattle.std.proofs.lemmas.Bool.{eqb-true}
use Rattle.std.proofs.lemmas.List.{append-nil}
use Rattle.tlsf_syntax.specs.declared.expr.Op.{Op}
use Rattle.tlsf_syntax.specs.declared.expr.Op.TheVariants as op
use Rattle.tlsf_tokens.specs.declared.symbol.Symbol.{Symbol}
use Rattle.tlsf_tokens.specs.declared.symbol.Symbol.TheVariants as symbol
use Rattle.tlsf_syntax.specs.Tree.{Tree, Trees, Links, Ranges, tree_span, named, call, index, size_of, paren, set, steps, chain, pair, prefix, count, window, big, no_trees, tree, no_links, link, no_ranges, members, between}
use Rattle.tlsf_syntax.specs.Lexemes.{Lexeme, Is, word_of, span_of, lexeme_span}
use Rattle.tlsf_syntax.specs.Symbols.{symbol_eq}
use Rattle.tlsf_syntax.specs.declared.level.Level.{Level}
use Rattle.tlsf_syntax.specs.declared.level.Level.TheVariants.{Primary, Sums, Memberships, Prefixes, Releases}
use Rattle.tlsf_syntax.specs.declared.level.Joins.{Joins}
use Rattle.tlsf_syntax.specs.declared.level.Joins.TheVariants as joins
use Rattle.tlsf_syntax.specs.Expressions.{tighter_of, joins_of, operator_of, prefix_of, window_of, big_of, bound_of, Derives, of_number, of_true, of_false, of_name, of_call, of_index, of_size, of_paren, of_set, of_steps, of_tighter, of_chain, of_once, of_right, of_prefix, of_count, of_window, of_big, DerivesList, of_none, of_last, of_more, DerivesLinks, of_no_link, of_link, DerivesRanges, of_members, of_between, DerivesMoreRanges, of_no_range, of_range}
use Rattle.tlsf_syntax.specs.Reading.{Answer, taken, refused, lost, go_on, begins, expect, if_next, level_number, at_level, begins_big, operator_at, operator_here, Readers, chain_of, joined_by, links_end, from_to, word_with, set_with, set_third, close_set, primary_by, primary_with, prefix_by, prefix_with, prefixed, counted, windowed, big_with, level_by, level_with, list_with, linked, links_with, more_ranges, bounded, bound, between_with, ranges_with, readers, IsFrontOf, ExpressionsAreReadExactly}
use Rattle.tlsf_syntax.proofs.Symbols.{same_symbol, is_symbol}
use Rattle.tlsf_syntax.proofs.Reading.{LevelReads, level_reads, nothing_follows, HasTree}
use Rattle.tlsf_syntax.specs.Texts.{EndsWithName}
use Rattle.tlsf_syntax.proofs.Starts.{begins_any, StartsWith, starts_any, no_tighter, same_level, end_append, derived_end, links_ends, span_join, span_closed}
use Rattle.tlsf_syntax.proofs.Completes.{Completes, completes, full, cut, Opens, opens_here, lift, sign, ex, example, nothing_begins}

-- no name stands at the end before `(`: it would have been called
abbrev pub Uncalled : List Lexeme → List Lexeme → Type 0
Uncalled front rest = EndsWithName front → begins symbol.OpenParen rest ≡ false

-- what was taken stands in front of what is left and is derived; what stands before a refused lexeme goes on to something derived
pub data Answers {A : Type 0} (D : List Lexeme → A → Type 0) (input : List Lexeme) : Answer A → Type 0 where
  answers_taken : (a : A) (rest front : List Lexeme) → input ≡ front ++ rest → D front a → Uncalled front rest → Answers D input (taken a rest)
  answers_refused : (k : ℕ) → Opens D input k → Answers D input (refused k)
  answers_lost : Answers D input lost

-- names at the end

-- a list ends as its last part does
ends_part : (xs : List Lexeme) (l : Lexeme) (q : List Lexeme) → EndsWithName (xs ++ l ∷ q) → EndsWithName (l ∷ q)
ends_part [] l q e = e
ends_part (x ∷ []) l q e = e
ends_part (x ∷ y ∷ xs) l q e = ends_part (y ∷ xs) l q e

pub ends_so : (xs q : List Lexeme) → StartsWith begins_any q → EndsWithName (xs ++ q) → EndsWithName q
ends_so xs [] s e = absurd s
ends_so xs (l ∷ q) s e = ends_part xs l q e

pub part_ends : (n : Level) (xs q : List Lexeme) (t : Tree) → Derives n q t → EndsWithName (xs ++ q) → EndsWithName q
part_ends n xs q t d e = ends_so xs q (starts_any n q t d) e

not_name : (s : Symbol) (l : Lexeme) → Is s l → symbol_eq s symbol.Ident ≡ false → ¬ Is symbol.Ident l
not_name s l e f i = let same : symbol_eq s symbol.Ident ≡ true = is_symbol s symbol.Ident (sym e ∙ i) in cc

-- no name is at the end of what a sign closes
pub sign_ends : (xs : List Lexeme) (last : Lexeme) (s : Symbol) → Is s last → symbol_eq s symbol.Ident ≡ false → ¬ EndsWithName (xs ++ last ∷ [])
sign_ends xs last s i f e = not_name s last i f (ends_part xs last [] e)

-- what stands after a sign ends so
pub after_sign : (xs : List Lexeme) (sign : Lexeme) (q : List Lexeme) (s : Symbol) → Is s sign → symbol_eq s symbol.Ident ≡ false → EndsWithName (xs ++ sign ∷ q) → EndsWithName q
after_sign xs sign [] s i f e = absurd (not_name s sign i f (ends_part xs sign [] e))
after_sign xs sign (l ∷ q) s i f e = ends_part xs sign (l ∷ q) e

-- one part after another
joined_ends : (p k after rest : List Lexeme) → rest ≡ k ++ after → (EndsWithName p → begins symbol.OpenParen rest ≡ false) → (EndsWithName k → begins symbol.OpenParen after ≡ false) → EndsWithName (p ++ k)
    → begins symbol.OpenParen after ≡ false
joined_ends p [] after rest is f g e = ap (begins symbol.OpenParen) (sym is) ∙ f (subst EndsWithName (append-nil p) e)
joined_ends p (l ∷ k) after rest is f g e = g (ends_part p l k e)

-- some expressions with commas between
pub record IsList (ls : List Lexeme) (ts : Trees) : Type 0 where
  pub list : DerivesList ls ts
  pub some : HasTree ts

pub list_of_more : (ls : List Lexeme) (comma : Lexeme) (ms : List Lexeme) (t : Tree) (more : Trees) → Derives Releases ls t → Is symbol.Comma comma → IsList ms more → IsList (ls ++ comma ∷ ms) (tree t more)
list_of_more ls comma ms t no_trees d e ds = absurd ds.some
list_of_more ls comma ms t (tree u more) d e ds = record { list = of_more comma ls ms t u more d e ds.list; some = tt }

-- something more after what was taken
pub joined_front : (ls p rest q after : List Lexeme) → ls ≡ p ++ rest → rest ≡ q ++ after → ls ≡ (p ++ q) ++ after
joined_front ls p rest q after e f = e ∙ ap (λ x. p ++ x) f ∙ sym (append_assoc p q after)

-- ---- how an answer is made of the answers of its parts

-- a part, and what comes after it
part : {A B : Type 0} {D : List Lexeme → B → Type 0} {P : List Lexeme → A → Type 0} {input ls : List Lexeme} {x : Answer A} {k : A → List Lexeme → Answer B} (p : List Lexeme) → input ≡ p ++ ls → Answers P ls x
    → ((q : List Lexeme) (a : A) → P q a → Completes D (p ++ q)) → ((a : A) (rest q : List Lexeme) → P q a → Uncalled q rest → ls ≡ q ++ rest → input ≡ (p ++ q) ++ rest → Answers D input (k a rest)) → Answers D input (go_on x k)
part {input = input} {ls = ls} p e (answers_taken a rest q is d u) f g = g a rest q d u is (joined_front input p ls q rest e is)
part {D = D} {P = P} {input = input} {ls = ls} p e (answers_refused j o) f g = answers_refused j (lift D P input p ls j e f o)
part p e answers_lost f g = answers_lost

-- a part after a sign
after : {A B : Type 0} {D : List Lexeme → B → Type 0} {P : List Lexeme → A → Type 0} {input rest inner : List Lexeme} {x : Answer A} {k : A → List Lexeme → Answer B} (p : List Lexeme) (s : Lexeme) → input ≡ p ++ rest → rest ≡ s ∷ inner
    → Answers P inner x → ((q : List Lexeme) (a : A) → P q a → Completes D (p ++ s ∷ q)) → ((a : A) (left q : List Lexeme) → P q a → Uncalled q left → input ≡ (p ++ s ∷ q) ++ left → Answers D input (k a left)) → Answers D input (go_on x k)
after {D = D} {inner = inner} p s e e1 a f g =
    part (p ++ s ∷ []) (e ∙ ap (λ y. p ++ y) e1 ∙ sym (append_assoc p (s ∷ []) inner)) a (λ q v h. subst (Completes D) (sym (append_assoc p (s ∷ []) q)) (f q v h))
    (λ v left q h u e2 is. g v left q h u (is ∙ ap (λ y. y ++ left) (append_assoc p (s ∷ []) q)))

-- a last part
last_part : {A B : Type 0} {D : List Lexeme → B → Type 0} {P : List Lexeme → A → Type 0} {input ls : List Lexeme} {x : Answer A} (f : A → B) (p : List Lexeme) → input ≡ p ++ ls → Answers P ls x → ((q : List Lexeme) (a : A) → P q a → D (p ++ q) (f a))
    → ((q : List Lexeme) (a : A) → P q a → EndsWithName (p ++ q) → EndsWithName q) → Answers D input (go_on x (λ a rest. taken (f a) rest))
last_part {D = D} f p e a make ends =
    part p e a (λ q v d. full D (p ++ q) (f v) (make q v d)) (λ v rest q d u e1 is. answers_taken (f v) rest (p ++ q) is (make q v d) (λ n. u (ends q v d n)))

last_after : {A B : Type 0} {D : List Lexeme → B → Type 0} {P : List Lexeme → A → Type 0} {input rest inner : List Lexeme} {x : Answer A} (f : A → B) (p : List Lexeme) (s : Lexeme) → input ≡ p ++ rest → rest ≡ s ∷ inner → Answers P inner x
    → ((q : List Lexeme) (a : A) → P q a → D (p ++ s ∷ q) (f a)) → ((q : List Lexeme) (a : A) → P q a → EndsWithName (p ++ s ∷ q) → EndsWithName q) → Answers D input (go_on x (λ a left. taken (f a) left))
last_after {D = D} f p s e e1 a make ends =
    after p s e e1 a (λ q v d. full D (p ++ s ∷ q) (f v) (make q v d)) (λ v left q d u is. answers_taken (f v) left (p ++ s ∷ q) is (make q v d) (λ n. u (ends q v d n)))

expected : {B : Type 0} {D : List Lexeme → B → Type 0} {input ls : List Lexeme} {f : Lexeme → List Lexeme → Answer B} (p : List Lexeme) (s : Symbol) → input ≡ p ++ ls → Completes D p
    → ((l : Lexeme) (rest : List Lexeme) → ls ≡ l ∷ rest → Is s l → Answers D input (f l rest)) → Answers D input (expect s ls f)
expected {D = D} {input = input} {ls = []} p s e c g = answers_refused 0 (opens_here D input p [] e c)
expected {D = D} {input = input} {ls = l ∷ ls} {f = f} p s e c g = by (symbol_eq l.symbol s) refl
  where
    by : (b : Bool) → symbol_eq l.symbol s ≡ b → Answers D input (cond b (f l ls) (refused (suc (length ls))))
    by true i = g l ls refl (same_symbol l.symbol s i)
    by false i = answers_refused (suc (length ls)) (opens_here D input p (l ∷ ls) e c)

either : {B : Type 0} {D : List Lexeme → B → Type 0} {input : List Lexeme} {f : Lexeme → List Lexeme → Answer B} {x : Answer B} (s : Symbol) (ls : List Lexeme) → ((l : Lexeme) (rest : List Lexeme) → ls ≡ l ∷ rest → Is s l → Answers D input (f l rest))
    → (begins s ls ≡ false → Answers D input x) → Answers D input (if_next s ls f x)
either s [] g h = h refl
either {D = D} {input = input} {f = f} {x = x} s (l ∷ ls) g h = by (symbol_eq l.symbol s) refl
  where
    by : (b : Bool) → symbol_eq l.symbol s ≡ b → Answers D input (cond b (f l ls) x)
    by true e = g l ls refl (same_symbol l.symbol s e)
    by false e = h e

-- a sign that closes a form
closed : {B : Type 0} {D : List Lexeme → B → Type 0} {input : List Lexeme} (rest : List Lexeme) (f : Lexeme → B) (p : List Lexeme) (s : Symbol) → input ≡ p ++ rest → symbol_eq s symbol.Ident ≡ false → ((last : Lexeme) → Is s last → D (p ++ last ∷ []) (f last))
    → Answers D input (expect s rest (λ last left. taken (f last) left))
closed rest f p s e apart make =
    expected p s e (completes (sign s ∷ []) (f (sign s)) (make (sign s) refl)) (λ last left e1 i.
    answers_taken (f last) left (p ++ last ∷ []) (e ∙ ap (λ x. p ++ x) e1 ∙ sym (append_assoc p (last ∷ []) left)) (make last i) (λ n. absurd (sign_ends p last s i apart n)))

-- a part and the sign that closes the form
enclosed : {A B : Type 0} {D : List Lexeme → B → Type 0} {P : List Lexeme → A → Type 0} {input ls : List Lexeme} {x : Answer A} (f : A → Lexeme → B) (p : List Lexeme) (s : Symbol) → input ≡ p ++ ls → symbol_eq s symbol.Ident ≡ false → Answers P ls x
    → ((q : List Lexeme) (a : A) (last : Lexeme) → P q a → Is s last → D ((p ++ q) ++ last ∷ []) (f a last)) → Answers D input (go_on x (λ a rest. expect s rest (λ last left. taken (f a last) left)))
enclosed f p s e apart a make =
    part p e a (λ q v d. completes (sign s ∷ []) (f v (sign s)) (make q v (sign s) d refl)) (λ v rest q d u e1 is. closed rest (f v) (p ++ q) s is apart (λ last i. make q v last d i))

enclosed_after : {A B : Type 0} {D : List Lexeme → B → Type 0} {P : List Lexeme → A → Type 0} {input rest inner : List Lexeme} {x : Answer A} (f : A → Lexeme → B) (p : List Lexeme) (l : Lexeme) (s : Symbol) → input ≡ p ++ rest → rest ≡ l ∷ inner
    → symbol_eq s symbol.Ident ≡ false → Answers P inner x → ((q : List Lexeme) (a : A) (last : Lexeme) → P q a → Is s last → D ((p ++ l ∷ q) ++ last ∷ []) (f a last))
    → Answers D input (go_on x (λ a left. expect s left (λ last more. taken (f a last) more)))
enclosed_after f p l s e e1 apart a make =
    after p l e e1 a (λ q v d. completes (sign s ∷ []) (f v (sign s)) (make q v (sign s) d refl)) (λ v left q d u is. closed left (f v) (p ++ l ∷ q) s is apart (λ last i. make q v last d i))

-- readers whose answers are so
pub record Right (r : Readers) : Type 0 where
  pub level : (ends : Bool) (n : Level) (ls : List Lexeme) → Answers (Derives n) ls (r.level ends n ls)
  pub list : (ls : List Lexeme) → Answers IsList ls (r.list ls)
  pub links : (ends : Bool) (m : Level) (ls : List Lexeme) → Answers (DerivesLinks m) ls (r.links ends m ls)
  pub ranges : (ls : List Lexeme) → Answers DerivesRanges ls (r.ranges ls)

-- ---- primaries

pub call_derived : (l before last : Lexeme) (p : List Lexeme) (ts : Trees) → Is symbol.Ident l → Is symbol.OpenParen before → Is symbol.CloseParen last → IsList p ts
    → Derives Primary (l ∷ before ∷ p ++ last ∷ []) (call (from_to l.start last.end) (word_of l) ts)
call_derived l before last p no_trees e f g d = absurd d.some
call_derived l before last p (tree t more) e f g d =
    subst (λ s. Derives Primary (l ∷ before ∷ p ++ last ∷ []) (call s (word_of l) (tree t more))) (span_closed l (before ∷ p) last) (of_call l before last p t more e f d.list g)

pub index_derived : (l before last : Lexeme) (p : List Lexeme) (t : Tree) → Is symbol.Ident l → Is symbol.OpenBracket before → Is symbol.CloseBracket last → Derives Releases p t
    → Derives Primary (l ∷ before ∷ p ++ last ∷ []) (index (from_to l.start last.end) (word_of l) t)
index_derived l before last p t e f g d =
    subst (λ s. Derives Primary (l ∷ before ∷ p ++ last ∷ []) (index s (word_of l) t)) (span_closed l (before ∷ p) last) (of_index l before last p t e f d g)

pub size_derived : (l : Lexeme) (p : List Lexeme) (t : Tree) → Is symbol.SizeOf l → Derives Primary p t → Derives Primary (l ∷ p) (size_of (from_to l.start (tree_span t).end) t)
size_derived l p t e d = subst (λ x. Derives Primary (l ∷ p) (size_of (from_to l.start x) t)) (derived_end Primary p t l.end d) (of_size l p t e d)

pub paren_derived : (l last : Lexeme) (p : List Lexeme) (t : Tree) → Is symbol.OpenParen l → Is symbol.CloseParen last → Derives Releases p t → Derives Primary (l ∷ p ++ last ∷ []) (paren (from_to l.start last.end) t)
paren_derived l last p t e g d = subst (λ s. Derives Primary (l ∷ p ++ last ∷ []) (paren s t)) (span_closed l p last) (of_paren l last p t e d g)

pub set_derived : (l last : Lexeme) (p : List Lexeme) (ts : Trees) → Is symbol.OpenBrace l → Is symbol.CloseBrace last → DerivesList p ts → Derives Primary (l ∷ p ++ last ∷ []) (set (from_to l.start last.end) ts)
set_derived l last p ts e g d = subst (λ s. Derives Primary (l ∷ p ++ last ∷ []) (set s ts)) (span_closed l p last) (of_set l last p ts e d g)

pub steps_derived : (l comma dots last : Lexeme) (p q o : List Lexeme) (t u v : Tree) → Is symbol.OpenBrace l → Is symbol.Comma comma → Is symbol.Dots dots → Is symbol.CloseBrace last
    → Derives Releases p t → Derives Releases q u → Derives Releases o v → Derives Primary (l ∷ p ++ comma ∷ q ++ dots ∷ o ++ last ∷ []) (steps (from_to l.start last.end) t u v)
steps_derived l comma dots last p q o t u v e f h g a b c =
    subst (λ s. Derives Primary (l ∷ p ++ comma ∷ q ++ dots ∷ o ++ last ∷ []) (steps s t u v)) (span_closed l ((p ++ comma ∷ q) ++ dots ∷ o) last) (of_steps l comma dots last p q o t u v e a f b h c g)

word_right : (r : Readers) → Right r → (l : Lexeme) (ls : List Lexeme) → Is symbol.Ident l → Answers (Derives Primary) (l ∷ ls) (word_with r l ls)
word_right r h l ls e =
    either symbol.OpenParen ls (λ before inner e1 i1.
    enclosed _ (l ∷ before ∷ []) symbol.CloseParen (ap (λ x. l ∷ x) e1) refl (h.list inner) (λ q ts last d i2. call_derived l before last q ts e i1 i2 d)) (λ apart.
    either symbol.OpenBracket ls (λ before inner e1 i1.
    enclosed _ (l ∷ before ∷ []) symbol.CloseBracket (ap (λ x. l ∷ x) e1) refl (h.level false Releases inner) (λ q t last d i2. index_derived l before last q t e i1 i2 d)) (λ _.
    answers_taken (named (lexeme_span l) l.text) ls (l ∷ []) refl (of_name l e) (λ n. apart)))

set_ends : (l : Lexeme) (q : List Lexeme) (ts : Trees) → Is symbol.OpenBrace l → DerivesList q ts → Completes (Derives Primary) (l ∷ q)
set_ends l q ts e d = completes (sign symbol.CloseBrace ∷ []) (set (from_to l.start 0) ts) (set_derived l (sign symbol.CloseBrace) q ts e refl d)

-- the brace that closes a set of these elements
close_right : (l : Lexeme) (input q rest : List Lexeme) (ts : Trees) → Is symbol.OpenBrace l → input ≡ (l ∷ q) ++ rest → DerivesList q ts → Answers (Derives Primary) input (close_set l ts rest)
close_right l input q rest ts e is d = closed rest _ (l ∷ q) symbol.CloseBrace is refl (λ last i. set_derived l last q ts e i d)

third_right : (r : Readers) → Right r → (l comma : Lexeme) (input p q rest : List Lexeme) (t u : Tree) → Is symbol.OpenBrace l → Is symbol.Comma comma → input ≡ (l ∷ p ++ comma ∷ q) ++ rest → Derives Releases p t → Derives Releases q u
    → Answers (Derives Primary) input (set_third r l t u rest)
third_right r h l comma input p q rest t u e f is a b =
    either symbol.Dots rest (λ dots inner e1 i1.
    enclosed_after _ (l ∷ p ++ comma ∷ q) dots symbol.CloseBrace is e1 refl (h.level false Releases inner) (λ o v last d i2. steps_derived l comma dots last p q o t u v e f i1 i2 a b d)) (λ _.
    either symbol.Comma rest (λ second inner e1 i1. enclosed_after _ (l ∷ p ++ comma ∷ q) second symbol.CloseBrace is e1 refl (h.list inner) (λ o more last d i2.
    let two : IsList (q ++ second ∷ o) (tree u more) = list_of_more q second o u more b i1 d in
    let all : IsList (p ++ comma ∷ (q ++ second ∷ o)) (tree t (tree u more)) = list_of_more p comma (q ++ second ∷ o) t (tree u more) a f two in
    subst (λ x. Derives Primary (l ∷ x ++ last ∷ []) (set (from_to l.start last.end) (tree t (tree u more)))) (sym (append_assoc p (comma ∷ q) (second ∷ o)))
    (set_derived l last (p ++ comma ∷ (q ++ second ∷ o)) (tree t (tree u more)) e i2 all.list))) (λ _.
    close_right l input (p ++ comma ∷ q) rest (tree t (tree u no_trees)) e is (of_more comma p q t u no_trees a f (of_last q u b))))

set_right : (r : Readers) → Right r → (l : Lexeme) (ls : List Lexeme) → Is symbol.OpenBrace l → Answers (Derives Primary) (l ∷ ls) (set_with r l ls)
set_right r h l ls e =
    either symbol.CloseBrace ls (λ last rest e1 i1.
    answers_taken (set (from_to l.start last.end) no_trees) rest (l ∷ last ∷ []) (ap (λ x. l ∷ x) e1) (set_derived l last [] no_trees e i1 of_none) (λ n. absurd (sign_ends (l ∷ []) last symbol.CloseBrace i1 refl n))) (λ _.
    part (l ∷ []) refl (h.level false Releases ls) (λ q t d. set_ends l q (tree t no_trees) e (of_last q t d)) (λ t rest p a u e1 is.
    either symbol.Comma rest (λ comma inner e2 i2.
    after (l ∷ p) comma is e2 (h.level false Releases inner) (λ q u d. set_ends l (p ++ comma ∷ q) (tree t (tree u no_trees)) e (of_more comma p q t u no_trees a i2 (of_last q u d)))
    (λ u rest' q d n is2. third_right r h l comma (l ∷ ls) p q rest' t u e i2 is2 a d)) (λ _.
    close_right l (l ∷ ls) p rest (tree t no_trees) e is (of_last p t a))))

primary_right : (r : Readers) → Right r → (s : Symbol) (l : Lexeme) (ls : List Lexeme) → Is s l → Answers (Derives Primary) (l ∷ ls) (primary_by r s l ls)
primary_right r h symbol.Number l ls e = answers_taken _ ls (l ∷ []) refl (of_number l e) (λ n. absurd (not_name symbol.Number l e refl n))
primary_right r h symbol.True l ls e = answers_taken _ ls (l ∷ []) refl (of_true l e) (λ n. absurd (not_name symbol.True l e refl n))
primary_right r h symbol.False l ls e = answers_taken _ ls (l ∷ []) refl (of_false l e) (λ n. absurd (not_name symbol.False l e refl n))
primary_right r h symbol.Ident l ls e = word_right r h l ls e
primary_right r h symbol.SizeOf l ls e = last_part _ (l ∷ []) refl (h.level false Primary ls) (λ q t d. size_derived l q t e d) (λ q t d n. part_ends Primary (l ∷ []) q t d n)
primary_right r h symbol.OpenParen l ls e = enclosed _ (l ∷ []) symbol.CloseParen refl refl (h.level false Releases ls) (λ q t last d i. paren_derived l last q t e i d)
primary_right r h symbol.OpenBrace l ls e = set_right r h l ls e
primary_right r h _ l ls e = answers_refused (suc (length ls)) (opens_here (Derives Primary) (l ∷ ls) [] (l ∷ ls) refl (nothing_begins Primary))

primaries_right : (r : Readers) → Right r → (ls : List Lexeme) → Answers (Derives Primary) ls (primary_with r ls)
primaries_right r h [] = answers_refused 0 (opens_here (Derives Primary) [] [] [] refl (nothing_begins Primary))
primaries_right r h (l ∷ ls) = primary_right r h l.symbol l ls refl

-- ---- signs before an operand

prefixed_right : (r : Readers) → Right r → (ends : Bool) (o : Op) (l : Lexeme) (ls : List Lexeme) → prefix_of l.symbol ≡ Some o → Answers (Derives Prefixes) (l ∷ ls) (prefixed r ends o l ls)
prefixed_right r h ends o l ls e =
    last_part _ (l ∷ []) refl (h.level ends Prefixes ls) (λ q t d. subst (λ x. Derives Prefixes (l ∷ q) (prefix (from_to l.start x) o t)) (derived_end Prefixes q t l.end d) (of_prefix l q t o e d)) (λ q t d n. part_ends Prefixes (l ∷ []) q t d n)

count_derived : (l before last : Lexeme) (p q : List Lexeme) (t u : Tree) → Is symbol.Next l → Is symbol.OpenBracket before → Is symbol.CloseBracket last → Derives Releases p t → Derives Prefixes q u
    → Derives Prefixes (l ∷ before ∷ p ++ last ∷ q) (count (from_to l.start (tree_span u).end) t u)
count_derived l before last p q t u e f i d c =
    subst (λ x. Derives Prefixes (l ∷ before ∷ p ++ last ∷ q) (count (from_to l.start x) t u)) (end_append before.end p (last ∷ q) ∙ derived_end Prefixes q u last.end c) (of_count l before last p q t u e f d i c)

count_ends : (l before : Lexeme) (p : List Lexeme) (t : Tree) → Is symbol.Next l → Is symbol.OpenBracket before → Derives Releases p t → Completes (Derives Prefixes) (l ∷ before ∷ p)
count_ends l before p t e f d =
    completes (sign symbol.CloseBracket ∷ sign symbol.True ∷ []) (count (from_to l.start 0) t ex) (count_derived l before (sign symbol.CloseBracket) p (sign symbol.True ∷ []) t ex e f refl d (example Prefixes))

counted_right : (r : Readers) → Right r → (ends : Bool) (l before : Lexeme) (ls inner : List Lexeme) → Is symbol.Next l → Is symbol.OpenBracket before → ls ≡ before ∷ inner → Answers (Derives Prefixes) (l ∷ ls) (counted r ends l inner)
counted_right r h ends l before ls inner e f is0 =
    part (l ∷ before ∷ []) (ap (λ x. l ∷ x) is0) (h.level false Releases inner) (λ q t d. count_ends l before q t e f d) (λ t rest q d n e1 is.
    expected (l ∷ before ∷ q) symbol.CloseBracket is (count_ends l before q t e f d) (λ last body e2 i2.
    last_after _ (l ∷ before ∷ q) last is e2 (h.level ends Prefixes body) (λ o u c. count_derived l before last q o t u e f i2 d c) (λ o u c x. after_sign (l ∷ before ∷ q) last o symbol.CloseBracket i2 refl x)))

window_derived : (l before colon last : Lexeme) (p q o : List Lexeme) (t u v : Tree) (w : Op) → window_of l.symbol ≡ Some w → Is symbol.OpenBracket before → Is symbol.Colon colon → Is symbol.CloseBracket last → Derives Releases p t → Derives Releases q u
    → Derives Prefixes o v → Derives Prefixes (l ∷ before ∷ p ++ colon ∷ q ++ last ∷ o) (window (from_to l.start (tree_span v).end) w t u v)
window_derived l before colon last p q o t u v w e f g i a b c =
    subst (λ x. Derives Prefixes (l ∷ before ∷ p ++ colon ∷ q ++ last ∷ o) (window (from_to l.start x) w t u v)) (end_append before.end (p ++ colon ∷ q) (last ∷ o) ∙ derived_end Prefixes o v last.end c)
    (of_window l before colon last p q o t u v w e f a g b i c)

window_second : (l before colon : Lexeme) (p q : List Lexeme) (t u : Tree) (w : Op) → window_of l.symbol ≡ Some w → Is symbol.OpenBracket before → Is symbol.Colon colon → Derives Releases p t → Derives Releases q u
    → Completes (Derives Prefixes) (l ∷ before ∷ p ++ colon ∷ q)
window_second l before colon p q t u w e f g a b =
    completes (sign symbol.CloseBracket ∷ sign symbol.True ∷ []) (window (from_to l.start 0) w t u ex)
    (window_derived l before colon (sign symbol.CloseBracket) p q (sign symbol.True ∷ []) t u ex w e f g refl a b (example Prefixes))

window_first : (l before : Lexeme) (p : List Lexeme) (t : Tree) (w : Op) → window_of l.symbol ≡ Some w → Is symbol.OpenBracket before → Derives Releases p t → Completes (Derives Prefixes) (l ∷ before ∷ p)
window_first l before p t w e f a =
    cut (Derives Prefixes) (l ∷ before ∷ p) (sign symbol.Colon ∷ sign symbol.True ∷ []) (l ∷ before ∷ p ++ sign symbol.Colon ∷ sign symbol.True ∷ []) refl
    (window_second l before (sign symbol.Colon) p (sign symbol.True ∷ []) t ex w e f refl a (example Releases))

windowed_right : (r : Readers) → Right r → (ends : Bool) (w : Op) (l before : Lexeme) (ls inner : List Lexeme) → window_of l.symbol ≡ Some w → Is symbol.OpenBracket before → ls ≡ before ∷ inner → Answers (Derives Prefixes) (l ∷ ls) (windowed r ends w l inner)
windowed_right r h ends w l before ls inner e f is0 =
    part (l ∷ before ∷ []) (ap (λ x. l ∷ x) is0) (h.level false Releases inner) (λ q t d. window_first l before q t w e f d) (λ t rest p a n e1 is.
    expected (l ∷ before ∷ p) symbol.Colon is (window_first l before p t w e f a) (λ colon second e2 i2.
    after (l ∷ before ∷ p) colon is e2 (h.level false Releases second) (λ q u b. window_second l before colon p q t u w e f i2 a b) (λ u rest' q b n2 is2.
    expected (l ∷ before ∷ p ++ colon ∷ q) symbol.CloseBracket is2 (window_second l before colon p q t u w e f i2 a b) (λ last body e3 i3.
    last_after _ (l ∷ before ∷ p ++ colon ∷ q) last is2 e3 (h.level ends Prefixes body) (λ o v c. window_derived l before colon last p q o t u v w e f i2 i3 a b c)
    (λ o v c x. after_sign (l ∷ before ∷ p ++ colon ∷ q) last o symbol.CloseBracket i3 refl x)))))

big_derived : (l before last : Lexeme) (p q : List Lexeme) (rs : Ranges) (t : Tree) (o : Op) → big_of l.symbol ≡ Some o → Is symbol.OpenBracket before → Is symbol.CloseBracket last → DerivesRanges p rs → Derives Prefixes q t
    → Derives Prefixes (l ∷ before ∷ p ++ last ∷ q) (big (from_to l.start (tree_span t).end) o rs t)
big_derived l before last p q rs t o e f i d c =
    subst (λ x. Derives Prefixes (l ∷ before ∷ p ++ last ∷ q) (big (from_to l.start x) o rs t)) (end_append before.end p (last ∷ q) ∙ derived_end Prefixes q t last.end c) (of_big l before last p q rs t o e f d i c)

big_ends : (l before : Lexeme) (p : List Lexeme) (rs : Ranges) (o : Op) → big_of l.symbol ≡ Some o → Is symbol.OpenBracket before → DerivesRanges p rs → Completes (Derives Prefixes) (l ∷ before ∷ p)
big_ends l before p rs o e f d =
    completes (sign symbol.CloseBracket ∷ sign symbol.True ∷ []) (big (from_to l.start 0) o rs ex) (big_derived l before (sign symbol.CloseBracket) p (sign symbol.True ∷ []) rs ex o e f refl d (example Prefixes))

big_begins : (l : Lexeme) (o : Op) → big_of l.symbol ≡ Some o → Completes (Derives Prefixes) (l ∷ [])
big_begins l o e =
    let range : List Lexeme = sign symbol.Ident ∷ sign symbol.In ∷ sign symbol.True ∷ [] in
    cut (Derives Prefixes) (l ∷ []) (sign symbol.OpenBracket ∷ range) (l ∷ sign symbol.OpenBracket ∷ range) refl
    (big_ends l (sign symbol.OpenBracket) range (members (word_of (sign symbol.Ident)) ex no_ranges) o e refl (of_members (sign symbol.Ident) (sign symbol.In) (sign symbol.True ∷ []) [] ex no_ranges refl refl (example Releases) of_no_range))

big_right : (r : Readers) → Right r → (ends : Bool) (o : Op) (l : Lexeme) (ls : List Lexeme) → big_of l.symbol ≡ Some o → Answers (Derives Prefixes) (l ∷ ls) (big_with r ends o l ls)
big_right r h ends o l ls e =
    expected (l ∷ []) symbol.OpenBracket refl (big_begins l o e) (λ before inner e0 i0.
    part (l ∷ before ∷ []) (ap (λ x. l ∷ x) e0) (h.ranges inner) (λ q rs d. big_ends l before q rs o e i0 d) (λ rs rest q d n e1 is.
    expected (l ∷ before ∷ q) symbol.CloseBracket is (big_ends l before q rs o e i0 d) (λ last body e2 i2.
    last_after _ (l ∷ before ∷ q) last is e2 (h.level ends Prefixes body) (λ p t c. big_derived l before last q p rs t o e i0 i2 d c) (λ p t c x. after_sign (l ∷ before ∷ q) last p symbol.CloseBracket i2 refl x))))

-- a level without its operator
loosened : (n m : Level) (ls : List Lexeme) (x : Answer Tree) → tighter_of m ≡ Some n → Answers (Derives n) ls x → Answers (Derives m) ls x
loosened n m ls x e (answers_taken t rest q is d u) = answers_taken t rest q is (of_tighter n m q t e d) u
loosened n m ls x e (answers_refused k o) = let c : Completes (Derives n) o.front = o.completes in
    answers_refused k (record { front = o.front; rest = o.rest; is = o.is; left = o.left; completes = completes c.more c.value (of_tighter n m (o.front ++ c.more) c.value e c.derived) })
loosened n m ls x e answers_lost = answers_lost

prefix_right : (r : Readers) → Right r → (ends : Bool) (s : Symbol) (l : Lexeme) (ls : List Lexeme) → Is s l → Answers (Derives Prefixes) (l ∷ ls) (prefix_by r ends Memberships s l ls)
prefix_right r h ends symbol.Not l ls e = prefixed_right r h ends op.Not l ls (ap prefix_of e)
prefix_right r h ends symbol.Next l ls e = either symbol.OpenBracket ls (λ before inner e0 i0. counted_right r h ends l before ls inner e i0 e0) (λ _. prefixed_right r h ends op.Next l ls (ap prefix_of e))
prefix_right r h ends symbol.Finally l ls e =
    either symbol.OpenBracket ls (λ before inner e0 i0. windowed_right r h ends op.Finally l before ls inner (ap window_of e) i0 e0) (λ _. prefixed_right r h ends op.Finally l ls (ap prefix_of e))
prefix_right r h ends symbol.Globally l ls e =
    either symbol.OpenBracket ls (λ before inner e0 i0. windowed_right r h ends op.Globally l before ls inner (ap window_of e) i0 e0) (λ _. prefixed_right r h ends op.Globally l ls (ap prefix_of e))
prefix_right r h ends symbol.And l ls e = big_right r h ends op.And l ls (ap big_of e)
prefix_right r h ends symbol.Or l ls e = big_right r h ends op.Or l ls (ap big_of e)
prefix_right r h ends _ l ls e = loosened Memberships Prefixes (l ∷ ls) (r.level ends Memberships (l ∷ ls)) refl (h.level ends Memberships (l ∷ ls))

prefixes_right : (r : Readers) → Right r → (ends : Bool) (ls : List Lexeme) → Answers (Derives Prefixes) ls (prefix_with r ends Memberships ls)
prefixes_right r h ends [] = loosened Memberships Prefixes [] (r.level ends Memberships []) refl (h.level ends Memberships [])
prefixes_right r h ends (l ∷ ls) = prefix_right r h ends l.symbol l ls refl

-- ---- operators between operands

-- the operator that was found at the front
pub record Found (m : Level) (o : Op) (ls : List Lexeme) : Type 0 where
  pub sign : Lexeme
  pub others : List Lexeme
  pub is : ls ≡ sign ∷ others
  pub operator : operator_of sign.symbol ≡ Some (m, o)

found_at : (m : Level) (o : Op) (x : Option (Level × Op)) → at_level m x ≡ Some o → x ≡ Some (m, o)
found_at m o None e = absurd cc
found_at m o (Some (n, p)) e = by (level_number n == level_number m) refl e
  where
    by : (b : Bool) → (level_number n == level_number m) ≡ b → cond b (Some p) None ≡ Some o → ◌≡◌ {A = Option (Level × Op)} (Some (n, p)) (Some (m, o))
    by true f g = let same : p ≡ o = cc in ap (λ k. Some (k, p)) (same_level n m (eqb-true (level_number n) (level_number m) f)) ∙ ap (λ q. Some (m, q)) same
    by false f g = absurd cc

pub found : (ends : Bool) (m : Level) (o : Op) (ls : List Lexeme) → operator_here ends m ls ≡ Some o → Found m o ls
found ends m o ls e = by (ends && begins_big ls) ls e
  where
    by : (b : Bool) (ls : List Lexeme) → cond b None (operator_at m ls) ≡ Some o → Found m o ls
    by true ls e = absurd cc
    by false [] e = absurd cc
    by false (l ∷ ls) e = record { sign = l; others = ls; is = refl; operator = found_at m o (operator_of l.symbol) e }

pub no_link_front : (m : Level) (p : List Lexeme) → DerivesLinks m p no_links → p ≡ []
no_link_front m p (of_no_link k) = refl

pub chain_derived : (n m : Level) (p q : List Lexeme) (t : Tree) (links : Links) → tighter_of m ≡ Some n → joins_of m ≡ joins.Left → Derives n p t → DerivesLinks m q links → Derives m (p ++ q) (chain_of t links)
chain_derived n m p q t no_links e j d k =
    subst (λ x. Derives m x t) (sym (append-nil p) ∙ ap (λ x. p ++ x) (sym (no_link_front m q k))) (of_tighter n m p t e d)
chain_derived n m p q t (link o u more) e j d k =
    subst (λ s. Derives m (p ++ q) (chain s t (link o u more))) (span_join n p q t (links_end (tree_span u).end more) d (λ x. links_ends m q (link o u more) x k)) (of_chain n m p q t u o more e j d k)

-- the operator in front, before what the code drops it from
found_front : (m : Level) (o : Op) (ls : List Lexeme) → (f : Found m o ls) → ls ≡ f.sign ∷ drop 1 ls
found_front m o ls f = f.is ∙ ap (λ x. f.sign ∷ x) (sym (ap (drop 1) f.is))

links_right : (r : Readers) → Right r → (ends : Bool) (m : Level) (ls : List Lexeme) → Answers (DerivesLinks m) ls (links_with r ends m ls)
links_right r h ends m ls = by (tighter_of m) refl (operator_here ends m ls) refl
  where
    by : (n : Option Level) → tighter_of m ≡ n → (o : Option Op) → operator_here ends m ls ≡ o → Answers (DerivesLinks m) ls (linked r ends m n o ls)
    by None e None g = answers_taken no_links ls [] refl (of_no_link m) (λ n. absurd n)
    by None e (Some o) g = answers_taken no_links ls [] refl (of_no_link m) (λ n. absurd n)
    by (Some n) e None g = answers_taken no_links ls [] refl (of_no_link m) (λ n. absurd n)
    by (Some n) e (Some o) g =
        let f : Found m o ls = found ends m o ls g in
        after [] f.sign refl (found_front m o ls f) (h.level ends n (drop 1 ls)) (λ q t d. completes [] (link o t no_links) (of_link n m f.sign q [] t o no_links e f.operator d (of_no_link m))) (λ t rest q d u is.
        part (f.sign ∷ q) is (h.links ends m rest) (λ k more c. full (DerivesLinks m) (f.sign ∷ q ++ k) (link o t more) (of_link n m f.sign q k t o more e f.operator d c)) (λ more left k c v e2 is2.
        answers_taken (link o t more) left (f.sign ∷ q ++ k) is2 (of_link n m f.sign q k t o more e f.operator d c) (λ x. joined_ends (f.sign ∷ q) k left rest e2 (λ y. u (part_ends n (f.sign ∷ []) q t d y)) v x)))

-- an operator with one operand after it
pair_right : (r : Readers) → Right r → (ends : Bool) (n m k : Level) (ls : List Lexeme) → tighter_of m ≡ Some n
    → ((l : Lexeme) (p q : List Lexeme) (t u : Tree) (o : Op) → Derives n p t → operator_of l.symbol ≡ Some (m, o) → Derives k q u → Derives m (p ++ l ∷ q) (pair (span_of (p ++ l ∷ q)) o t u))
    → Answers (Derives m) ls (go_on (r.level ends n ls) (λ t rest. joined_by (operator_here ends m rest) t rest (r.level ends k)))
pair_right r h ends n m k ls e make =
    part [] refl (h.level ends n ls) (λ q t d. full (Derives m) q t (of_tighter n m q t e d)) (λ t rest q d u e1 is. by t rest q d u is (operator_here ends m rest) refl)
  where
    by : (t : Tree) (rest q : List Lexeme) → Derives n q t → Uncalled q rest → ls ≡ q ++ rest → (o : Option Op) → operator_here ends m rest ≡ o → Answers (Derives m) ls (joined_by o t rest (r.level ends k))
    by t rest q d u is None g = answers_taken t rest q is (of_tighter n m q t e d) u
    by t rest q d u is (Some o) g =
        let f : Found m o rest = found ends m o rest g in
        last_after _ q f.sign is (found_front m o rest f) (h.level ends k (drop 1 rest)) (λ p v c.
        subst (λ s. Derives m (q ++ f.sign ∷ p) (pair s o t v)) (span_join n q (f.sign ∷ p) t (tree_span v).end d (λ x. derived_end k p v f.sign.end c)) (make f.sign q p t v o d f.operator c))
        (λ p v c x. part_ends k (q ++ f.sign ∷ []) p v c (subst EndsWithName (sym (append_assoc q (f.sign ∷ []) p)) x))

pub only_prefixes : (m n : Level) → joins_of m ≡ joins.None → tighter_of m ≡ Some n → (Prefixes ≡ m) × (Memberships ≡ n)
only_prefixes Primary n j e = absurd cc
only_prefixes Prefixes n j e = (refl, cc)
only_prefixes _ n j e = absurd cc

level_right : (r : Readers) → Right r → (ends : Bool) (m : Level) (ls : List Lexeme) → Answers (Derives m) ls (level_with r ends m ls)
level_right r h ends m ls = by (tighter_of m) refl (joins_of m) refl
  where
    by : (n : Option Level) → tighter_of m ≡ n → (j : Joins) → joins_of m ≡ j → Answers (Derives m) ls (level_by r ends m n j ls)
    by None e j g = subst (λ k. Answers (Derives k) ls (primary_with r ls)) (no_tighter m e) (primaries_right r h ls)
    by (Some n) e joins.Left g =
        part [] refl (h.level ends n ls) (λ q t d. full (Derives m) q t (of_tighter n m q t e d)) (λ t rest q d u e1 is.
        part q is (h.links ends m rest) (λ k more c. full (Derives m) (q ++ k) (chain_of t more) (chain_derived n m q k t more e g d c)) (λ more left k c v e2 is2.
        answers_taken (chain_of t more) left (q ++ k) is2 (chain_derived n m q k t more e g d c) (λ x. joined_ends q k left rest e2 u v x)))
    by (Some n) e joins.Once g = pair_right r h ends n m n ls e (λ l p q t u o a b c. of_once n m l p q t u o e g a b c)
    by (Some n) e joins.Right g = pair_right r h ends n m m ls e (λ l p q t u o a b c. of_right n m l p q t u o e g a b c)
    by (Some n) e joins.None g =
        let both : (Prefixes ≡ m) × (Memberships ≡ n) = only_prefixes m n g e in
        subst (λ k. Answers (Derives k) ls (prefix_with r ends n ls)) both.0 (subst (λ k. Answers (Derives Prefixes) ls (prefix_with r ends k ls)) both.1 (prefixes_right r h ends ls))

-- ---- lists and ranges

list_right : (r : Readers) → Right r → (ls : List Lexeme) → Answers IsList ls (list_with r ls)
list_right r h ls =
    part [] refl (h.level false Releases ls) (λ q t d. full IsList q (tree t no_trees) (record { list = of_last q t d; some = tt })) (λ t rest q d u e1 is.
    either symbol.Comma rest (λ comma inner e i. last_after _ q comma is e (h.list inner) (λ p more c. list_of_more q comma p t more d i c) (λ p more c x. after_sign q comma p symbol.Comma i refl x)) (λ _.
    answers_taken (tree t no_trees) rest q is (record { list = of_last q t d; some = tt }) u))

-- what stands after a range
more_right : (r : Readers) → Right r → (input p rest : List Lexeme) (f : Ranges → Ranges) → input ≡ p ++ rest → Uncalled p rest → ((q : List Lexeme) (more : Ranges) → DerivesMoreRanges q more → DerivesRanges (p ++ q) (f more))
    → Answers DerivesRanges input (more_ranges r rest f)
more_right r h input p rest f is u make =
    either symbol.Comma rest (λ comma inner e i.
    last_after _ p comma is e (h.ranges inner) (λ q more d. make (comma ∷ q) more (of_range comma q more i d)) (λ q more d x. after_sign p comma q symbol.Comma i refl x)) (λ _.
    answers_taken (f no_ranges) rest (p ++ []) (is ∙ ap (λ x. x ++ rest) (sym (append-nil p))) (make [] no_ranges of_no_range) (λ n. u (subst EndsWithName (append-nil p) n)))

bound_right : {B : Type 0} {D : List Lexeme → B → Type 0} {input : List Lexeme} {f : Bool → List Lexeme → Answer B} (p ls : List Lexeme) → input ≡ p ++ ls → Completes D p
    → ((l : Lexeme) (strict : Bool) (rest : List Lexeme) → ls ≡ l ∷ rest → bound_of l.symbol ≡ Some strict → Answers D input (f strict rest)) → Answers D input (bound ls f)
bound_right {D = D} {input = input} p [] e c g = answers_refused 0 (opens_here D input p [] e c)
bound_right {D = D} {input = input} {f = f} p (l ∷ ls) e c g = by (bound_of l.symbol) refl
  where
    by : (o : Option Bool) → bound_of l.symbol ≡ o → Answers D input (bounded o f ls)
    by None i = answers_refused (suc (length ls)) (opens_here D input p (l ∷ ls) e c)
    by (Some strict) i = g l strict ls refl i

between_ends : (q : List Lexeme) (low_sign word high_sign : Lexeme) (p : List Lexeme) (t u : Tree) (low high : Bool) → Derives Sums q t → bound_of low_sign.symbol ≡ Some low → Is symbol.Ident word → bound_of high_sign.symbol ≡ Some high
    → Derives Sums p u → Completes DerivesRanges (q ++ low_sign ∷ word ∷ high_sign ∷ p)
between_ends q low_sign word high_sign p t u low high d b i c k =
    completes [] (between t low (word_of word) high u no_ranges) (of_between low_sign word high_sign q p [] t u low high no_ranges d b i c k of_no_range)

-- so far, with the rest of the shortest range
between_so_far : (q so_far more : List Lexeme) (low_sign word high_sign : Lexeme) (t : Tree) (low high : Bool) → low_sign ∷ word ∷ high_sign ∷ sign symbol.True ∷ [] ≡ so_far ++ more → Derives Sums q t → bound_of low_sign.symbol ≡ Some low
    → Is symbol.Ident word → bound_of high_sign.symbol ≡ Some high → Completes DerivesRanges (q ++ so_far)
between_so_far q so_far more low_sign word high_sign t low high e d b i c =
    cut DerivesRanges (q ++ so_far) more (q ++ low_sign ∷ word ∷ high_sign ∷ sign symbol.True ∷ []) (ap (λ x. q ++ x) e ∙ sym (append_assoc q so_far more))
    (between_ends q low_sign word high_sign (sign symbol.True ∷ []) t ex low high d b i c (example Sums))

between_right : (r : Readers) → Right r → (ls : List Lexeme) → Answers DerivesRanges ls (between_with r ls)
between_right r h ls =
    part [] refl (h.level false Sums ls) (λ q t d. after_low q t d) (λ t rest q d n e0 is.
    bound_right q rest is (after_low q t d) (λ low_sign low named_at e1 b1.
    expected (q ++ low_sign ∷ []) symbol.Ident (is ∙ ap (λ x. q ++ x) e1 ∙ sym (append_assoc q (low_sign ∷ []) named_at))
    (between_so_far q (low_sign ∷ []) (sign symbol.Ident ∷ sign symbol.Less ∷ sign symbol.True ∷ []) low_sign (sign symbol.Ident) (sign symbol.Less) t low true refl d b1 refl refl) (λ word sign_at e2 i2.
    bound_right (q ++ low_sign ∷ word ∷ []) sign_at (is ∙ ap (λ x. q ++ x) (e1 ∙ ap (λ x. low_sign ∷ x) e2) ∙ sym (append_assoc q (low_sign ∷ word ∷ []) sign_at))
    (between_so_far q (low_sign ∷ word ∷ []) (sign symbol.Less ∷ sign symbol.True ∷ []) low_sign word (sign symbol.Less) t low true refl d b1 i2 refl) (λ high_sign high high_at e3 b3.
    part (q ++ low_sign ∷ word ∷ high_sign ∷ []) (is ∙ ap (λ x. q ++ x) (e1 ∙ ap (λ x. low_sign ∷ x) (e2 ∙ ap (λ x. word ∷ x) e3)) ∙ sym (append_assoc q (low_sign ∷ word ∷ high_sign ∷ []) high_at)) (h.level false Sums high_at)
    (λ p u c. subst (Completes DerivesRanges) (sym (append_assoc q (low_sign ∷ word ∷ high_sign ∷ []) p)) (between_ends q low_sign word high_sign p t u low high d b1 i2 b3 c)) (λ u rest' p c n2 e4 is2.
    more_right r h ls (q ++ low_sign ∷ word ∷ high_sign ∷ p) rest' (λ more. between t low (word_of word) high u more) (is2 ∙ ap (λ x. x ++ rest') (append_assoc q (low_sign ∷ word ∷ high_sign ∷ []) p))
    (λ x. n2 (part_ends Sums (q ++ low_sign ∷ word ∷ high_sign ∷ []) p u c (subst EndsWithName (sym (append_assoc q (low_sign ∷ word ∷ high_sign ∷ []) p)) x)))
    (λ o more k. of_between low_sign word high_sign q p o t u low high more d b1 i2 b3 c k))))))
  where
    after_low : (q : List Lexeme) (t : Tree) → Derives Sums q t → Completes DerivesRanges q
    after_low q t d =
        subst (Completes DerivesRanges) (append-nil q)
        (between_so_far q [] (sign symbol.Less ∷ sign symbol.Ident ∷ sign symbol.Less ∷ sign symbol.True ∷ []) (sign symbol.Less) (sign symbol.Ident) (sign symbol.Less) t true true refl d refl refl refl)

ranges_right : (r : Readers) → Right r → (ls : List Lexeme) → Answers DerivesRanges ls (ranges_with r ls)
ranges_right r h [] = between_right r h []
ranges_right r h (l ∷ []) = between_right r h (l ∷ [])
ranges_right r h (l ∷ n ∷ ls) = by (symbol_eq l.symbol symbol.Ident) refl (symbol_eq n.symbol symbol.In) refl
  where
    by : (b : Bool) → symbol_eq l.symbol symbol.Ident ≡ b → (c : Bool) → symbol_eq n.symbol symbol.In ≡ c
        → Answers DerivesRanges (l ∷ n ∷ ls) (cond (b && c) (go_on (r.level false Releases ls) (λ t rest. more_ranges r rest (λ more. members (word_of l) t more))) (between_with r (l ∷ n ∷ ls)))
    by false e c f = between_right r h (l ∷ n ∷ ls)
    by true e false f = between_right r h (l ∷ n ∷ ls)
    by true e true f =
        let i : Is symbol.Ident l = same_symbol l.symbol symbol.Ident e in
        let j : Is symbol.In n = same_symbol n.symbol symbol.In f in
        part (l ∷ n ∷ []) refl (h.level false Releases ls) (λ q t d. completes [] (members (word_of l) t no_ranges) (of_members l n q [] t no_ranges i j d of_no_range)) (λ t rest q d u e1 is.
        more_right r h (l ∷ n ∷ ls) (l ∷ n ∷ q) rest (λ more. members (word_of l) t more) is (λ x. u (part_ends Releases (l ∷ n ∷ []) q t d x)) (λ k more c. of_members l n q k t more i j d c))

pub readers_right : (depth : ℕ) → Right (readers depth)
unfolding readers
readers_right zero = record { level = λ ends n ls. answers_lost; list = λ ls. answers_lost; links = λ ends m ls. answers_lost; ranges = λ ls. answers_lost }
readers_right (suc depth) =
    let r : Readers = readers depth in let h : Right (readers depth) = readers_right depth in record { level = level_right r h; list = list_right r h; links = links_right r h; ranges = ranges_right r h }

reads_all : (n : Level) (ls : List Lexeme) (t : Tree) → Derives n ls t → (from : ℕ) × ((depth : ℕ) → from ≤ depth → (readers depth).level false n ls ≡ taken t [])
reads_all n ls t d =
    let a : LevelReads false n (ls ++ []) t [] = level_reads n ls t d false [] (nothing_follows n ls) in
    (a.from, λ depth low. ap (λ x. (readers depth).level false n x) (sym (append-nil ls)) ∙ a.reads depth low)

front_of : (n : Level) (ls : List Lexeme) (x : Answer Tree) (t : Tree) (rest : List Lexeme) → x ≡ taken t rest → Answers (Derives n) ls x → IsFrontOf n ls t rest
front_of n ls x t rest e (answers_taken v others q is d u) =
    let same : v ≡ t = cc in let none : others ≡ rest = cc in (q, is ∙ ap (λ y. q ++ y) none, subst (λ y. Derives n q y) same d)
front_of n ls x t rest e (answers_refused k o) = absurd (cc)
front_of n ls x t rest e answers_lost = absurd (cc)

pub exactly : ExpressionsAreReadExactly
exactly = record {
  sound = λ depth ends n ls t rest e. let h : Right (readers depth) = readers_right depth in front_of n ls ((readers depth).level ends n ls) t rest e (h.level ends n ls);
  complete = reads_all;
}
