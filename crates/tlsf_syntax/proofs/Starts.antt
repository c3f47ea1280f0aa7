-- How a derived expression begins and ends, and what may follow it.
use Rattle.std.proofs.Common.{◌≡◌, ◌≢◌, ◌<◌, ◌≤◌, ℕ, zero, suc, ◌+◌, get_or, Bool, true, false, ◌&&◌, ◌||◌, append_assoc, cond, List, [], ◌∷◌, ◌++◌, Option, None, Some, refl, sym, ◌∙◌, ap, subst, arith}
use Rattle.std.proofs.lemmas.Bool.{ne_eqb, eq-eqb}
use Rattle.std.specs.Prelude.{IfSome}
use Rattle.std.specs.Option.{is_some}
use Rattle.std.proofs.lemmas.List.{append-nil}
use mathlib.Core.Bool.{or-true}
use Rattle.tlsf_syntax.specs.declared.expr.Op.TheVariants as op
use Rattle.tlsf_syntax.specs.declared.expr.Op.{Op}
use Rattle.tlsf_syntax.specs.declared.expr.Span.{Span}
use Rattle.tlsf_tokens.specs.declared.symbol.Symbol.{Symbol}
use Rattle.tlsf_tokens.specs.declared.symbol.Symbol.TheVariants as symbol
use Rattle.tlsf_syntax.specs.Tree.{Tree, Links, tree_span}
use Rattle.tlsf_syntax.specs.Lexemes.{Lexeme, Is, span_of, end_from}
use Rattle.tlsf_syntax.specs.Symbols.{symbol_eq}
use Rattle.tlsf_syntax.specs.declared.level.Level.{Level}
use Rattle.tlsf_syntax.specs.declared.level.Level.TheVariants.{Primary, Products, Quotients, Sums, Differences, Meets, Unions, Comparisons, Memberships, Prefixes, Conjunctions, Disjunctions, Implications, WeakUntils, Untils, Releases}
use Rattle.tlsf_syntax.specs.declared.level.Joins.TheVariants as joins
use Rattle.tlsf_syntax.specs.Expressions.{tighter_of, joins_of, operator_of, prefix_of, window_of, big_of, Derives, of_number, of_true, of_false, of_name, of_call, of_index, of_size, of_paren, of_set, of_steps, of_tighter, of_chain, of_once, of_right, of_prefix, of_count, of_window, of_big, DerivesLinks, of_no_link, of_link}
use Rattle.tlsf_syntax.specs.Texts.{EndsWithName}
use Rattle.tlsf_syntax.specs.Reading.{begins, level_number, at_level, begins_big, operator_here, links_end, from_to}
use Rattle.tlsf_syntax.proofs.Symbols.{same_symbol}
use Rattle.tlsf_syntax.proofs.Spans.{whole}

-- the symbols that primaries and whole expressions begin with
abbrev pub begins_primary : Symbol → Bool
begins_primary symbol.Number = true
begins_primary symbol.True = true
begins_primary symbol.False = true
begins_primary symbol.Ident = true
begins_primary symbol.SizeOf = true
begins_primary symbol.OpenParen = true
begins_primary symbol.OpenBrace = true
begins_primary _ = false

abbrev pub begins_any : Symbol → Bool
begins_any s = begins_primary s || (is_some (prefix_of s) || is_some (big_of s))

abbrev pub StartsWith : (Symbol → Bool) → List Lexeme → Type 0
StartsWith p [] = ⊥
StartsWith p (l ∷ ls) = p l.symbol ≡ true

one_looser : (m : Level) → IfSome (tighter_of m) (λ n. level_number m ≡ suc (level_number n))
one_looser Primary = tt
one_looser _ = refl

pub tighter_number : (m n : Level) → tighter_of m ≡ Some n → level_number m ≡ suc (level_number n)
tighter_number m n e = subst (λ o. IfSome o (λ n. level_number m ≡ suc (level_number n))) e (one_looser m)

pub no_tighter : (m : Level) → tighter_of m ≡ None → Primary ≡ m
no_tighter Primary e = refl
no_tighter _ e = absurd cc

levels : List Level
levels = Primary ∷ Products ∷ Quotients ∷ Sums ∷ Differences ∷ Meets ∷ Unions ∷ Comparisons ∷ Memberships ∷ Prefixes ∷ Conjunctions ∷ Disjunctions ∷ Implications ∷ WeakUntils ∷ Untils ∷ Releases ∷ []

level_numbered : (n : Level) → get_or levels (level_number n) Primary ≡ n
unfolding levels
level_numbered Primary = refl
level_numbered _ = refl

pub same_level : (n m : Level) → level_number n ≡ level_number m → n ≡ m
same_level n m e = sym (level_numbered n) ∙ ap (λ k. get_or levels k Primary) e ∙ level_numbered m

-- a tree of a level stands at each looser level
pub climb : (k : ℕ) (n m : Level) (ls : List Lexeme) (t : Tree) → level_number m ≡ k + level_number n → Derives n ls t → Derives m ls t
climb zero n m ls t e d = subst (λ x. Derives x ls t) (same_level n m (omega (arith, e))) d
climb (suc k) n m ls t e d = by (λ o f. climb k n o ls t f d) (tighter_of m) refl
  where
    by : ((o : Level) → level_number o ≡ k + level_number n → Derives o ls t) → (o : Option Level) → tighter_of m ≡ o → Derives m ls t
    by up None f = let none : level_number m ≡ 0 = ap level_number (sym (no_tighter m f)) in absurd (omega (arith, e, none))
    by up (Some o) f = let next : level_number m ≡ suc (level_number o) = tighter_number m o f in of_tighter o m ls t f (up o (omega (arith, e, next)))

-- a level that has neither operators nor primaries has the prefixes
pub prefix_level : (m n : Level) → joins_of m ≡ joins.None → tighter_of m ≡ Some n → level_number n ≤ 8
prefix_level Primary n j e = absurd cc
prefix_level Prefixes n j e = let f : Memberships ≡ n = cc in subst (λ k. level_number k ≤ 8) f (omega arith)
prefix_level _ n j e = absurd cc

-- an expression begins as a primary, with a sign before an operand, or with that of a big operator
pub data Head (n : Level) : List Lexeme → Type 0 where
  by_primary : (l : Lexeme) (ls : List Lexeme) → begins_primary l.symbol ≡ true → Head n (l ∷ ls)
  by_prefix : (l : Lexeme) (ls : List Lexeme) (o : Op) → prefix_of l.symbol ≡ Some o → 9 ≤ level_number n → Head n (l ∷ ls)
  by_big : (l before : Lexeme) (ls : List Lexeme) (o : Op) → big_of l.symbol ≡ Some o → Is symbol.OpenBracket before → 9 ≤ level_number n → Head n (l ∷ before ∷ ls)

head_up : (m k : Level) (ls : List Lexeme) → tighter_of k ≡ Some m → Head m ls → Head k ls
head_up m k ls e (by_primary l ms a) = by_primary l ms a
head_up m k ls e (by_prefix l ms o a low) = let f : level_number k ≡ suc (level_number m) = tighter_number k m e in by_prefix l ms o a (omega (arith, f, low))
head_up m k ls e (by_big l before ms o a b low) = let f : level_number k ≡ suc (level_number m) = tighter_number k m e in by_big l before ms o a b (omega (arith, f, low))

window_prefix : (s : Symbol) (o : Op) → window_of s ≡ Some o → prefix_of s ≡ Some o
window_prefix symbol.Finally o e = e
window_prefix symbol.Globally o e = e
window_prefix _ o e = absurd cc

pub head : (n : Level) (ls : List Lexeme) (t : Tree) → Derives n ls t → (rest : List Lexeme) → Head n (ls ++ rest)
head n ls t (of_number l a) rest = by_primary l rest (ap begins_primary a)
head n ls t (of_true l a) rest = by_primary l rest (ap begins_primary a)
head n ls t (of_false l a) rest = by_primary l rest (ap begins_primary a)
head n ls t (of_name l a) rest = by_primary l rest (ap begins_primary a)
head n ls t (of_call l before after ms u more a b c d) rest = by_primary l _ (ap begins_primary a)
head n ls t (of_index l before after ms u a b c d) rest = by_primary l _ (ap begins_primary a)
head n ls t (of_size l ms u a b) rest = by_primary l _ (ap begins_primary a)
head n ls t (of_paren before after ms u a b c) rest = by_primary before _ (ap begins_primary a)
head n ls t (of_set before after ms us a b c) rest = by_primary before _ (ap begins_primary a)
head n ls t (of_steps before comma dots after ms ns ps u v w a b c d e f g) rest = by_primary before _ (ap begins_primary a)
head n ls t (of_tighter m k ms u a b) rest = head_up m k (ms ++ rest) a (head m ms u b rest)
head n ls t (of_chain m k ms ns u v o more a b c d) rest = subst (Head k) (sym (append_assoc ms ns rest)) (head_up m k (ms ++ (ns ++ rest)) a (head m ms u c (ns ++ rest)))
head n ls t (of_once m k l ms ns u v o a b c d e) rest = subst (Head k) (sym (append_assoc ms (l ∷ ns) rest)) (head_up m k (ms ++ l ∷ (ns ++ rest)) a (head m ms u c (l ∷ (ns ++ rest))))
head n ls t (of_right m k l ms ns u v o a b c d e) rest = subst (Head k) (sym (append_assoc ms (l ∷ ns) rest)) (head_up m k (ms ++ l ∷ (ns ++ rest)) a (head m ms u c (l ∷ (ns ++ rest))))
head n ls t (of_prefix l ms u o a b) rest = by_prefix l _ o a (omega arith)
head n ls t (of_count l before after ms ns u v a b c d e) rest = by_prefix l _ op.Next (ap prefix_of a) (omega arith)
head n ls t (of_window l before colon after ms ns ps u v w o a b c d e f g) rest = by_prefix l _ o (window_prefix l.symbol o a) (omega arith)
head n ls t (of_big l before after ms ns rs u o a b c d e) rest = by_big l before _ o a b (omega arith)

pub starts_any : (n : Level) (ls : List Lexeme) (t : Tree) → Derives n ls t → StartsWith begins_any ls
starts_any n ls t d = subst (StartsWith begins_any) (append-nil ls) (by (ls ++ []) (head n ls t d []))
  where
    by : (input : List Lexeme) → Head n input → StartsWith begins_any input
    by input (by_primary l ms a) = rw a refl
    by input (by_prefix l ms o a low) = rw a (or-true (begins_primary l.symbol))
    by input (by_big l before ms o a b low) =
        ap (λ x. begins_primary l.symbol || (is_some (prefix_of l.symbol) || is_some x)) a ∙ ap (λ x. begins_primary l.symbol || x) (or-true (is_some (prefix_of l.symbol))) ∙ or-true (begins_primary l.symbol)

pub starts_primary : (n : Level) (ls : List Lexeme) (t : Tree) → Derives n ls t → level_number n ≤ 8 → StartsWith begins_primary ls
starts_primary n ls t d low = subst (StartsWith begins_primary) (append-nil ls) (by (ls ++ []) (head n ls t d []))
  where
    by : (input : List Lexeme) → Head n input → StartsWith begins_primary input
    by input (by_primary l ms a) = a
    by input (by_prefix l ms o a high) = absurd (omega (arith, low, high))
    by input (by_big l before ms o a b high) = absurd (omega (arith, low, high))

-- a symbol that passes a test isn't one that doesn't
pub not_symbol : (p : Symbol → Bool) (a s : Symbol) → p a ≡ true → p s ≡ false → symbol_eq a s ≡ false
not_symbol p a s yes_a no_s = by (symbol_eq a s) refl
  where
    by : (b : Bool) → symbol_eq a s ≡ b → b ≡ false
    by true e = absurd (let f : true ≡ false = sym yes_a ∙ ap p (same_symbol a s e) ∙ no_s in cc)
    by false e = refl

-- ends

pub end_append : (e : ℕ) (xs ys : List Lexeme) → end_from e (xs ++ ys) ≡ end_from (end_from e xs) ys
end_append e [] ys = refl
end_append e (x ∷ xs) ys = end_append x.end xs ys

end_of_span : (p : Symbol → Bool) (ls : List Lexeme) (e : ℕ) → StartsWith p ls → end_from e ls ≡ (span_of ls).end
end_of_span p [] e s = absurd s
end_of_span p (l ∷ ls) e s = refl

-- a derived expression ends where its tree does
pub derived_end : (n : Level) (ls : List Lexeme) (t : Tree) (e : ℕ) → Derives n ls t → end_from e ls ≡ (tree_span t).end
derived_end n ls t e d = end_of_span begins_any ls e (starts_any n ls t d) ∙ ap (λ (s : Span). s.end) (sym (whole n ls t d))

pub links_ends : (m : Level) (ms : List Lexeme) (links : Links) (e : ℕ) → DerivesLinks m ms links → end_from e ms ≡ links_end e links
links_ends m ms links e (of_no_link k) = refl
links_ends m ms links e (of_link n k l ls ns t o more a b c d) =
    end_append l.end ls ns ∙ ap (λ x. end_from x ns) (derived_end n ls t l.end c) ∙ links_ends k ns more (tree_span t).end d

-- the span of a derived expression with what follows it
pub span_join : (n : Level) (ls ms : List Lexeme) (t : Tree) (e : ℕ) → Derives n ls t → ((d : ℕ) → end_from d ms ≡ e) → span_of (ls ++ ms) ≡ from_to (tree_span t).start e
span_join n ls ms t e d ends = by ls (starts_any n ls t d) (whole n ls t d)
  where
    by : (ls : List Lexeme) → StartsWith begins_any ls → tree_span t ≡ span_of ls → span_of (ls ++ ms) ≡ from_to (tree_span t).start e
    by [] s w = absurd s
    by (l ∷ ls) s w = ap (λ x. from_to l.start x) (end_append l.end ls ms ∙ ends (end_from l.end ls)) ∙ ap (λ (s : Span). from_to s.start e) (sym w)

pub span_closed : (l : Lexeme) (xs : List Lexeme) (last : Lexeme) → span_of (l ∷ xs ++ last ∷ []) ≡ from_to l.start last.end
span_closed l xs last = ap (λ x. from_to l.start x) (end_append l.end xs (last ∷ []))

-- names at the end

pub ends-append : (xs ys : List Lexeme) → EndsWithName ys → EndsWithName (xs ++ ys)
ends-append [] ys e = e
ends-append (x ∷ []) [] e = absurd e
ends-append (x ∷ []) (y ∷ ys) e = e
ends-append (x ∷ z ∷ xs) ys e = ends-append (z ∷ xs) ys e

-- what may follow an expression of a level, which is these lexemes: it doesn't go on with it
pub record Follows (ends : Bool) (n : Level) (ls rest : List Lexeme) : Type 0 where
  pub operators : (m : Level) → level_number m ≤ level_number n → operator_here ends m rest ≡ None
  pub bracket : begins symbol.OpenBracket rest ≡ false
  pub call : EndsWithName ls → begins symbol.OpenParen rest ≡ false

pub follows_part : (ends : Bool) (n m : Level) (ls ms rest : List Lexeme) → (EndsWithName ms → EndsWithName ls) → level_number m ≤ level_number n → Follows ends n ls rest → Follows ends m ms rest
follows_part ends n m ls ms rest part low f = record {
  operators = λ k h. f.operators k (omega (arith, low, h));
  bracket = f.bracket;
  call = λ e. f.call (part e);
}

pub unless : {A : Type 0} (b : Bool) (x : Option A) → x ≡ None → cond b None x ≡ None
unless true x e = refl
unless false x e = e

-- an operator of a looser level isn't one of this level
operator_apart : (ends : Bool) (k m : Level) (l : Lexeme) (ls : List Lexeme) (o : Op) → operator_of l.symbol ≡ Some (m, o) → level_number k < level_number m → operator_here ends k (l ∷ ls) ≡ None
operator_apart ends k m l ls o e low =
    unless (ends && begins_big (l ∷ ls)) (at_level k (operator_of l.symbol))
    (ap (at_level k) e ∙ (let ne : level_number m ≢ level_number k = omega arith in ap (λ b. cond b (Some o) None) (ne_eqb (level_number m) (level_number k) ne)))

is_operator : Symbol → Bool
is_operator s = is_some (operator_of s)

pub operator_follows : (ends : Bool) (n m : Level) (xs : List Lexeme) (l : Lexeme) (ls : List Lexeme) (o : Op) → operator_of l.symbol ≡ Some (m, o) → level_number n < level_number m → Follows ends n xs (l ∷ ls)
unfolding is_operator
operator_follows ends n m xs l ls o e low = record {
  operators = λ k h. operator_apart ends k m l ls o e (omega (arith, low, h));
  bracket = not_symbol is_operator l.symbol symbol.OpenBracket (ap is_some e) refl;
  call = λ _. not_symbol is_operator l.symbol symbol.OpenParen (ap is_some e) refl;
}

and_false : (a b : Bool) → (a && (b && false)) ≡ false
and_false true true = refl
and_false true false = refl
and_false false true = refl
and_false false false = refl

-- an operator with an operand behind it
pub operator_found : (ends : Bool) (m : Level) (l : Lexeme) (ls : List Lexeme) (o : Op) → operator_of l.symbol ≡ Some (m, o) → StartsWith begins_any ls → operator_here ends m (l ∷ ls) ≡ Some o
operator_found ends m l [] o e s = absurd s
operator_found ends m l (n ∷ ls) o e s =
    ap (λ b. cond (ends && (is_some (big_of l.symbol) && b)) None (at_level m (operator_of l.symbol))) (not_symbol begins_any n.symbol symbol.OpenBracket s refl)
    ∙ ap (λ b. cond b None (at_level m (operator_of l.symbol))) (and_false ends (is_some (big_of l.symbol)))
    ∙ ap (at_level m) e ∙ ap (λ b. cond b (Some o) None) (eq-eqb (level_number m) (level_number m) refl)

-- a sign that ends an expression
pub record Ends (l : Lexeme) : Type 0 where
  pub operator : operator_of l.symbol ≡ None
  pub bracket : symbol_eq l.symbol symbol.OpenBracket ≡ false
  pub paren : symbol_eq l.symbol symbol.OpenParen ≡ false

pub ends_of : (s : Symbol) (l : Lexeme) → Is s l → operator_of s ≡ None → symbol_eq s symbol.OpenBracket ≡ false → symbol_eq s symbol.OpenParen ≡ false → Ends l
ends_of s l e a b c = record { operator = ap operator_of e ∙ a; bracket = ap (λ x. symbol_eq x symbol.OpenBracket) e ∙ b; paren = ap (λ x. symbol_eq x symbol.OpenParen) e ∙ c }

pub ends_follow : (n : Level) (ls : List Lexeme) (l : Lexeme) (more : List Lexeme) → Ends l → Follows false n ls (l ∷ more)
ends_follow n ls l more e = record { operators = λ k h. ap (at_level k) e.operator; bracket = e.bracket; call = λ _. e.paren }
