-- A reader that refuses a lexeme has looked at nothing after it: what two inputs with the same front give, as far as that front goes.
use Rattle.std.proofs.Common.{◌≡◌, ◌≤◌, ℕ, zero, suc, Bool, true, false, ◌&&◌, cond, List, [], ◌∷◌, ◌++◌, length, drop, Option, None, Some, refl, sym, ap, subst, arith}
use Rattle.std.specs.Option.{is_some}
use Rattle.std.proofs.lemmas.Bool.{and_parts}
use Rattle.tlsf_syntax.specs.declared.expr.Op.{Op}
use Rattle.tlsf_syntax.specs.declared.expr.Op.TheVariants as op
use Rattle.tlsf_tokens.specs.declared.symbol.Symbol.{Symbol}
use Rattle.tlsf_tokens.specs.declared.symbol.Symbol.TheVariants as symbol
use Rattle.tlsf_syntax.specs.Tree.{Tree, Trees, Links, Ranges, tree_span, pair, prefix, count, window, big, no_trees, tree, no_links, link, members, between}
use Rattle.tlsf_syntax.specs.Lexemes.{Lexeme, Is, word_of}
use Rattle.tlsf_syntax.specs.Symbols.{symbol_eq}
use Rattle.tlsf_syntax.specs.declared.level.Level.{Level}
use Rattle.tlsf_syntax.specs.declared.level.Level.TheVariants.{Primary, Sums, Prefixes, Memberships, Releases, Conjunctions, Disjunctions, Implications, WeakUntils, Untils}
use Rattle.tlsf_syntax.specs.declared.level.Joins.{Joins}
use Rattle.tlsf_syntax.specs.declared.level.Joins.TheVariants as joins
use Rattle.tlsf_syntax.specs.Expressions.{tighter_of, joins_of, operator_of, big_of, bound_of}
use Rattle.tlsf_syntax.proofs.Symbols.{same_symbol}
use Rattle.tlsf_syntax.specs.Reading.{Answer, taken, refused, lost, go_on, begins, expect, if_next, level_number, at_level, begins_big, operator_at, operator_here, Readers, chain_of, joined_by, from_to, word_with, set_with, set_second, set_third, close_set, primary_by, primary_with, prefix_by, prefix_with, prefixed, counted, windowed, big_with, level_by, level_with, list_with, linked, links_with, more_ranges, bounded, bound, between_with, ranges_with, readers}

-- the last lexeme of a front, and two ways in which the lexemes go on after it
pub record Fork : Type 0 where
  pub last : Lexeme
  pub one : List Lexeme
  pub other : List Lexeme

-- no more than so many lexemes are left
pub data Leaves {A : Type 0} (n : ℕ) : Answer A → Type 0 where
  leaves_taken : (a : A) (rest : List Lexeme) → length rest ≤ n → Leaves n (taken a rest)
  leaves_refused : (k : ℕ) → k ≤ n → Leaves n (refused k)
  leaves_lost : Leaves n lost

-- The last lexeme of the front was passed; or what was taken ends before it, where S says that the lexemes after it decide so.
pub data Passes {A : Type 0} (S : Type 0) (l : Lexeme) (after : List Lexeme) : Answer A → Type 0 where
  passing : (x : Answer A) → Leaves (length after) x → Passes S l after x
  stopping : (a : A) → S → Passes S l after (taken a (l ∷ after))

-- the answers on both inputs are the same within the front, or both are past it
pub data Agrees {A : Type 0} (S : Type 0) (e : Fork) : Answer A → Answer A → Type 0 where
  both_taken : (a : A) (p : List Lexeme) → Agrees S e (taken a (p ++ e.last ∷ e.one)) (taken a (p ++ e.last ∷ e.other))
  both_refused : (p : List Lexeme) → Agrees S e (refused (length (p ++ e.last ∷ e.one))) (refused (length (p ++ e.last ∷ e.other)))
  both_pass : (x y : Answer A) → Passes S e.last e.one x → Passes S e.last e.other y → Agrees S e x y
  one_lost : (y : Answer A) → Agrees S e lost y
  other_lost : (x : Answer A) → Agrees S e x lost

pub record Steady {A : Type 0} (S : Type 0) (e : Fork) (F : List Lexeme → Answer A) : Type 0 where
  pub same : (p : List Lexeme) → Agrees S e (F (p ++ e.last ∷ e.one)) (F (p ++ e.last ∷ e.other))
  pub leaves : (ls : List Lexeme) → Leaves (length ls) (F ls)

pub loosen : {A : Type 0} (m n : ℕ) (x : Answer A) → m ≤ n → Leaves m x → Leaves n x
loosen m n x h (leaves_taken a rest k) = leaves_taken a rest (omega arith)
loosen m n x h (leaves_refused j k) = leaves_refused j (omega arith)
loosen m n x h leaves_lost = leaves_lost

pub rewritten : {A : Type 0} (S : Type 0) (e : Fork) (x y x' y' : Answer A) → x' ≡ x → y' ≡ y → Agrees S e x y → Agrees S e x' y'
rewritten S e x y x' y' f g a = subst (λ z. Agrees S e z y') (sym f) (subst (λ z. Agrees S e x z) (sym g) a)

-- one after the other

pub go_leaves : {A B : Type 0} (n : ℕ) (x : Answer A) (k : A → List Lexeme → Answer B) → Leaves n x → ((a : A) (rest : List Lexeme) → Leaves (length rest) (k a rest)) → Leaves n (go_on x k)
go_leaves n x k (leaves_taken a rest h) f = loosen (length rest) n (k a rest) h (f a rest)
go_leaves n x k (leaves_refused j h) f = leaves_refused j h
go_leaves n x k leaves_lost f = leaves_lost

pub go_passes : {A B : Type 0} (S T : Type 0) (l : Lexeme) (after : List Lexeme) (x : Answer A) (k : A → List Lexeme → Answer B) → Passes T l after x → ((a : A) (rest : List Lexeme) → Leaves (length rest) (k a rest))
    → (T → (a : A) → Passes S l after (k a (l ∷ after))) → Passes S l after (go_on x k)
go_passes S T l after x k (passing y h) f g = passing (go_on y k) (go_leaves (length after) y k h f)
go_passes S T l after x k (stopping a s) f g = g s a

pub go_agrees : {A B : Type 0} (S T : Type 0) (e : Fork) (x y : Answer A) (k : A → List Lexeme → Answer B) → Agrees T e x y → ((a : A) → Steady S e (k a))
    → (T → (a : A) (after : List Lexeme) → Passes S e.last after (k a (e.last ∷ after))) → Agrees S e (go_on x k) (go_on y k)
go_agrees S T e x y k (both_taken a p) f g = let s : Steady S e (k a) = f a in s.same p
go_agrees S T e x y k (both_refused p) f g = both_refused p
go_agrees S T e x y k (both_pass v w c d) f g =
    both_pass (go_on v k) (go_on w k) (go_passes S T e.last e.one v k c (λ a rest. let s : Steady S e (k a) = f a in s.leaves rest) (λ s a. g s a e.one))
    (go_passes S T e.last e.other w k d (λ a rest. let s : Steady S e (k a) = f a in s.leaves rest) (λ s a. g s a e.other))
go_agrees S T e x y k (one_lost w) f g = one_lost (go_on w k)
go_agrees S T e x y k (other_lost v) f g = other_lost (go_on v k)

pub steady_go_on : {A B : Type 0} (S T : Type 0) (e : Fork) (F : List Lexeme → Answer A) (K : A → List Lexeme → Answer B) → Steady T e F → ((a : A) → Steady S e (K a))
    → (T → (a : A) (after : List Lexeme) → Passes S e.last after (K a (e.last ∷ after))) → Steady S e (λ ls. go_on (F ls) K)
steady_go_on S T e F K f g h = record {
  same = λ p. go_agrees S T e (F (p ++ e.last ∷ e.one)) (F (p ++ e.last ∷ e.other)) K (f.same p) g h;
  leaves = λ ls. go_leaves (length ls) (F ls) K (f.leaves ls) (λ a rest. let s : Steady S e (K a) = g a in s.leaves rest);
}

-- after a part that never stops early
pub steady_after : {A B : Type 0} (S T : Type 0) (e : Fork) (F : List Lexeme → Answer A) (K : A → List Lexeme → Answer B) → ¬ T → Steady T e F → ((a : A) → Steady S e (K a)) → Steady S e (λ ls. go_on (F ls) K)
steady_after S T e F K never f g = steady_go_on S T e F K f g (λ t a after. absurd (never t))

pub steady_taken : {A : Type 0} (S : Type 0) (e : Fork) (a : A) → Steady S e (λ ls. taken a ls)
steady_taken S e a = record { same = λ p. both_taken a p; leaves = λ ls. leaves_taken a ls (omega arith) }

pub steady_lost : {A : Type 0} (S : Type 0) (e : Fork) → Steady {A = A} S e (λ ls. lost)
steady_lost S e = record { same = λ p. one_lost lost; leaves = λ ls. leaves_lost }

-- the first lexeme decides

-- what a first lexeme leads to: it is passed, or refused, or looked at no further
pub data Step {A : Type 0} (S : Type 0) (e : Fork) (l : Lexeme) (G : List Lexeme → Answer A) : Type 0 where
  steps_on : Steady S e G → Step S e l G
  step_refused : ((ls : List Lexeme) → G ls ≡ refused (suc (length ls))) → Step S e l G
  steps_as : (F : List Lexeme → Answer A) → Steady S e F → ((ls : List Lexeme) → G ls ≡ F (l ∷ ls)) → Step S e l G

pub steady_front : {A : Type 0} (S : Type 0) (e : Fork) (G : List Lexeme → Answer A) (H : Lexeme → List Lexeme → Answer A) → Leaves 0 (G []) → ((l : Lexeme) (ls : List Lexeme) → G (l ∷ ls) ≡ H l ls) → ((l : Lexeme) → Step S e l (H l)) → Steady S e G
steady_front S e G H none_left is h = record { same = by_front; leaves = shrinks }
  where
    here : Step S e e.last (H e.last) → Agrees S e (H e.last e.one) (H e.last e.other)
    here (steps_on t) = both_pass (H e.last e.one) (H e.last e.other) (passing (H e.last e.one) (t.leaves e.one)) (passing (H e.last e.other) (t.leaves e.other))
    here (step_refused r) = rewritten S e (refused (suc (length e.one))) (refused (suc (length e.other))) (H e.last e.one) (H e.last e.other) (r e.one) (r e.other) (both_refused [])
    here (steps_as F f r) = rewritten S e (F (e.last ∷ e.one)) (F (e.last ∷ e.other)) (H e.last e.one) (H e.last e.other) (r e.one) (r e.other) (f.same [])

    later : (l : Lexeme) (p : List Lexeme) → Step S e l (H l) → Agrees S e (H l (p ++ e.last ∷ e.one)) (H l (p ++ e.last ∷ e.other))
    later l p (steps_on t) = t.same p
    later l p (step_refused r) =
        rewritten S e (refused (suc (length (p ++ e.last ∷ e.one)))) (refused (suc (length (p ++ e.last ∷ e.other)))) (H l (p ++ e.last ∷ e.one)) (H l (p ++ e.last ∷ e.other)) (r (p ++ e.last ∷ e.one)) (r (p ++ e.last ∷ e.other)) (both_refused (l ∷ p))
    later l p (steps_as F f r) =
        rewritten S e (F (l ∷ p ++ e.last ∷ e.one)) (F (l ∷ p ++ e.last ∷ e.other)) (H l (p ++ e.last ∷ e.one)) (H l (p ++ e.last ∷ e.other)) (r (p ++ e.last ∷ e.one)) (r (p ++ e.last ∷ e.other)) (f.same (l ∷ p))

    by_front : (p : List Lexeme) → Agrees S e (G (p ++ e.last ∷ e.one)) (G (p ++ e.last ∷ e.other))
    by_front [] = rewritten S e (H e.last e.one) (H e.last e.other) (G (e.last ∷ e.one)) (G (e.last ∷ e.other)) (is e.last e.one) (is e.last e.other) (here (h e.last))
    by_front (l ∷ p) = rewritten S e (H l (p ++ e.last ∷ e.one)) (H l (p ++ e.last ∷ e.other)) (G (l ∷ p ++ e.last ∷ e.one)) (G (l ∷ p ++ e.last ∷ e.other)) (is l (p ++ e.last ∷ e.one)) (is l (p ++ e.last ∷ e.other)) (later l p (h l))

    less : (l : Lexeme) (ls : List Lexeme) → Step S e l (H l) → Leaves (suc (length ls)) (H l ls)
    less l ls (steps_on t) = loosen (length ls) (suc (length ls)) (H l ls) (omega arith) (t.leaves ls)
    less l ls (step_refused r) = subst (Leaves (suc (length ls))) (sym (r ls)) (leaves_refused (suc (length ls)) (omega arith))
    less l ls (steps_as F f r) = subst (Leaves (suc (length ls))) (sym (r ls)) (f.leaves (l ∷ ls))

    shrinks : (ls : List Lexeme) → Leaves (length ls) (G ls)
    shrinks [] = none_left
    shrinks (l ∷ ls) = subst (Leaves (suc (length ls))) (sym (is l ls)) (less l ls (h l))

pub steady_expect : {B : Type 0} (S : Type 0) (e : Fork) (s : Symbol) (f : Lexeme → List Lexeme → Answer B) → ((l : Lexeme) → Steady S e (f l)) → Steady S e (λ ls. expect s ls f)
steady_expect S e s f g =
    steady_front S e (λ ls. expect s ls f) (λ l ls. cond (symbol_eq l.symbol s) (f l ls) (refused (suc (length ls)))) (leaves_refused 0 (omega arith)) (λ l ls. refl) (λ l. by l (symbol_eq l.symbol s))
  where
    by : (l : Lexeme) (b : Bool) → Step S e l (λ ls. cond b (f l ls) (refused (suc (length ls))))
    by l true = steps_on (g l)
    by l false = step_refused (λ ls. refl)

pub steady_if_next : {B : Type 0} (S : Type 0) (e : Fork) (s : Symbol) (f : Lexeme → List Lexeme → Answer B) (G : List Lexeme → Answer B) → ((l : Lexeme) → Steady S e (f l)) → Steady S e G
    → Steady S e (λ ls. if_next s ls f (G ls))
steady_if_next S e s f G g h = steady_front S e (λ ls. if_next s ls f (G ls)) (λ l ls. cond (symbol_eq l.symbol s) (f l ls) (G (l ∷ ls))) (h.leaves []) (λ l ls. refl) (λ l. by l (symbol_eq l.symbol s))
  where
    by : (l : Lexeme) (b : Bool) → Step S e l (λ ls. cond b (f l ls) (G (l ∷ ls)))
    by l true = steps_on (g l)
    by l false = steps_as G h (λ ls. refl)

-- a test of the first lexeme
pub steady_test : {B : Type 0} (S : Type 0) (e : Fork) (T : List Lexeme → Bool) (F G : List Lexeme → Answer B) → ((l : Lexeme) (ls : List Lexeme) → T (l ∷ ls) ≡ T (l ∷ [])) → Steady S e F → Steady S e G
    → Steady S e (λ ls. cond (T ls) (F ls) (G ls))
steady_test S e T F G alike f g =
    steady_front S e (λ ls. cond (T ls) (F ls) (G ls)) (λ l ls. cond (T (l ∷ [])) (F (l ∷ ls)) (G (l ∷ ls))) (nothing (T [])) (λ l ls. ap (λ b. cond b (F (l ∷ ls)) (G (l ∷ ls))) (alike l ls)) (λ l. by l (T (l ∷ [])))
  where
    nothing : (b : Bool) → Leaves 0 (cond b (F []) (G []))
    nothing true = f.leaves []
    nothing false = g.leaves []

    by : (l : Lexeme) (b : Bool) → Step S e l (λ ls. cond b (F (l ∷ ls)) (G (l ∷ ls)))
    by l true = steps_as F f (λ ls. refl)
    by l false = steps_as G g (λ ls. refl)

pub steady_begins : {B : Type 0} (S : Type 0) (e : Fork) (s : Symbol) (F G : List Lexeme → Answer B) → Steady S e F → Steady S e G → Steady S e (λ ls. cond (begins s ls) (F ls) (G ls))
steady_begins S e s F G f g = steady_test S e (begins s) F G (λ l ls. refl) f g

-- expressions

-- where another expression may follow, the sign of a big operator may end one
abbrev pub Stop : Lexeme → Bool → Type 0
Stop l ends = (ends ≡ true) × (is_some (big_of l.symbol) ≡ true)

pub goes_through : (l : Lexeme) → ¬ Stop l false
goes_through l s = let e : false ≡ true = s.0 in cc

-- Readers of the forms that contain each other; after an operand the operators read on, or stop before the sign of a big
-- operator.
pub record Agreeing (e : Fork) (r : Readers) : Type 0 where
  pub level : (ends : Bool) (m : Level) → Steady (Stop e.last ends) e (r.level ends m)
  pub list : Steady ⊥ e r.list
  pub links : (ends : Bool) (m : Level) → Steady (Stop e.last ends) e (r.links ends m)
  pub goes_on : (ends : Bool) (m : Level) (after : List Lexeme) → Stop e.last ends → Passes (Stop e.last ends) e.last after (r.links ends m (e.last ∷ after))
  pub ranges : Steady ⊥ e r.ranges
  -- an expression begins with a name, and with the sign of a big operator where its level has signs
  pub named_front : Is symbol.Ident e.last → (m : Level) (after : List Lexeme) → Passes ⊥ e.last after (r.level false m (e.last ∷ after))
  pub big_front : is_some (big_of e.last.symbol) ≡ true → (m : Level) → 9 ≤ level_number m → (after : List Lexeme) → Passes ⊥ e.last after (r.level false m (e.last ∷ after))

-- an expression in brackets
within : {B : Type 0} (S : Type 0) (e : Fork) (r : Readers) → Agreeing e r → (m : Level) (K : Tree → List Lexeme → Answer B) → ((t : Tree) → Steady S e (K t)) → Steady S e (λ ls. go_on (r.level false m ls) K)
within S e r h m K g = steady_after S (Stop e.last false) e (r.level false m) K (goes_through e.last) (h.level false m) g

listed : {B : Type 0} (S : Type 0) (e : Fork) (r : Readers) → Agreeing e r → (K : Trees → List Lexeme → Answer B) → ((t : Trees) → Steady S e (K t)) → Steady S e (λ ls. go_on (r.list ls) K)
listed S e r h K g = steady_after S ⊥ e r.list K (λ n. n) h.list g

ranged : {B : Type 0} (S : Type 0) (e : Fork) (r : Readers) → Agreeing e r → (K : Ranges → List Lexeme → Answer B) → ((t : Ranges) → Steady S e (K t)) → Steady S e (λ ls. go_on (r.ranges ls) K)
ranged S e r h K g = steady_after S ⊥ e r.ranges K (λ n. n) h.ranges g

word_steady : (S : Type 0) (e : Fork) (r : Readers) → Agreeing e r → (l : Lexeme) → Steady S e (word_with r l)
word_steady S e r h l =
    steady_if_next S e symbol.OpenParen _ _ (λ _. listed S e r h _ (λ ts. steady_expect S e symbol.CloseParen _ (λ last. steady_taken S e _)))
    (steady_if_next S e symbol.OpenBracket _ _ (λ _. within S e r h Releases _ (λ t. steady_expect S e symbol.CloseBracket _ (λ last. steady_taken S e _))) (steady_taken S e _))

close_steady : (S : Type 0) (e : Fork) (l : Lexeme) (ts : Trees) → Steady S e (close_set l ts)
close_steady S e l ts = steady_expect S e symbol.CloseBrace _ (λ last. steady_taken S e _)

third_steady : (S : Type 0) (e : Fork) (r : Readers) → Agreeing e r → (l : Lexeme) (t u : Tree) → Steady S e (set_third r l t u)
third_steady S e r h l t u =
    steady_if_next S e symbol.Dots _ _ (λ _. within S e r h Releases _ (λ v. steady_expect S e symbol.CloseBrace _ (λ last. steady_taken S e _)))
    (steady_if_next S e symbol.Comma _ _ (λ _. listed S e r h _ (λ more. close_steady S e l (tree t (tree u more)))) (close_steady S e l (tree t (tree u no_trees))))

second_steady : (S : Type 0) (e : Fork) (r : Readers) → Agreeing e r → (l : Lexeme) (t : Tree) → Steady S e (set_second r l t)
second_steady S e r h l t =
    steady_if_next S e symbol.Comma _ _ (λ _. within S e r h Releases _ (λ u. third_steady S e r h l t u)) (close_steady S e l (tree t no_trees))

set_steady : (S : Type 0) (e : Fork) (r : Readers) → Agreeing e r → (l : Lexeme) → Steady S e (set_with r l)
set_steady S e r h l = steady_if_next S e symbol.CloseBrace _ _ (λ last. steady_taken S e _) (within S e r h Releases _ (λ t. second_steady S e r h l t))

primary_step : (S : Type 0) (e : Fork) (r : Readers) → Agreeing e r → (s : Symbol) (l : Lexeme) → Step S e l (primary_by r s l)
primary_step S e r h symbol.Number l = steps_on (steady_taken S e _)
primary_step S e r h symbol.True l = steps_on (steady_taken S e _)
primary_step S e r h symbol.False l = steps_on (steady_taken S e _)
primary_step S e r h symbol.Ident l = steps_on (word_steady S e r h l)
primary_step S e r h symbol.SizeOf l = steps_on (within S e r h Primary _ (λ t. steady_taken S e _))
primary_step S e r h symbol.OpenParen l = steps_on (within S e r h Releases _ (λ t. steady_expect S e symbol.CloseParen _ (λ last. steady_taken S e _)))
primary_step S e r h symbol.OpenBrace l = steps_on (set_steady S e r h l)
primary_step S e r h _ l = step_refused (λ ls. refl)

primary_steady : (S : Type 0) (e : Fork) (r : Readers) → Agreeing e r → Steady S e (primary_with r)
primary_steady S e r h =
    steady_front S e (primary_with r) (λ l. primary_by r l.symbol l) (leaves_refused 0 (omega arith)) (λ l ls. refl) (λ l. primary_step S e r h l.symbol l)

-- signs before an operand

level_of_ends : {B : Type 0} (e : Fork) (r : Readers) → Agreeing e r → (ends : Bool) (m : Level) (K : Tree → List Lexeme → Answer B) → ((t : Tree) → Steady (Stop e.last ends) e (K t))
    → (Stop e.last ends → (t : Tree) (after : List Lexeme) → Passes (Stop e.last ends) e.last after (K t (e.last ∷ after))) → Steady (Stop e.last ends) e (λ ls. go_on (r.level ends m ls) K)
level_of_ends e r h ends m K g p = steady_go_on (Stop e.last ends) (Stop e.last ends) e (r.level ends m) K (h.level ends m) g p

-- the last operand of a form
operand : (e : Fork) (r : Readers) → Agreeing e r → (ends : Bool) (m : Level) (f : Tree → Tree) → Steady (Stop e.last ends) e (λ ls. go_on (r.level ends m ls) (λ t rest. taken (f t) rest))
operand e r h ends m f = level_of_ends e r h ends m (λ t rest. taken (f t) rest) (λ t. steady_taken (Stop e.last ends) e (f t)) (λ s t after. stopping (f t) s)

prefixed_steady : (e : Fork) (r : Readers) → Agreeing e r → (ends : Bool) (o : Op) (l : Lexeme) → Steady (Stop e.last ends) e (prefixed r ends o l)
prefixed_steady e r h ends o l = operand e r h ends Prefixes (λ t. prefix (from_to l.start (tree_span t).end) o t)

counted_steady : (e : Fork) (r : Readers) → Agreeing e r → (ends : Bool) (l : Lexeme) → Steady (Stop e.last ends) e (counted r ends l)
counted_steady e r h ends l =
    within (Stop e.last ends) e r h Releases _ (λ t. steady_expect (Stop e.last ends) e symbol.CloseBracket _ (λ _. operand e r h ends Prefixes (λ u. count (from_to l.start (tree_span u).end) t u)))

windowed_steady : (e : Fork) (r : Readers) → Agreeing e r → (ends : Bool) (o : Op) (l : Lexeme) → Steady (Stop e.last ends) e (windowed r ends o l)
windowed_steady e r h ends o l =
    within (Stop e.last ends) e r h Releases _ (λ t. steady_expect (Stop e.last ends) e symbol.Colon _ (λ _. within (Stop e.last ends) e r h Releases _ (λ u.
    steady_expect (Stop e.last ends) e symbol.CloseBracket _ (λ _. operand e r h ends Prefixes (λ v. window (from_to l.start (tree_span v).end) o t u v)))))

big_steady : (e : Fork) (r : Readers) → Agreeing e r → (ends : Bool) (o : Op) (l : Lexeme) → Steady (Stop e.last ends) e (big_with r ends o l)
big_steady e r h ends o l =
    steady_expect (Stop e.last ends) e symbol.OpenBracket _ (λ _. ranged (Stop e.last ends) e r h _ (λ rs. steady_expect (Stop e.last ends) e symbol.CloseBracket _ (λ _.
    operand e r h ends Prefixes (λ t. big (from_to l.start (tree_span t).end) o rs t))))

prefix_step : (e : Fork) (r : Readers) → Agreeing e r → (ends : Bool) (n : Level) (s : Symbol) (l : Lexeme) → Step (Stop e.last ends) e l (prefix_by r ends n s l)
prefix_step e r h ends n symbol.Not l = steps_on (prefixed_steady e r h ends op.Not l)
prefix_step e r h ends n symbol.Next l = steps_on (steady_if_next (Stop e.last ends) e symbol.OpenBracket _ _ (λ _. counted_steady e r h ends l) (prefixed_steady e r h ends op.Next l))
prefix_step e r h ends n symbol.Finally l = steps_on (steady_if_next (Stop e.last ends) e symbol.OpenBracket _ _ (λ _. windowed_steady e r h ends op.Finally l) (prefixed_steady e r h ends op.Finally l))
prefix_step e r h ends n symbol.Globally l = steps_on (steady_if_next (Stop e.last ends) e symbol.OpenBracket _ _ (λ _. windowed_steady e r h ends op.Globally l) (prefixed_steady e r h ends op.Globally l))
prefix_step e r h ends n symbol.And l = steps_on (big_steady e r h ends op.And l)
prefix_step e r h ends n symbol.Or l = steps_on (big_steady e r h ends op.Or l)
prefix_step e r h ends n _ l = steps_as (r.level ends n) (h.level ends n) (λ ls. refl)

prefix_steady : (e : Fork) (r : Readers) → Agreeing e r → (ends : Bool) (n : Level) → Steady (Stop e.last ends) e (prefix_with r ends n)
prefix_steady e r h ends n =
    let t : Steady (Stop e.last ends) e (r.level ends n) = h.level ends n in
    steady_front (Stop e.last ends) e (prefix_with r ends n) (λ l. prefix_by r ends n l.symbol l) (t.leaves []) (λ l ls. refl) (λ l. prefix_step e r h ends n l.symbol l)

-- operators between operands

-- the sign of a big operator isn't at the front where the first lexeme is none
not_big : (ends : Bool) (l : Lexeme) (ls : List Lexeme) → (ends && is_some (big_of l.symbol)) ≡ false → (ends && begins_big (l ∷ ls)) ≡ false
not_big false l ls e = refl
not_big true l [] e = refl
not_big true l (n ∷ ls) e = ap (λ b. b && symbol_eq n.symbol symbol.OpenBracket) e

-- what the operator in front decides: with none nothing more is taken
pub record Chooses {B : Type 0} (S : Type 0) (e : Fork) (G : Option Op → List Lexeme → Answer B) : Type 0 where
  value : B
  nothing : (ls : List Lexeme) → G None ls ≡ taken value ls
  more : Op → List Lexeme → Answer B
  passes : (o : Op) (ls : List Lexeme) → G (Some o) ls ≡ more o (drop 1 ls)
  steady : (o : Op) → Steady S e (more o)

chosen_stops : {B : Type 0} (e : Fork) (ends : Bool) (m : Level) (G : Option Op → List Lexeme → Answer B) → Chooses (Stop e.last ends) e G → Stop e.last ends → (after : List Lexeme)
    → Passes (Stop e.last ends) e.last after (G (operator_here ends m (e.last ∷ after)) (e.last ∷ after))
chosen_stops e ends m G c s after = by (operator_here ends m (e.last ∷ after))
  where
    by : (o : Option Op) → Passes (Stop e.last ends) e.last after (G o (e.last ∷ after))
    by None = subst (Passes (Stop e.last ends) e.last after) (sym (c.nothing (e.last ∷ after))) (stopping c.value s)
    by (Some o) = let t : Steady (Stop e.last ends) e (c.more o) = c.steady o in subst (Passes (Stop e.last ends) e.last after) (sym (c.passes o (e.last ∷ after))) (passing (c.more o after) (t.leaves after))

chosen_steady : {B : Type 0} (e : Fork) (ends : Bool) (m : Level) (G : Option Op → List Lexeme → Answer B) → Chooses (Stop e.last ends) e G → Steady (Stop e.last ends) e (λ ls. G (operator_here ends m ls) ls)
chosen_steady e ends m G c = record { same = by_front; leaves = λ ls. less (operator_here ends m ls) ls }
  where
    within_front : (o : Option Op) (p : List Lexeme) (l : Lexeme) → Agrees (Stop e.last ends) e (G o (l ∷ p ++ e.last ∷ e.one)) (G o (l ∷ p ++ e.last ∷ e.other))
    within_front None p l = rewritten (Stop e.last ends) e (taken c.value (l ∷ p ++ e.last ∷ e.one)) (taken c.value (l ∷ p ++ e.last ∷ e.other)) (G None (l ∷ p ++ e.last ∷ e.one)) (G None (l ∷ p ++ e.last ∷ e.other))
        (c.nothing (l ∷ p ++ e.last ∷ e.one)) (c.nothing (l ∷ p ++ e.last ∷ e.other)) (both_taken c.value (l ∷ p))
    within_front (Some o) p l = let t : Steady (Stop e.last ends) e (c.more o) = c.steady o in
        rewritten (Stop e.last ends) e (c.more o (p ++ e.last ∷ e.one)) (c.more o (p ++ e.last ∷ e.other)) (G (Some o) (l ∷ p ++ e.last ∷ e.one)) (G (Some o) (l ∷ p ++ e.last ∷ e.other))
        (c.passes o (l ∷ p ++ e.last ∷ e.one)) (c.passes o (l ∷ p ++ e.last ∷ e.other)) (t.same p)

    at_last : (o : Option Op) → Agrees (Stop e.last ends) e (G o (e.last ∷ e.one)) (G o (e.last ∷ e.other))
    at_last None = rewritten (Stop e.last ends) e (taken c.value (e.last ∷ e.one)) (taken c.value (e.last ∷ e.other)) (G None (e.last ∷ e.one)) (G None (e.last ∷ e.other))
        (c.nothing (e.last ∷ e.one)) (c.nothing (e.last ∷ e.other)) (both_taken c.value [])
    at_last (Some o) = let t : Steady (Stop e.last ends) e (c.more o) = c.steady o in
        rewritten (Stop e.last ends) e (c.more o e.one) (c.more o e.other) (G (Some o) (e.last ∷ e.one)) (G (Some o) (e.last ∷ e.other)) (c.passes o (e.last ∷ e.one)) (c.passes o (e.last ∷ e.other))
        (both_pass (c.more o e.one) (c.more o e.other) (passing (c.more o e.one) (t.leaves e.one)) (passing (c.more o e.other) (t.leaves e.other)))

    here : (b : Bool) → (ends && is_some (big_of e.last.symbol)) ≡ b → Agrees (Stop e.last ends) e (G (operator_here ends m (e.last ∷ e.one)) (e.last ∷ e.one)) (G (operator_here ends m (e.last ∷ e.other)) (e.last ∷ e.other))
    here true b =
        let s : Stop e.last ends = and_parts ends (is_some (big_of e.last.symbol)) b in
        both_pass (G (operator_here ends m (e.last ∷ e.one)) (e.last ∷ e.one)) (G (operator_here ends m (e.last ∷ e.other)) (e.last ∷ e.other)) (chosen_stops e ends m G c s e.one) (chosen_stops e ends m G c s e.other)
    here false b =
        rewritten (Stop e.last ends) e (G (at_level m (operator_of e.last.symbol)) (e.last ∷ e.one)) (G (at_level m (operator_of e.last.symbol)) (e.last ∷ e.other))
        (G (operator_here ends m (e.last ∷ e.one)) (e.last ∷ e.one)) (G (operator_here ends m (e.last ∷ e.other)) (e.last ∷ e.other))
        (ap (λ x. G (cond x None (operator_at m (e.last ∷ e.one))) (e.last ∷ e.one)) (not_big ends e.last e.one b)) (ap (λ x. G (cond x None (operator_at m (e.last ∷ e.other))) (e.last ∷ e.other)) (not_big ends e.last e.other b))
        (at_last (at_level m (operator_of e.last.symbol)))

    by_front : (p : List Lexeme) → Agrees (Stop e.last ends) e (G (operator_here ends m (p ++ e.last ∷ e.one)) (p ++ e.last ∷ e.one)) (G (operator_here ends m (p ++ e.last ∷ e.other)) (p ++ e.last ∷ e.other))
    by_front [] = here (ends && is_some (big_of e.last.symbol)) refl
    by_front (l ∷ []) = within_front (operator_here ends m (l ∷ e.last ∷ e.one)) [] l
    by_front (l ∷ n ∷ p) = within_front (operator_here ends m (l ∷ n ∷ p ++ e.last ∷ e.one)) (n ∷ p) l

    dropped : (o : Op) (ls : List Lexeme) → Leaves (length ls) (c.more o (drop 1 ls))
    dropped o [] = let t : Steady (Stop e.last ends) e (c.more o) = c.steady o in t.leaves []
    dropped o (l ∷ ls) = let t : Steady (Stop e.last ends) e (c.more o) = c.steady o in loosen (length ls) (suc (length ls)) (c.more o ls) (omega arith) (t.leaves ls)

    less : (o : Option Op) (ls : List Lexeme) → Leaves (length ls) (G o ls)
    less None ls = subst (Leaves (length ls)) (sym (c.nothing ls)) (leaves_taken c.value ls (omega arith))
    less (Some o) ls = subst (Leaves (length ls)) (sym (c.passes o ls)) (dropped o ls)

-- what was taken is turned into something else
pub mapped : {A B : Type 0} (S : Type 0) (l : Lexeme) (after : List Lexeme) (x : Answer A) (f : A → B) → Passes S l after x → Passes S l after (go_on x (λ a rest. taken (f a) rest))
mapped S l after x f p = go_passes S S l after x (λ a rest. taken (f a) rest) p (λ a rest. leaves_taken (f a) rest (omega arith)) (λ s a. stopping (f a) s)

linked_steady : {B : Type 0} (e : Fork) (r : Readers) → Agreeing e r → (ends : Bool) (m : Level) (f : Links → B) → Steady (Stop e.last ends) e (λ ls. go_on (r.links ends m ls) (λ more after. taken (f more) after))
linked_steady e r h ends m f =
    steady_go_on (Stop e.last ends) (Stop e.last ends) e (r.links ends m) (λ more after. taken (f more) after) (h.links ends m) (λ more. steady_taken (Stop e.last ends) e (f more)) (λ s more after. stopping (f more) s)

linked_stops : {B : Type 0} (e : Fork) (r : Readers) → Agreeing e r → (ends : Bool) (m : Level) (f : Links → B) → Stop e.last ends → (after : List Lexeme)
    → Passes (Stop e.last ends) e.last after (go_on (r.links ends m (e.last ∷ after)) (λ more rest. taken (f more) rest))
linked_stops e r h ends m f s after = mapped (Stop e.last ends) e.last after (r.links ends m (e.last ∷ after)) f (h.goes_on ends m after s)

links_choose : (e : Fork) (r : Readers) → Agreeing e r → (ends : Bool) (m n : Level) → Chooses (Stop e.last ends) e (λ o ls. linked r ends m (Some n) o ls)
links_choose e r h ends m n = record {
  value = no_links;
  nothing = λ ls. refl;
  more = λ o ls. go_on (r.level ends n ls) (λ t rest. go_on (r.links ends m rest) (λ more after. taken (link o t more) after));
  passes = λ o ls. refl;
  steady = λ o. level_of_ends e r h ends n (λ t rest. go_on (r.links ends m rest) (λ more after. taken (link o t more) after)) (λ t. linked_steady e r h ends m (λ more. link o t more))
      (λ s t after. linked_stops e r h ends m (λ more. link o t more) s after);
}

no_tighter_links : (r : Readers) (ends : Bool) (m : Level) (o : Option Op) (ls : List Lexeme) → linked r ends m None o ls ≡ taken no_links ls
no_tighter_links r ends m None ls = refl
no_tighter_links r ends m (Some o) ls = refl

pub steady_as : {A : Type 0} (S : Type 0) (e : Fork) (F G : List Lexeme → Answer A) → ((ls : List Lexeme) → F ls ≡ G ls) → Steady S e G → Steady S e F
steady_as S e F G is g = record {
  same = λ p. rewritten S e (G (p ++ e.last ∷ e.one)) (G (p ++ e.last ∷ e.other)) (F (p ++ e.last ∷ e.one)) (F (p ++ e.last ∷ e.other)) (is (p ++ e.last ∷ e.one)) (is (p ++ e.last ∷ e.other)) (g.same p);
  leaves = λ ls. subst (Leaves (length ls)) (sym (is ls)) (g.leaves ls);
}

links_steady : (e : Fork) (r : Readers) → Agreeing e r → (ends : Bool) (m : Level) → Steady (Stop e.last ends) e (links_with r ends m)
links_steady e r h ends m = by (tighter_of m)
  where
    by : (n : Option Level) → Steady (Stop e.last ends) e (λ ls. linked r ends m n (operator_here ends m ls) ls)
    by None = steady_as (Stop e.last ends) e (λ ls. linked r ends m None (operator_here ends m ls) ls) (λ ls. taken no_links ls) (λ ls. no_tighter_links r ends m (operator_here ends m ls) ls) (steady_taken (Stop e.last ends) e no_links)
    by (Some n) = chosen_steady e ends m (λ o ls. linked r ends m (Some n) o ls) (links_choose e r h ends m n)

links_stop : (e : Fork) (r : Readers) → Agreeing e r → (ends : Bool) (m : Level) (after : List Lexeme) → Stop e.last ends → Passes (Stop e.last ends) e.last after (links_with r ends m (e.last ∷ after))
links_stop e r h ends m after s = by (tighter_of m)
  where
    by : (n : Option Level) → Passes (Stop e.last ends) e.last after (linked r ends m n (operator_here ends m (e.last ∷ after)) (e.last ∷ after))
    by None = subst (Passes (Stop e.last ends) e.last after) (sym (no_tighter_links r ends m (operator_here ends m (e.last ∷ after)) (e.last ∷ after))) (stopping no_links s)
    by (Some n) = chosen_stops e ends m (λ o ls. linked r ends m (Some n) o ls) (links_choose e r h ends m n) s after

joined_chooses : (e : Fork) (r : Readers) → Agreeing e r → (ends : Bool) (k : Level) (t : Tree) → Chooses (Stop e.last ends) e (λ o ls. joined_by o t ls (r.level ends k))
joined_chooses e r h ends k t = record {
  value = t;
  nothing = λ ls. refl;
  more = λ o ls. go_on (r.level ends k ls) (λ u after. taken (pair (from_to (tree_span t).start (tree_span u).end) o t u) after);
  passes = λ o ls. refl;
  steady = λ o. operand e r h ends k (λ u. pair (from_to (tree_span t).start (tree_span u).end) o t u);
}

-- an operand, and at most one operator with another one
pair_steady : (e : Fork) (r : Readers) → Agreeing e r → (ends : Bool) (m n k : Level)
    → Steady (Stop e.last ends) e (λ ls. go_on (r.level ends n ls) (λ t rest. joined_by (operator_here ends m rest) t rest (r.level ends k)))
pair_steady e r h ends m n k =
    level_of_ends e r h ends n (λ t rest. joined_by (operator_here ends m rest) t rest (r.level ends k)) (λ t. chosen_steady e ends m (λ o ls. joined_by o t ls (r.level ends k)) (joined_chooses e r h ends k t))
    (λ s t after. chosen_stops e ends m (λ o ls. joined_by o t ls (r.level ends k)) (joined_chooses e r h ends k t) s after)

level_steady : (e : Fork) (r : Readers) → Agreeing e r → (ends : Bool) (m : Level) → Steady (Stop e.last ends) e (level_with r ends m)
level_steady e r h ends m = by (tighter_of m) (joins_of m)
  where
    by : (n : Option Level) (j : Joins) → Steady (Stop e.last ends) e (level_by r ends m n j)
    by None j = primary_steady (Stop e.last ends) e r h
    by (Some n) joins.Left =
        level_of_ends e r h ends n (λ t rest. go_on (r.links ends m rest) (λ more after. taken (chain_of t more) after)) (λ t. linked_steady e r h ends m (λ more. chain_of t more))
        (λ s t after. linked_stops e r h ends m (λ more. chain_of t more) s after)
    by (Some n) joins.Once = pair_steady e r h ends m n n
    by (Some n) joins.Right = pair_steady e r h ends m n m
    by (Some n) joins.None = prefix_steady e r h ends n

-- lists and ranges

list_steady : (e : Fork) (r : Readers) → Agreeing e r → Steady ⊥ e (list_with r)
list_steady e r h = within ⊥ e r h Releases _ (λ t. steady_if_next ⊥ e symbol.Comma _ _ (λ _. listed ⊥ e r h _ (λ more. steady_taken ⊥ e _)) (steady_taken ⊥ e _))

more_steady : (e : Fork) (r : Readers) → Agreeing e r → (f : Ranges → Ranges) → Steady ⊥ e (λ ls. more_ranges r ls f)
more_steady e r h f = steady_if_next ⊥ e symbol.Comma _ _ (λ _. ranged ⊥ e r h _ (λ more. steady_taken ⊥ e _)) (steady_taken ⊥ e _)

bound_steady : {B : Type 0} (e : Fork) (f : Bool → List Lexeme → Answer B) → ((strict : Bool) → Steady ⊥ e (f strict)) → Steady ⊥ e (λ ls. bound ls f)
bound_steady e f g = steady_front ⊥ e (λ ls. bound ls f) (λ l ls. bounded (bound_of l.symbol) f ls) (leaves_refused 0 (omega arith)) (λ l ls. refl) (λ l. by l (bound_of l.symbol))
  where
    by : (l : Lexeme) (o : Option Bool) → Step ⊥ e l (λ ls. bounded o f ls)
    by l None = step_refused (λ ls. refl)
    by l (Some strict) = steps_on (g strict)

between_steady : (e : Fork) (r : Readers) → Agreeing e r → Steady ⊥ e (between_with r)
between_steady e r h =
    within ⊥ e r h Sums _ (λ low. bound_steady e _ (λ low_strict. steady_expect ⊥ e symbol.Ident _ (λ word. bound_steady e _ (λ high_strict. within ⊥ e r h Sums _ (λ high.
    more_steady e r h (λ more. between low low_strict (word_of word) high_strict high more))))))

-- a range over the members of a set, after its name and `IN`
abbrev members_after : Readers → Lexeme → List Lexeme → Answer Ranges
members_after r l ls = go_on (r.level false Releases ls) (λ t rest. more_ranges r rest (λ more. members (word_of l) t more))

members_steady : (e : Fork) (r : Readers) → Agreeing e r → (l : Lexeme) → Steady ⊥ e (members_after r l)
members_steady e r h l = within ⊥ e r h Releases _ (λ t. more_steady e r h (λ more. members (word_of l) t more))

-- a name is the front of both kinds of range
ranges_pass : (e : Fork) (r : Readers) → Agreeing e r → Is symbol.Ident e.last → (after : List Lexeme) → Passes ⊥ e.last after (ranges_with r (e.last ∷ after))
ranges_pass e r h i after = by after
  where
    low_bound : (after : List Lexeme) → Passes ⊥ e.last after (between_with r (e.last ∷ after))
    low_bound after =
        go_passes ⊥ ⊥ e.last after (r.level false Sums (e.last ∷ after)) _ (h.named_front i Sums after)
        (λ low rest. let s : Steady ⊥ e (λ ls. bound ls (λ low_strict named_at. expect symbol.Ident named_at (λ word sign_at. bound sign_at (λ high_strict high_at. go_on (r.level false Sums high_at) (λ high rest'. more_ranges r rest' (λ more. between low low_strict (word_of word) high_strict high more)))))) =
        bound_steady e _ (λ low_strict. steady_expect ⊥ e symbol.Ident _ (λ word. bound_steady e _ (λ high_strict. within ⊥ e r h Sums _ (λ high. more_steady e r h (λ more. between low low_strict (word_of word) high_strict high more))))) in
        s.leaves rest) (λ n. absurd n)

    either : (b : Bool) (n : Lexeme) (ls : List Lexeme) → Passes ⊥ e.last (n ∷ ls) (cond b (members_after r e.last ls) (between_with r (e.last ∷ n ∷ ls)))
    either true n ls = let s : Steady ⊥ e (members_after r e.last) = members_steady e r h e.last in passing (members_after r e.last ls) (loosen (length ls) (suc (length ls)) (members_after r e.last ls) (omega arith) (s.leaves ls))
    either false n ls = low_bound (n ∷ ls)

    by : (after : List Lexeme) → Passes ⊥ e.last after (ranges_with r (e.last ∷ after))
    by [] = low_bound []
    by (n ∷ ls) = either (symbol_eq e.last.symbol symbol.Ident && symbol_eq n.symbol symbol.In) n ls

no_name_no_members : (r : Readers) (l : Lexeme) (ls : List Lexeme) → symbol_eq l.symbol symbol.Ident ≡ false → ranges_with r (l ∷ ls) ≡ between_with r (l ∷ ls)
no_name_no_members r l [] e = refl
no_name_no_members r l (n ∷ ls) e = ap (λ b. cond (b && symbol_eq n.symbol symbol.In) (members_after r l ls) (between_with r (l ∷ n ∷ ls))) e

ranges_steady : (e : Fork) (r : Readers) → Agreeing e r → Steady ⊥ e (ranges_with r)
ranges_steady e r h = record { same = by_front; leaves = shrinks }
  where
    low : Steady ⊥ e (between_with r)
    low = between_steady e r h

    at_last : (b : Bool) → symbol_eq e.last.symbol symbol.Ident ≡ b → Agrees ⊥ e (ranges_with r (e.last ∷ e.one)) (ranges_with r (e.last ∷ e.other))
    at_last true i = both_pass (ranges_with r (e.last ∷ e.one)) (ranges_with r (e.last ∷ e.other)) (ranges_pass e r h (same_symbol e.last.symbol symbol.Ident i) e.one) (ranges_pass e r h (same_symbol e.last.symbol symbol.Ident i) e.other)
    at_last false i =
        rewritten ⊥ e (between_with r (e.last ∷ e.one)) (between_with r (e.last ∷ e.other)) (ranges_with r (e.last ∷ e.one)) (ranges_with r (e.last ∷ e.other))
        (no_name_no_members r e.last e.one i) (no_name_no_members r e.last e.other i) (low.same [])

    second_last : (b : Bool) (l : Lexeme) → Agrees ⊥ e (cond b (members_after r l e.one) (between_with r (l ∷ e.last ∷ e.one))) (cond b (members_after r l e.other) (between_with r (l ∷ e.last ∷ e.other)))
    second_last true l = let s : Steady ⊥ e (members_after r l) = members_steady e r h l in
        both_pass (members_after r l e.one) (members_after r l e.other) (passing (members_after r l e.one) (s.leaves e.one)) (passing (members_after r l e.other) (s.leaves e.other))
    second_last false l = low.same (l ∷ [])

    earlier : (b : Bool) (l n : Lexeme) (p : List Lexeme)
        → Agrees ⊥ e (cond b (members_after r l (p ++ e.last ∷ e.one)) (between_with r (l ∷ n ∷ p ++ e.last ∷ e.one))) (cond b (members_after r l (p ++ e.last ∷ e.other)) (between_with r (l ∷ n ∷ p ++ e.last ∷ e.other)))
    earlier true l n p = let s : Steady ⊥ e (members_after r l) = members_steady e r h l in s.same p
    earlier false l n p = low.same (l ∷ n ∷ p)

    by_front : (p : List Lexeme) → Agrees ⊥ e (ranges_with r (p ++ e.last ∷ e.one)) (ranges_with r (p ++ e.last ∷ e.other))
    by_front [] = at_last (symbol_eq e.last.symbol symbol.Ident) refl
    by_front (l ∷ []) = second_last (symbol_eq l.symbol symbol.Ident && symbol_eq e.last.symbol symbol.In) l
    by_front (l ∷ n ∷ p) = earlier (symbol_eq l.symbol symbol.Ident && symbol_eq n.symbol symbol.In) l n p

    less : (b : Bool) (l n : Lexeme) (ls : List Lexeme) → Leaves (suc (suc (length ls))) (cond b (members_after r l ls) (between_with r (l ∷ n ∷ ls)))
    less true l n ls = let s : Steady ⊥ e (members_after r l) = members_steady e r h l in loosen (length ls) (suc (suc (length ls))) (members_after r l ls) (omega arith) (s.leaves ls)
    less false l n ls = low.leaves (l ∷ n ∷ ls)

    shrinks : (ls : List Lexeme) → Leaves (length ls) (ranges_with r ls)
    shrinks [] = low.leaves []
    shrinks (l ∷ []) = low.leaves (l ∷ [])
    shrinks (l ∷ n ∷ ls) = less (symbol_eq l.symbol symbol.Ident && symbol_eq n.symbol symbol.In) l n ls

-- fronts of expressions

-- what goes on after an operand leaves no more than it is given
pub left_after : {A B : Type 0} (l : Lexeme) (after : List Lexeme) (x : Answer A) (k : A → List Lexeme → Answer B) → Passes ⊥ l after x → ((a : A) (rest : List Lexeme) → Leaves (length rest) (k a rest)) → Passes ⊥ l after (go_on x k)
left_after l after x k p f = go_passes ⊥ ⊥ l after x k p f (λ n. absurd n)

-- a level begins as the tighter one does, but for signs
front_climbs : (e : Fork) (r : Readers) → Agreeing e r → (m n : Level) (j : Joins) (after : List Lexeme) → Passes ⊥ e.last after (r.level false n (e.last ∷ after)) → Passes ⊥ e.last after (prefix_with r false n (e.last ∷ after))
    → Passes ⊥ e.last after (level_by r false m (Some n) j (e.last ∷ after))
front_climbs e r h m n joins.Left after p q =
    left_after e.last after (r.level false n (e.last ∷ after)) (λ t rest. go_on (r.links false m rest) (λ more rest'. taken (chain_of t more) rest')) p
    (λ t rest. let s : Steady (Stop e.last false) e (λ ls. go_on (r.links false m ls) (λ more rest'. taken (chain_of t more) rest')) = linked_steady e r h false m (λ more. chain_of t more) in s.leaves rest)
front_climbs e r h m n joins.Once after p q =
    left_after e.last after (r.level false n (e.last ∷ after)) (λ t rest. joined_by (operator_here false m rest) t rest (r.level false n)) p
    (λ t rest. let s : Steady (Stop e.last false) e (λ ls. joined_by (operator_here false m ls) t ls (r.level false n)) = chosen_steady e false m (λ o ls. joined_by o t ls (r.level false n)) (joined_chooses e r h false n t) in s.leaves rest)
front_climbs e r h m n joins.Right after p q =
    left_after e.last after (r.level false n (e.last ∷ after)) (λ t rest. joined_by (operator_here false m rest) t rest (r.level false m)) p
    (λ t rest. let s : Steady (Stop e.last false) e (λ ls. joined_by (operator_here false m ls) t ls (r.level false m)) = chosen_steady e false m (λ o ls. joined_by o t ls (r.level false m)) (joined_chooses e r h false m t) in s.leaves rest)
front_climbs e r h m n joins.None after p q = q

named_level : (e : Fork) (r : Readers) → Agreeing e r → Is symbol.Ident e.last → (m : Level) (after : List Lexeme) → Passes ⊥ e.last after (level_with r false m (e.last ∷ after))
named_level e r h i m after = by (tighter_of m) (joins_of m)
  where
    word : Steady ⊥ e (word_with r e.last)
    word = word_steady ⊥ e r h e.last

    by : (n : Option Level) (j : Joins) → Passes ⊥ e.last after (level_by r false m n j (e.last ∷ after))
    by None j = subst (λ s. Passes ⊥ e.last after (primary_by r s e.last after)) (sym i) (passing (word_with r e.last after) (word.leaves after))
    by (Some n) j = front_climbs e r h m n j after (h.named_front i n after) (subst (λ s. Passes ⊥ e.last after (prefix_by r false n s e.last after)) (sym i) (h.named_front i n after))

big_prefix : (e : Fork) (r : Readers) → Agreeing e r → (n : Level) (s : Symbol) → is_some (big_of s) ≡ true → (after : List Lexeme) → Passes ⊥ e.last after (prefix_by r false n s e.last after)
big_prefix e r h n symbol.And b after = let s : Steady (Stop e.last false) e (big_with r false op.And e.last) = big_steady e r h false op.And e.last in passing (big_with r false op.And e.last after) (s.leaves after)
big_prefix e r h n symbol.Or b after = let s : Steady (Stop e.last false) e (big_with r false op.Or e.last) = big_steady e r h false op.Or e.last in passing (big_with r false op.Or e.last after) (s.leaves after)
big_prefix e r h n _ b after = absurd cc

big_level : (e : Fork) (r : Readers) → Agreeing e r → is_some (big_of e.last.symbol) ≡ true → (m : Level) → 9 ≤ level_number m → (after : List Lexeme) → Passes ⊥ e.last after (level_with r false m (e.last ∷ after))
big_level e r h b m low after = by m low
  where
    signs : (n : Level) → Passes ⊥ e.last after (prefix_with r false n (e.last ∷ after))
    signs n = big_prefix e r h n e.last.symbol b after

    by : (m : Level) → 9 ≤ level_number m → Passes ⊥ e.last after (level_with r false m (e.last ∷ after))
    by Prefixes low = signs Memberships
    by Conjunctions low = front_climbs e r h Conjunctions Prefixes joins.Left after (h.big_front b Prefixes (omega arith) after) (signs Prefixes)
    by Disjunctions low = front_climbs e r h Disjunctions Conjunctions joins.Left after (h.big_front b Conjunctions (omega arith) after) (signs Conjunctions)
    by Implications low = front_climbs e r h Implications Disjunctions (joins_of Implications) after (h.big_front b Disjunctions (omega arith) after) (signs Disjunctions)
    by WeakUntils low = front_climbs e r h WeakUntils Implications (joins_of WeakUntils) after (h.big_front b Implications (omega arith) after) (signs Implications)
    by Untils low = front_climbs e r h Untils WeakUntils (joins_of Untils) after (h.big_front b WeakUntils (omega arith) after) (signs WeakUntils)
    by Releases low = front_climbs e r h Releases Untils (joins_of Releases) after (h.big_front b Untils (omega arith) after) (signs Untils)
    by _ low = absurd (omega arith)

pub readers_agree : (e : Fork) (depth : ℕ) → Agreeing e (readers depth)
unfolding readers
readers_agree e zero = record {
  level = λ ends m. steady_lost (Stop e.last ends) e;
  list = steady_lost ⊥ e;
  links = λ ends m. steady_lost (Stop e.last ends) e;
  goes_on = λ ends m after s. passing lost leaves_lost;
  ranges = steady_lost ⊥ e;
  named_front = λ i m after. passing lost leaves_lost;
  big_front = λ b m low after. passing lost leaves_lost;
}
readers_agree e (suc depth) = let h : Agreeing e (readers depth) = readers_agree e depth in record {
  level = λ ends m. level_steady e (readers depth) h ends m;
  list = list_steady e (readers depth) h;
  links = λ ends m. links_steady e (readers depth) h ends m;
  goes_on = λ ends m after s. links_stop e (readers depth) h ends m after s;
  ranges = ranges_steady e (readers depth) h;
  named_front = λ i m after. named_level e (readers depth) h i m after;
  big_front = λ b m low after. big_level e (readers depth) h b m low after;
}
