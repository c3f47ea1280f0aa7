-- How answers of readers that go deep enough are put together.
use Rattle.std.proofs.Common.{◌≡◌, ℕ, zero, suc, ◌+◌, ◌<◌, ◌≤◌, Bool, true, false, cond, List, [], ◌∷◌, ◌++◌, length, drop, Option, Some, None, Result, Ok, Err, refl, sym, ap, ◌∙◌, subst, arith, ◌-◌, ◌⊎◌, inl, inr}
use Rattle.tlsf_syntax.specs.declared.expr.Expr.{Expr}
use Rattle.tlsf_syntax.specs.declared.expr.Link.{Link}
use Rattle.tlsf_syntax.specs.declared.expr.Op.{Op}
use Rattle.tlsf_syntax.specs.declared.expr.Range.{Range}
use Rattle.tlsf_tokens.specs.declared.symbol.Symbol.{Symbol}
use Rattle.tlsf_tokens.specs.declared.symbol.Symbol.TheVariants as symbol
use Rattle.tlsf_syntax.specs.Tree.{Tree, Trees, Links, Ranges, tree_span, pair, tree, no_trees, link, no_links, no_ranges, members, between}
use Rattle.tlsf_syntax.specs.Lexemes.{Lexeme, word_of}
use Rattle.tlsf_syntax.specs.declared.level.Level.{Level}
use Rattle.tlsf_syntax.specs.declared.level.Level.TheVariants.{Primary, Products, Quotients, Sums, Differences, Meets, Unions, Comparisons, Memberships, Prefixes, Conjunctions, Disjunctions, Implications, WeakUntils, Untils, Releases}
use Rattle.tlsf_syntax.specs.declared.level.Joins.{Joins}
use Rattle.tlsf_syntax.specs.declared.level.Joins.TheVariants as joins
use Rattle.tlsf_syntax.specs.Expressions.{tighter_of, joins_of}
use Rattle.tlsf_syntax.specs.Reading.{Answer, taken, refused, go_on, begins, expect, if_next, level_number, operator_here, joined_by, chain_of, links_end, Readers, readers, level_with, level_by, list_with, links_with, linked, ranges_with, more_ranges, bounded, bound, between_with, from_to, primary_with, primary_by}
use Rattle.tlsf_reader.specs.declared.rest.Refusal.{Refusal}
use Rattle.tlsf_reader.specs.declared.rest.Refusal.TheVariants.{NoMemory, At}
use Rattle.tlsf_syntax.specs.Seen.{expr_seen, trees_seen, link_list_seen, range_list_seen, range_seen}
use Rattle.tlsf_syntax.proofs.Texts.{not_next}
use Rattle.tlsf_syntax.proofs.Starts.{same_level}
use Rattle.tlsf_reader.specs.Descent.{Eventually, IsRead, IsBuilt, Passes, Lacks, Unexpected, Bounds, Unbounded, bound_here, extended_by, onto, Builds, put_tree, put_link, IsRangeRead, NamesMembers, NamesNone, begins_members}

-- answers of the readers themselves

pub level_step : (ends : Bool) (m : Level) (ls : List Lexeme) (a : Answer Tree) → Eventually (λ d. level_with (readers d) ends m ls) a → Eventually (λ d. (readers d).level ends m ls) a
unfolding readers
level_step ends m ls a e = record { from = suc e.from; reads = by }
  where
    by : (depth : ℕ) → suc e.from ≤ depth → (readers depth).level ends m ls ≡ a
    by zero low = absurd (omega arith)
    by (suc depth) low = e.reads depth (omega arith)

pub list_step : (ls : List Lexeme) (a : Answer Trees) → Eventually (λ d. list_with (readers d) ls) a → Eventually (λ d. (readers d).list ls) a
unfolding readers
list_step ls a e = record { from = suc e.from; reads = by }
  where
    by : (depth : ℕ) → suc e.from ≤ depth → (readers depth).list ls ≡ a
    by zero low = absurd (omega arith)
    by (suc depth) low = e.reads depth (omega arith)

pub links_step : (ends : Bool) (m : Level) (ls : List Lexeme) (a : Answer Links) → Eventually (λ d. links_with (readers d) ends m ls) a → Eventually (λ d. (readers d).links ends m ls) a
unfolding readers
links_step ends m ls a e = record { from = suc e.from; reads = by }
  where
    by : (depth : ℕ) → suc e.from ≤ depth → (readers depth).links ends m ls ≡ a
    by zero low = absurd (omega arith)
    by (suc depth) low = e.reads depth (omega arith)

pub ranges_step : (ls : List Lexeme) (a : Answer Ranges) → Eventually (λ d. ranges_with (readers d) ls) a → Eventually (λ d. (readers d).ranges ls) a
unfolding readers
ranges_step ls a e = record { from = suc e.from; reads = by }
  where
    by : (depth : ℕ) → suc e.from ≤ depth → (readers depth).ranges ls ≡ a
    by zero low = absurd (omega arith)
    by (suc depth) low = e.reads depth (omega arith)

-- combinators

pub at_once : {A : Type 0} (f : ℕ → Answer A) (a : Answer A) → ((d : ℕ) → f d ≡ a) → Eventually f a
at_once f a e = record { from = 0; reads = λ d low. e d }

pub same_answers : {A : Type 0} {f : ℕ → Answer A} {a : Answer A} (g : ℕ → Answer A) → ((d : ℕ) → g d ≡ f d) → Eventually f a → Eventually g a
same_answers g e h = record { from = h.from; reads = λ d low. e d ∙ h.reads d low }

pub goes : {A B : Type 0} {f : ℕ → Answer A} {a : A} {rest : List Lexeme} {b : Answer B} (k : ℕ → A → List Lexeme → Answer B) → Eventually f (taken a rest) → Eventually (λ d. k d a rest) b → Eventually (λ d. go_on (f d) (k d)) b
goes k e n = record { from = e.from + n.from; reads = λ d low. ap (λ x. go_on x (k d)) (e.reads d (omega arith)) ∙ n.reads d (omega arith) }

pub stops : {A B : Type 0} {f : ℕ → Answer A} {n : ℕ} (k : ℕ → A → List Lexeme → Answer B) → Eventually f (refused n) → Eventually (λ d. go_on (f d) (k d)) (refused n)
stops k e = record { from = e.from; reads = λ d low. ap (λ x. go_on x (k d)) (e.reads d low) }

-- one step of what is read

pub read_go : {X Y A B : Type 0} {view : Y → A} {seen_as : X → B} {f : ℕ → Answer A} {rest after : List Lexeme} {x : Y} {r : Result X Refusal} (k : ℕ → A → List Lexeme → Answer B)
    → IsRead view f rest (Ok x) → IsRead seen_as (λ d. k d (view x) rest) after r → IsRead seen_as (λ d. go_on (f d) (k d)) after r
read_go {x = x} k e n = record { ok = λ y is. goes k (e.ok x refl) (n.ok y is); err = λ j is. goes k (e.ok x refl) (n.err j is) }

pub read_stop : {X Y A B : Type 0} {view : Y → A} {seen_as : X → B} {f : ℕ → Answer A} {rest after : List Lexeme} {e : Refusal} (k : ℕ → A → List Lexeme → Answer B)
    → IsRead view f rest (Err e) → IsRead seen_as (λ d. go_on (f d) (k d)) after (Err e)
read_stop k h = record { ok = λ y is. absurd (cc); err = λ j is. stops k (h.err j (cc)) }

pub read_expected : {X B : Type 0} {seen_as : X → B} {s : Symbol} {before rest after : List Lexeme} {l : Lexeme} {r : Result X Refusal} (k : ℕ → Lexeme → List Lexeme → Answer B)
    → Passes s before l rest → IsRead seen_as (λ d. k d l rest) after r → IsRead seen_as (λ d. expect s before (k d)) after r
read_expected {s = s} {before = before} {rest = rest} {l = l} {r = r} k p n = record { ok = λ y is. same_answers _ same (n.ok y is); err = λ j is. same_answers _ same (n.err j is) }
  where
    same : (d : ℕ) → expect s before (k d) ≡ k d l rest
    same d = ap (λ ls. expect s ls (k d)) p.front ∙ ap (λ b. cond b (k d l rest) (refused (suc (length rest)))) p.symbol

pub expect_refused : {A : Type 0} (s : Symbol) (ls : List Lexeme) (f : Lexeme → List Lexeme → Answer A) → begins s ls ≡ false → expect s ls f ≡ refused (length ls)
expect_refused s [] f e = refl
expect_refused s (l ∷ ls) f e = ap (λ b. cond b (f l ls) (refused (suc (length ls)))) e ∙ ap refused (omega arith)

pub read_unexpected : {X B : Type 0} {seen_as : X → B} {s : Symbol} {before after : List Lexeme} {e : Refusal} (k : ℕ → Lexeme → List Lexeme → Answer B)
    → Unexpected s before e → IsRead seen_as (λ d. expect s before (k d)) after (Err e)
read_unexpected {s = s} {before = before} {e = e} k u = record {
  ok = λ y is. absurd (cc);
  err = λ j is. let here : length before ≡ j = cc (u.is) in at_once _ _ (λ d. expect_refused s before (k d) u.other ∙ ap refused here);
}

pub read_next : {X B : Type 0} {seen_as : X → B} {s : Symbol} {before rest after : List Lexeme} {l : Lexeme} {r : Result X Refusal} (k : ℕ → Lexeme → List Lexeme → Answer B) (other : ℕ → Answer B)
    → Passes s before l rest → IsRead seen_as (λ d. k d l rest) after r → IsRead seen_as (λ d. if_next s before (k d) (other d)) after r
read_next {s = s} {before = before} {rest = rest} {l = l} {r = r} k other p n = record { ok = λ y is. same_answers _ same (n.ok y is); err = λ j is. same_answers _ same (n.err j is) }
  where
    same : (d : ℕ) → if_next s before (k d) (other d) ≡ k d l rest
    same d = ap (λ ls. if_next s ls (k d) (other d)) p.front ∙ ap (λ b. cond b (k d l rest) (other d)) p.symbol

-- The lexemes were not passed, so what stands behind is the same list.
pub read_other : {X B : Type 0} {seen_as : X → B} {s : Symbol} {before rest after : List Lexeme} {r : Result X Refusal} (k : ℕ → Lexeme → List Lexeme → Answer B) (other : ℕ → List Lexeme → Answer B)
    → Lacks s before rest → IsRead seen_as (λ d. other d rest) after r → IsRead seen_as (λ d. if_next s before (k d) (other d before)) after r
read_other {s = s} {before = before} {rest = rest} {r = r} k other p n = record { ok = λ y is. same_answers _ same (n.ok y is); err = λ j is. same_answers _ same (n.err j is) }
  where
    same : (d : ℕ) → if_next s before (k d) (other d before) ≡ other d rest
    same d = not_next s before (k d) (other d before) p.other ∙ ap (other d) (sym p.same)

pub read_same : {X B : Type 0} {seen_as : X → B} {f : ℕ → Answer B} {after : List Lexeme} {r : Result X Refusal} (g : ℕ → Answer B) → ((d : ℕ) → g d ≡ f d) → IsRead seen_as f after r → IsRead seen_as g after r
read_same g e n = record { ok = λ y is. same_answers g e (n.ok y is); err = λ j is. same_answers g e (n.err j is) }

-- the ends

pub read_built : {X A : Type 0} {view : X → A} {t : A} {after : List Lexeme} {r : Result X Refusal} → IsBuilt view t r → IsRead view (λ d. taken t after) after r
read_built {X = X} {view = view} {t = t} {after = after} {r = r} b = record {
  ok = λ x is. at_once _ _ (λ d. ap (λ y. taken y after) (sym (built_ok r b x is)));
  err = λ j is. absurd (built_err r b j is);
}
  where
    built_ok : (s : Result X Refusal) → IsBuilt view t s → (x : X) → s ≡ Ok x → view x ≡ t
    built_ok (Ok y) c x is = let same : y ≡ x = cc in ap view (sym same) ∙ c
    built_ok (Err e) c x is = absurd (cc)

    built_err : (s : Result X Refusal) → IsBuilt view t s → (j : ℕ) → s ≡ Err (At j) → ⊥
    built_err (Ok y) c j is = cc
    built_err (Err e) c j is = cc (c)

pub read_here : {X A : Type 0} {view : X → A} {t : A} {after : List Lexeme} {x : X} → view x ≡ t → IsRead view (λ d. taken t after) after (Ok x)
read_here {view = view} {after = after} {x = x} e = record {
  ok = λ y is. let same : x ≡ y = cc in at_once _ _ (λ d. ap (λ z. taken z after) (sym e ∙ ap view same));
  err = λ j is. absurd (cc);
}

pub read_nothing : {X A : Type 0} {view : X → A} {f : ℕ → Answer A} {after : List Lexeme} {e : Refusal} → e ≡ NoMemory → IsRead view f after (Err e)
read_nothing is_no = record { ok = λ y is. absurd (cc); err = λ j is. absurd (cc) }

-- levels

pub read_level : {X : Type 0} {view : X → Tree} {after : List Lexeme} {r : Result X Refusal} (ends : Bool) (m : Level) (ls : List Lexeme) → IsRead view (λ d. level_with (readers d) ends m ls) after r
    → IsRead view (λ d. (readers d).level ends m ls) after r
read_level ends m ls n = record { ok = λ y is. level_step ends m ls _ (n.ok y is); err = λ j is. level_step ends m ls _ (n.err j is) }

abbrev pub joins_some : Joins → Bool
joins_some joins.None = false
joins_some _ = true

extended_level : (r : Readers) (ends : Bool) (m n : Level) (ls : List Lexeme) → (o : Option Level) → o ≡ Some n → (j : Joins) → joins_some j ≡ true
    → level_by r ends m o j ls ≡ go_on (r.level ends n ls) (λ t rest. extended_by r ends m n j t rest)
extended_level r ends m n ls o e joins.Left h = ap (λ p. level_by r ends m p joins.Left ls) e
extended_level r ends m n ls o e joins.Once h = ap (λ p. level_by r ends m p joins.Once ls) e
extended_level r ends m n ls o e joins.Right h = ap (λ p. level_by r ends m p joins.Right ls) e
extended_level r ends m n ls o e joins.None h = absurd (cc)

-- an operand of one level, and what it goes on with, make the level that is built of it
pub climb_up : (ends : Bool) (m n : Level) (ls rest : List Lexeme) (t : Tree) (a : Answer Tree) → tighter_of m ≡ Some n → joins_some (joins_of m) ≡ true → Eventually (λ d. (readers d).level ends n ls) (taken t rest)
    → Eventually (λ d. extended_by (readers d) ends m n (joins_of m) t rest) a → Eventually (λ d. (readers d).level ends m ls) a
climb_up ends m n ls rest t a e h operand on =
    level_step ends m ls a (same_answers _ (λ d. extended_level (readers d) ends m n ls (tighter_of m) e (joins_of m) h) (goes (λ d u after. extended_by (readers d) ends m n (joins_of m) u after) operand on))

-- between primaries and memberships, and from conjunctions on, each level has operators
pub joins_somehow : (m : Level) → 0 < level_number m → (level_number m ≡ 9 → ⊥) → joins_some (joins_of m) ≡ true
joins_somehow Primary low not = absurd (omega arith)
joins_somehow Prefixes low not = absurd (not refl)
joins_somehow Products low not = refl
joins_somehow Quotients low not = refl
joins_somehow Sums low not = refl
joins_somehow Differences low not = refl
joins_somehow Meets low not = refl
joins_somehow Unions low not = refl
joins_somehow Comparisons low not = refl
joins_somehow Memberships low not = refl
joins_somehow Conjunctions low not = refl
joins_somehow Disjunctions low not = refl
joins_somehow Implications low not = refl
joins_somehow WeakUntils low not = refl
joins_somehow Untils low not = refl
joins_somehow Releases low not = refl

-- loops

onto-append : {E X : Type 0} (put : E → X → X) (es fs : List E) (x : X) → onto put (es ++ fs) x ≡ onto put es (onto put fs x)
onto-append put [] fs x = refl
onto-append put (e ∷ es) fs x = ap (put e) (onto-append put es fs x)

pub builds_none : {E X : Type 0} (put : E → X → X) (f : ℕ → Answer X) (done : List E) → done ≡ [] → Builds put f done f
builds_none put f done e = record { ok = λ x rest h. subst (λ es. Eventually f (taken (onto put es x) rest)) (sym e) h; err = λ k h. h }

pub builds_more : {E X : Type 0} {put : E → X → X} {f g h : ℕ → Answer X} {done : List E} {e : E} (all : List E) → all ≡ done ++ e ∷ [] → Builds put f done g → Builds put g (e ∷ []) h → Builds put f all h
builds_more {put = put} {f = f} {done = done} {e = e} all is b c = record {
  ok = λ x rest o. subst (λ y. Eventually f (taken y rest)) (sym (ap (λ es. onto put es x) is ∙ onto-append put done (e ∷ []) x)) (b.ok (put e x) rest (c.ok x rest o));
  err = λ k o. b.err k (c.err k o);
}

pub built_last : {E X : Type 0} {put : E → X → X} {f g : ℕ → Answer X} {done : List E} {e : E} {x : X} {rest : List Lexeme} (all : List E) → all ≡ done ++ e ∷ [] → Builds put f done g → Eventually g (taken (put e x) rest)
    → Eventually f (taken (onto put all x) rest)
built_last {put = put} {f = f} {done = done} {e = e} {x = x} {rest = rest} all is b c =
    subst (λ y. Eventually f (taken y rest)) (sym (ap (λ es. onto put es x) is ∙ onto-append put done (e ∷ []) x)) (b.ok (put e x) rest c)

pub trees_onto : (es : List Expr) → onto put_tree es no_trees ≡ trees_seen es
trees_onto [] = refl
trees_onto (e ∷ es) = ap (tree (expr_seen e)) (trees_onto es)

pub links_onto : (ls : List Link) → onto put_link ls no_links ≡ link_list_seen ls
links_onto [] = refl
links_onto (l ∷ ls) = ap (link l.op (expr_seen l.right)) (links_onto ls)

pub ranges_onto : (rs : List Range) → onto range_seen rs no_ranges ≡ range_list_seen rs
ranges_onto [] = refl
ranges_onto (r ∷ rs) = ap (range_seen r) (ranges_onto rs)

pub ends_last : (end : ℕ) (ls : List Link) (l : Link) (all : List Link) → all ≡ ls ++ l ∷ [] → (tree_span (expr_seen l.right)).end ≡ links_end end (link_list_seen all)
ends_last end ls l all is = sym (ap (λ xs. links_end end (link_list_seen xs)) is ∙ by end ls)
  where
    by : (n : ℕ) (xs : List Link) → links_end n (link_list_seen (xs ++ l ∷ [])) ≡ (tree_span (expr_seen l.right)).end
    by n [] = refl
    by n (x ∷ xs) = by (tree_span (expr_seen x.right)).end xs

-- the exit of a `?`
pub read_error : {X A : Type 0} {view : X → A} {f : ℕ → Answer A} {after : List Lexeme} {e : Refusal} (r : Result X Refusal) → r ≡ Err e → IsRead view f after (Err e) → IsRead view f after r
read_error r is h = record { ok = λ x o. h.ok x (sym is ∙ o); err = λ k o. h.err k (sym is ∙ o) }

-- numbers of levels

record Tighter (m : Level) : Type 0 where
  level : Level
  is : tighter_of m ≡ Some level
  number : level_number m ≡ level_number level + 1

tighter : (m : Level) → 0 < level_number m → Tighter m
tighter Primary low = absurd (omega arith)
tighter Products low = record { level = Primary; is = refl; number = refl }
tighter Quotients low = record { level = Products; is = refl; number = refl }
tighter Sums low = record { level = Quotients; is = refl; number = refl }
tighter Differences low = record { level = Sums; is = refl; number = refl }
tighter Meets low = record { level = Differences; is = refl; number = refl }
tighter Unions low = record { level = Meets; is = refl; number = refl }
tighter Comparisons low = record { level = Unions; is = refl; number = refl }
tighter Memberships low = record { level = Comparisons; is = refl; number = refl }
tighter Prefixes low = record { level = Memberships; is = refl; number = refl }
tighter Conjunctions low = record { level = Prefixes; is = refl; number = refl }
tighter Disjunctions low = record { level = Conjunctions; is = refl; number = refl }
tighter Implications low = record { level = Disjunctions; is = refl; number = refl }
tighter WeakUntils low = record { level = Implications; is = refl; number = refl }
tighter Untils low = record { level = WeakUntils; is = refl; number = refl }
tighter Releases low = record { level = Untils; is = refl; number = refl }

-- no level of signs stands above b and up to a
pub no_sign_at : (a b c : ℕ) → (a < 9) ⊎ (9 ≤ b) → b < c → c ≤ a → c ≡ 9 → ⊥
no_sign_at a b c (inl low) above within e = omega arith
no_sign_at a b c (inr high) above within e = omega arith

pub no_sign_from : (a b c : ℕ) → (a < 9) ⊎ (9 ≤ b) → b ≤ c → (a < 9) ⊎ (9 ≤ c)
no_sign_from a b c (inl low) above = inl low
no_sign_from a b c (inr high) above = inr (omega arith)

no_sign_to : (a b c : ℕ) → (a < 9) ⊎ (9 ≤ b) → c ≤ a → (c < 9) ⊎ (9 ≤ b)
no_sign_to a b c (inl low) within = inl (omega arith)
no_sign_to a b c (inr high) within = inr high

refused_step : (ends : Bool) (m n : Level) (ls : List Lexeme) (k : ℕ) → tighter_of m ≡ Some n → joins_some (joins_of m) ≡ true → Eventually (λ d. (readers d).level ends n ls) (refused k)
    → Eventually (λ d. (readers d).level ends m ls) (refused k)
refused_step ends m n ls k e h operand =
    level_step ends m ls (refused k) (same_answers _ (λ d. extended_level (readers d) ends m n ls (tighter_of m) e (joins_of m) h) (stops (λ d u after. extended_by (readers d) ends m n (joins_of m) u after) operand))

refused_by : (steps : ℕ) (ends : Bool) (m n : Level) (ls : List Lexeme) (k : ℕ) → level_number m ≡ level_number n + steps → (level_number m < 9) ⊎ (9 ≤ level_number n)
    → Eventually (λ d. (readers d).level ends n ls) (refused k) → Eventually (λ d. (readers d).level ends m ls) (refused k)
refused_by zero ends m n ls k e s h = subst (λ (l : Level). Eventually (λ d. (readers d).level ends l ls) (refused k)) (sym (same_level m n (omega (arith, e)))) h
refused_by (suc steps) ends m n ls k e s h =
    let t : Tighter m = tighter m (omega (arith, e)) in
    refused_step ends m t.level ls k t.is (joins_somehow m (omega (arith, e)) (no_sign_at (level_number m) (level_number n) (level_number m) s (omega (arith, e)) (omega arith)))
    (refused_by steps ends t.level n ls k (omega (arith, e, t.number)) (no_sign_to (level_number m) (level_number n) (level_number t.level) s (omega (arith, t.number))) h)

-- a refused operand is refused at each level that is built of it
pub refused_up : (ends : Bool) (m n : Level) (ls : List Lexeme) (k : ℕ) → level_number n ≤ level_number m → (level_number m < 9) ⊎ (9 ≤ level_number n)
    → Eventually (λ d. (readers d).level ends n ls) (refused k) → Eventually (λ d. (readers d).level ends m ls) (refused k)
refused_up ends m n ls k up s h = refused_by (level_number m - level_number n) ends m n ls k (omega arith) s h

pub read_refused : {X Y : Type 0} {view : Y → Tree} {seen_as : X → Tree} {after rest : List Lexeme} {e : Refusal} (ends : Bool) (m n : Level) (ls : List Lexeme) → level_number n ≤ level_number m
    → (level_number m < 9) ⊎ (9 ≤ level_number n) → IsRead view (λ d. (readers d).level ends n ls) rest (Err e) → IsRead seen_as (λ d. (readers d).level ends m ls) after (Err e)
read_refused ends m n ls up s h = record { ok = λ y is. absurd (cc); err = λ k is. refused_up ends m n ls k up s (h.err k (cc)) }

-- operators of one level

pub read_joined : {X : Type 0} {seen_as : X → Tree} {after : List Lexeme} {r : Result X Refusal} (m : Option Op) (o : Op) (t : Tree) (rest : List Lexeme) (f : ℕ → List Lexeme → Answer Tree) → m ≡ Some o
    → IsRead seen_as (λ d. go_on (f d (drop 1 rest)) (λ u last. taken (pair (from_to (tree_span t).start (tree_span u).end) o t u) last)) after r → IsRead seen_as (λ d. joined_by m t rest (f d)) after r
read_joined m o t rest f e h = read_same _ (λ d. ap (λ p. joined_by p t rest (f d)) e) h

pub read_alone : {X : Type 0} {seen_as : X → Tree} {after : List Lexeme} {r : Result X Refusal} (m : Option Op) (t : Tree) (rest : List Lexeme) (f : ℕ → List Lexeme → Answer Tree) → m ≡ None
    → IsRead seen_as (λ d. taken t rest) after r → IsRead seen_as (λ d. joined_by m t rest (f d)) after r
read_alone m t rest f e h = read_same _ (λ d. ap (λ p. joined_by p t rest (f d)) e) h

-- one more operator of a chain, and the end of the chain
pub link_more : (ends : Bool) (m n : Level) (ls before after : List Lexeme) (o : Op) (l : Link) (t : Tree) → tighter_of m ≡ Some n → operator_here ends m ls ≡ Some o → before ≡ drop 1 ls → l.op ≡ o → expr_seen l.right ≡ t
    → Eventually (λ d. (readers d).level ends n before) (taken t after) → Builds put_link (λ d. (readers d).links ends m ls) (l ∷ []) (λ d. (readers d).links ends m after)
link_more ends m n ls before after o l t e f g op_is right_is h = record {
  ok = λ more rest on. links_step ends m ls _ (same_answers _ same (goes (λ d u last. go_on ((readers d).links ends m last) (λ others end. taken (link o u others) end)) h
      (subst (λ (x : Links). Eventually (λ d. go_on ((readers d).links ends m after) (λ others end. taken (link o t others) end)) (taken x rest)) (sym (λ k. link (op_is k) (right_is k) more))
      (goes (λ d others end. taken (link o t others) end) on (at_once _ _ (λ d. refl))))));
  err = λ k on. links_step ends m ls _ (same_answers _ same (goes (λ d u last. go_on ((readers d).links ends m last) (λ others end. taken (link o u others) end)) h
      (stops (λ d others end. taken (link o t others) end) on)));
}
  where
    same : (d : ℕ) → links_with (readers d) ends m ls ≡ go_on ((readers d).level ends n before) (λ u last. go_on ((readers d).links ends m last) (λ others end. taken (link o u others) end))
    same d = ap (λ p. linked (readers d) ends m p (operator_here ends m ls) ls) e ∙ ap (λ p. linked (readers d) ends m (Some n) p ls) f
        ∙ ap (λ x. go_on ((readers d).level ends n x) (λ u last. go_on ((readers d).links ends m last) (λ others end. taken (link o u others) end))) (sym g)

pub link_refused : (ends : Bool) (m n : Level) (ls before : List Lexeme) (o : Op) (k : ℕ) → tighter_of m ≡ Some n → operator_here ends m ls ≡ Some o → before ≡ drop 1 ls
    → Eventually (λ d. (readers d).level ends n before) (refused k) → Eventually (λ d. (readers d).links ends m ls) (refused k)
link_refused ends m n ls before o k e f g h = links_step ends m ls _ (same_answers _ same (stops (λ d u last. go_on ((readers d).links ends m last) (λ others end. taken (link o u others) end)) h))
  where
    same : (d : ℕ) → links_with (readers d) ends m ls ≡ go_on ((readers d).level ends n before) (λ u last. go_on ((readers d).links ends m last) (λ others end. taken (link o u others) end))
    same d = ap (λ p. linked (readers d) ends m p (operator_here ends m ls) ls) e ∙ ap (λ p. linked (readers d) ends m (Some n) p ls) f
        ∙ ap (λ x. go_on ((readers d).level ends n x) (λ u last. go_on ((readers d).links ends m last) (λ others end. taken (link o u others) end))) (sym g)

pub link_end : (ends : Bool) (m n : Level) (ls : List Lexeme) → tighter_of m ≡ Some n → operator_here ends m ls ≡ None → Eventually (λ d. (readers d).links ends m ls) (taken no_links ls)
link_end ends m n ls e f = links_step ends m ls _ (at_once _ _ (λ d. ap (λ p. linked (readers d) ends m p (operator_here ends m ls) ls) e ∙ ap (λ p. linked (readers d) ends m (Some n) p ls) f))

-- the whole chain
pub chain_ends : (ends : Bool) (m n : Level) (ls rest : List Lexeme) (t : Tree) (done : List Link) → tighter_of m ≡ Some n → operator_here ends m rest ≡ None
    → Builds put_link (λ d. (readers d).links ends m ls) done (λ d. (readers d).links ends m rest)
    → Eventually (λ d. go_on ((readers d).links ends m ls) (λ more after. taken (chain_of t more) after)) (taken (chain_of t (link_list_seen done)) rest)
chain_ends ends m n ls rest t done e f b =
    let all : Eventually (λ d. (readers d).links ends m ls) (taken (link_list_seen done) rest) =
    subst (λ (x : Links). Eventually (λ d. (readers d).links ends m ls) (taken x rest)) (links_onto done) (b.ok no_links rest (link_end ends m n rest e f)) in
    goes (λ d more after. taken (chain_of t more) after) all (at_once _ _ (λ d. refl))

-- what is read then is what the node is made of
pub read_made : {X A : Type 0} {view : X → A} {f : ℕ → Answer A} {t : A} {after : List Lexeme} {r : Result X Refusal} → Eventually f (taken t after) → IsBuilt view t r → IsRead view f after r
read_made {f = f} {after = after} h b = let n = read_built {after = after} b in record { ok = λ x is. through (n.ok x is) h; err = λ k is. absurd (differs (n.err k is)) }
  where
    through : {A : Type 0} {f : ℕ → Answer A} {t u : A} {after : List Lexeme} → Eventually (λ d. taken t after) (taken u after) → Eventually f (taken t after) → Eventually f (taken u after)
    through e h = record { from = h.from + e.from; reads = λ d low. h.reads d (omega arith) ∙ e.reads d (omega arith) }

    differs : {A : Type 0} {t : A} {after : List Lexeme} {k : ℕ} → Eventually (λ d. taken t after) (refused k) → ⊥
    differs e = let h = e.reads e.from (omega arith) in cc

-- signs that are passed, and signs that aren't there

pub next_passes : {X : Type 0} {s : Symbol} {before rest : List Lexeme} {l : Lexeme} (f : Lexeme → List Lexeme → X) (x : X) → Passes s before l rest → if_next s before f x ≡ f l rest
next_passes {s = s} {rest = rest} {l = l} f x p = ap (λ ls. if_next s ls f x) p.front ∙ ap (λ b. cond b (f l rest) x) p.symbol

pub next_other : {X : Type 0} {s : Symbol} {before rest : List Lexeme} (f : Lexeme → List Lexeme → X) (x : List Lexeme → X) → Lacks s before rest → if_next s before f (x before) ≡ x rest
next_other {s = s} {before = before} f x p = not_next s before f (x before) p.other ∙ ap x (sym p.same)

pub expect_passes : {X : Type 0} {s : Symbol} {before rest : List Lexeme} {l : Lexeme} (f : Lexeme → List Lexeme → Answer X) → Passes s before l rest → expect s before f ≡ f l rest
expect_passes {s = s} {rest = rest} {l = l} f p = ap (λ ls. expect s ls f) p.front ∙ ap (λ b. cond b (f l rest) (refused (suc (length rest)))) p.symbol

bound_passes : {X : Type 0} {before rest : List Lexeme} {strict : Bool} (f : Bool → List Lexeme → Answer X) → Bounds before strict rest → bound before f ≡ f strict rest
bound_passes {rest = rest} f b = ap (λ ls. bound ls f) b.front ∙ ap (λ o. bounded o f rest) b.is

bound_refused : {X : Type 0} (before : List Lexeme) (f : Bool → List Lexeme → Answer X) → bound_here before ≡ None → bound before f ≡ refused (length before)
bound_refused [] f e = refl
bound_refused (l ∷ ls) f e = ap (λ o. bounded o f ls) e ∙ ap refused (omega arith)

pub read_bounds : {X B : Type 0} {seen_as : X → B} {before rest after : List Lexeme} {strict : Bool} {r : Result X Refusal} (k : ℕ → Bool → List Lexeme → Answer B)
    → Bounds before strict rest → IsRead seen_as (λ d. k d strict rest) after r → IsRead seen_as (λ d. bound before (k d)) after r
read_bounds k b n = read_same _ (λ d. bound_passes (k d) b) n

pub read_unbounded : {X B : Type 0} {seen_as : X → B} {before after : List Lexeme} {e : Refusal} (k : ℕ → Bool → List Lexeme → Answer B)
    → Unbounded before e → IsRead seen_as (λ d. bound before (k d)) after (Err e)
read_unbounded {before = before} {e = e} k u = record {
  ok = λ y is. absurd (cc);
  err = λ j is. let here : length before ≡ j = cc (u.is) in at_once _ _ (λ d. bound_refused before (k d) u.none ∙ ap refused here);
}

-- lists with commas

pub list_more : (ls rest inner : List Lexeme) (e : Expr) (comma : Lexeme) → Eventually (λ d. (readers d).level false Releases ls) (taken (expr_seen e) rest) → Passes symbol.Comma rest comma inner
    → Builds put_tree (λ d. (readers d).list ls) (e ∷ []) (λ d. (readers d).list inner)
list_more ls rest inner e comma h p = record {
  ok = λ more after on. list_step ls _ (goes (λ d t r. after_one d t r) h (same_answers _ (λ d. passes d) (goes (λ d others end. taken (tree (expr_seen e) others) end) on (at_once _ _ (λ d. refl)))));
  err = λ k on. list_step ls _ (goes (λ d t r. after_one d t r) h (same_answers _ (λ d. passes d) (stops (λ d others end. taken (tree (expr_seen e) others) end) on)));
}
  where
    after_one : ℕ → Tree → List Lexeme → Answer Trees
    after_one d t r = if_next symbol.Comma r (λ _ i. go_on ((readers d).list i) (λ more after. taken (tree t more) after)) (taken (tree t no_trees) r)

    passes : (d : ℕ) → after_one d (expr_seen e) rest ≡ go_on ((readers d).list inner) (λ more after. taken (tree (expr_seen e) more) after)
    passes d = next_passes (λ _ i. go_on ((readers d).list i) (λ more after. taken (tree (expr_seen e) more) after)) (taken (tree (expr_seen e) no_trees) rest) p

pub list_last : (ls rest after : List Lexeme) (e : Expr) → Eventually (λ d. (readers d).level false Releases ls) (taken (expr_seen e) rest) → Lacks symbol.Comma rest after
    → Eventually (λ d. (readers d).list ls) (taken (put_tree e no_trees) after)
list_last ls rest after e h p = list_step ls _ (goes (λ d t r. after_one d t r) h (at_once _ _ (λ d. next_other (λ _ i. go_on ((readers d).list i) (λ more end. taken (tree (expr_seen e) more) end)) (λ r. taken (tree (expr_seen e) no_trees) r) p)))
  where
    after_one : ℕ → Tree → List Lexeme → Answer Trees
    after_one d t r = if_next symbol.Comma r (λ _ i. go_on ((readers d).list i) (λ more end. taken (tree t more) end)) (taken (tree t no_trees) r)

pub list_refused : (ls : List Lexeme) (k : ℕ) → Eventually (λ d. (readers d).level false Releases ls) (refused k) → Eventually (λ d. (readers d).list ls) (refused k)
list_refused ls k h = list_step ls _ (stops (λ d t r. if_next symbol.Comma r (λ _ i. go_on ((readers d).list i) (λ more end. taken (tree t more) end)) (taken (tree t no_trees) r)) h)

-- ranges

pub range_more : (before rest inner : List Lexeme) (x : Range) (comma : Lexeme) → IsRangeRead before rest (Ok x) → Passes symbol.Comma rest comma inner
    → Builds range_seen (λ d. (readers d).ranges before) (x ∷ []) (λ d. (readers d).ranges inner)
range_more before rest inner x comma h p = record {
  ok = λ more after on. ranges_step before _ (h.ok x refl _ (same_answers _ (λ d. passes d) (goes (λ d others end. taken (range_seen x others) end) on (at_once _ _ (λ d. refl)))));
  err = λ k on. ranges_step before _ (h.ok x refl _ (same_answers _ (λ d. passes d) (stops (λ d others end. taken (range_seen x others) end) on)));
}
  where
    passes : (d : ℕ) → more_ranges (readers d) rest (range_seen x) ≡ go_on ((readers d).ranges inner) (λ more after. taken (range_seen x more) after)
    passes d = next_passes (λ _ i. go_on ((readers d).ranges i) (λ more after. taken (range_seen x more) after)) (taken (range_seen x no_ranges) rest) p

pub range_last : (before rest after : List Lexeme) (x : Range) → IsRangeRead before rest (Ok x) → Lacks symbol.Comma rest after → Eventually (λ d. (readers d).ranges before) (taken (range_seen x no_ranges) after)
range_last before rest after x h p = ranges_step before _ (h.ok x refl _ (at_once _ _ (λ d. next_other (λ _ i. go_on ((readers d).ranges i) (λ more end. taken (range_seen x more) end)) (λ r. taken (range_seen x no_ranges) r) p)))

pub range_refused : {X : Type 0} {seen_as : X → Ranges} (before rest after : List Lexeme) (e : Refusal) → IsRead seen_as (λ d. ranges_with (readers d) before) rest (Err e) → IsRangeRead before after (Err e)
range_refused before rest after e h = record { ok = λ x is. absurd (cc); err = λ k is. h.err k (cc) }

members_front : (r : Readers) (before inner : List Lexeme) (l : Lexeme) → NamesMembers before l inner
    → ranges_with r before ≡ go_on (r.level false Releases inner) (λ t rest. more_ranges r rest (λ more. members (word_of l) t more))
members_front r before inner l n = ap (ranges_with r) n.front
    ∙ ap (λ b. cond b (go_on (r.level false Releases inner) (λ t rest. more_ranges r rest (λ more. members (word_of l) t more))) (between_with r (l ∷ n.sign ∷ inner))) n.is

built_is : {X A : Type 0} (view : X → A) (t : A) (r : Result X Refusal) → IsBuilt view t r → (x : X) → r ≡ Ok x → view x ≡ t
built_is view t (Ok y) b x is = let same : y ≡ x = cc in ap view (sym same) ∙ b
built_is view t (Err e) b x is = absurd (cc)

built_never : {X A : Type 0} (view : X → A) (t : A) (r : Result X Refusal) → IsBuilt view t r → (k : ℕ) → r ≡ Err (At k) → ⊥
built_never view t (Ok y) b k is = cc
built_never view t (Err e) b k is = cc (b)

pub members_read : (before inner rest : List Lexeme) (l : Lexeme) (t : Tree) (r : Result Range Refusal) → NamesMembers before l inner → Eventually (λ d. (readers d).level false Releases inner) (taken t rest)
    → IsBuilt range_seen (members (word_of l) t) r → IsRangeRead before rest r
members_read before inner rest l t r n h b = record {
  ok = λ x is a on. same_answers _ (λ d. members_front (readers d) before inner l n) (goes (λ d u last. more_ranges (readers d) last (λ more. members (word_of l) u more)) h
      (subst (λ (f : Ranges → Ranges). Eventually (λ d. more_ranges (readers d) rest f) a) (built_is range_seen (members (word_of l) t) r b x is) on));
  err = λ k is. absurd (built_never range_seen (members (word_of l) t) r b k is);
}

pub members_refused : (before inner rest : List Lexeme) (l : Lexeme) (e : Refusal) → NamesMembers before l inner → IsRead expr_seen (λ d. (readers d).level false Releases inner) rest (Err e) → IsRangeRead before rest (Err e)
members_refused before inner rest l e n h = record {
  ok = λ x is. absurd (cc);
  err = λ k is. same_answers _ (λ d. members_front (readers d) before inner l n) (stops (λ d u last. more_ranges (readers d) last (λ more. members (word_of l) u more)) (h.err k (cc)));
}

between_front : (r : Readers) (before : List Lexeme) → begins_members before ≡ false → ranges_with r before ≡ between_with r before
between_front r [] e = refl
between_front r (l ∷ []) e = refl
between_front r (l ∷ n ∷ ls) e = ap (λ b. cond b (go_on (r.level false Releases ls) (λ t rest. more_ranges r rest (λ more. members (word_of l) t more))) (between_with r (l ∷ n ∷ ls))) e

pub read_between : {X : Type 0} {seen_as : X → Ranges} {after : List Lexeme} {r : Result X Refusal} (before rest : List Lexeme) → NamesNone before rest → IsRead seen_as (λ d. between_with (readers d) rest) after r
    → IsRead seen_as (λ d. ranges_with (readers d) before) after r
read_between before rest n h = read_same _ (λ d. between_front (readers d) before n.other ∙ ap (between_with (readers d)) (sym n.same)) h

pub between_read : (before start low_at named_at sign_at high_at rest : List Lexeme) (low high : Tree) (low_strict high_strict : Bool) (word : Lexeme) (r : Result Range Refusal) → NamesNone before start
    → Eventually (λ d. (readers d).level false Sums start) (taken low low_at) → Bounds low_at low_strict named_at → Passes symbol.Ident named_at word sign_at → Bounds sign_at high_strict high_at
    → Eventually (λ d. (readers d).level false Sums high_at) (taken high rest) → IsBuilt range_seen (between low low_strict (word_of word) high_strict high) r → IsRangeRead before rest r
between_read before start low_at named_at sign_at high_at rest low high low_strict high_strict word r n h b p c j built = record {
  ok = λ x is a on. same_answers _ (λ d. between_front (readers d) before n.other ∙ ap (between_with (readers d)) (sym n.same)) (goes (λ d t1 r1. bound r1 (λ s1 r2. expect symbol.Ident r2 (λ w r3. bound r3 (λ s2 r4.
      go_on ((readers d).level false Sums r4) (λ t2 r5. more_ranges (readers d) r5 (λ more. between t1 s1 (word_of w) s2 t2 more)))))) h
      (same_answers _ (λ d. bound_passes (λ s1 r2. expect symbol.Ident r2 (λ w r3. bound r3 (λ s2 r4. go_on ((readers d).level false Sums r4) (λ t2 r5. more_ranges (readers d) r5 (λ more. between low s1 (word_of w) s2 t2 more))))) b
      ∙ expect_passes (λ w r3. bound r3 (λ s2 r4. go_on ((readers d).level false Sums r4) (λ t2 r5. more_ranges (readers d) r5 (λ more. between low low_strict (word_of w) s2 t2 more)))) p
      ∙ bound_passes (λ s2 r4. go_on ((readers d).level false Sums r4) (λ t2 r5. more_ranges (readers d) r5 (λ more. between low low_strict (word_of word) s2 t2 more))) c)
      (goes (λ d t2 r5. more_ranges (readers d) r5 (λ more. between low low_strict (word_of word) high_strict t2 more)) j
      (subst (λ (f : Ranges → Ranges). Eventually (λ d. more_ranges (readers d) rest f) a) (built_is range_seen (between low low_strict (word_of word) high_strict high) r built x is) on))));
  err = λ k is. absurd (built_never range_seen (between low low_strict (word_of word) high_strict high) r built k is);
}

-- primaries

pub read_primary : {X : Type 0} {seen_as : X → Tree} {after : List Lexeme} {r : Result X Refusal} (before rest : List Lexeme) (l : Lexeme) (s : Symbol) → before ≡ l ∷ rest → l.symbol ≡ s
    → IsRead seen_as (λ d. primary_by (readers d) s l rest) after r → IsRead seen_as (λ d. primary_with (readers d) before) after r
read_primary before rest l s e i h = read_same _ (λ d. ap (primary_with (readers d)) e ∙ ap (λ x. primary_by (readers d) x l rest) i) h

primary_other : (r : Readers) (s : Symbol) (l : Lexeme) (ls : List Lexeme) → (s ≡ symbol.Number → ⊥) → (s ≡ symbol.True → ⊥) → (s ≡ symbol.False → ⊥) → (s ≡ symbol.Ident → ⊥) → (s ≡ symbol.SizeOf → ⊥)
    → (s ≡ symbol.OpenParen → ⊥) → (s ≡ symbol.OpenBrace → ⊥) → primary_by r s l ls ≡ refused (suc (length ls))
primary_other r symbol.Number l ls n1 n2 n3 n4 n5 n6 n7 = absurd (n1 refl)
primary_other r symbol.True l ls n1 n2 n3 n4 n5 n6 n7 = absurd (n2 refl)
primary_other r symbol.False l ls n1 n2 n3 n4 n5 n6 n7 = absurd (n3 refl)
primary_other r symbol.Ident l ls n1 n2 n3 n4 n5 n6 n7 = absurd (n4 refl)
primary_other r symbol.SizeOf l ls n1 n2 n3 n4 n5 n6 n7 = absurd (n5 refl)
primary_other r symbol.OpenParen l ls n1 n2 n3 n4 n5 n6 n7 = absurd (n6 refl)
primary_other r symbol.OpenBrace l ls n1 n2 n3 n4 n5 n6 n7 = absurd (n7 refl)
primary_other r _ l ls n1 n2 n3 n4 n5 n6 n7 = refl

pub read_no_primary : {X : Type 0} {seen_as : X → Tree} {after : List Lexeme} {e : Refusal} (before rest : List Lexeme) (l : Lexeme) → before ≡ l ∷ rest → e ≡ At (length before)
    → (l.symbol ≡ symbol.Number → ⊥) → (l.symbol ≡ symbol.True → ⊥) → (l.symbol ≡ symbol.False → ⊥) → (l.symbol ≡ symbol.Ident → ⊥) → (l.symbol ≡ symbol.SizeOf → ⊥) → (l.symbol ≡ symbol.OpenParen → ⊥)
    → (l.symbol ≡ symbol.OpenBrace → ⊥) → IsRead seen_as (λ d. primary_with (readers d) before) after (Err e)
read_no_primary {e = e} before rest l is gone n1 n2 n3 n4 n5 n6 n7 = record {
  ok = λ y no. absurd (cc);
  err = λ k at. let here : length before ≡ k = cc (gone) in
      at_once _ _ (λ d. ap (primary_with (readers d)) is ∙ primary_other (readers d) l.symbol l rest n1 n2 n3 n4 n5 n6 n7 ∙ ap refused (omega (arith, ap length is, here)));
}

pub read_no_front : {X : Type 0} {seen_as : X → Tree} {after : List Lexeme} {e : Refusal} (before : List Lexeme) → before ≡ [] → e ≡ At (length before) → IsRead seen_as (λ d. primary_with (readers d) before) after (Err e)
read_no_front {e = e} before is gone = record {
  ok = λ y no. absurd (cc);
  err = λ k at. let here : length before ≡ k = cc (gone) in at_once _ _ (λ d. ap (primary_with (readers d)) is ∙ ap refused (omega (arith, ap length is, here)));
}
