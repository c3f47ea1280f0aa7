-- How the descent for expressions goes from one level to the next, and out of a `?`.
use Rattle.std.proofs.Common.{◌≡◌, ℕ, ◌+◌, ◌<◌, ◌≤◌, ◌⊎◌, Bool, true, List, drop, Option, Some, None, Result, Ok, Err, IsErrAnd, sym, ap, ◌∙◌, subst, arith}
use Rattle.std.proofs.lemmas.Result.{err_from_is_err_and}
use Rattle.tlsf_syntax.specs.declared.expr.Link.{Link}
use Rattle.tlsf_syntax.specs.declared.expr.Op.{Op}
use Rattle.tlsf_syntax.specs.Tree.{Tree, tree_span, pair}
use Rattle.tlsf_syntax.specs.Lexemes.{Lexeme}
use Rattle.tlsf_syntax.specs.declared.level.Level.{Level}
use Rattle.tlsf_syntax.specs.declared.level.Level.TheVariants.{Memberships, Prefixes}
use Rattle.tlsf_syntax.specs.declared.level.Joins.{Joins}
use Rattle.tlsf_syntax.specs.Expressions.{tighter_of, joins_of}
use Rattle.tlsf_syntax.specs.Reading.{Answer, taken, go_on, level_number, operator_here, joined_by, chain_of, from_to, readers}
use Rattle.tlsf_reader.specs.declared.rest.Refusal.{Refusal}
use Rattle.tlsf_reader.specs.declared.ahead.Sign.{Sign}
use Rattle.tlsf_reader.specs.declared.ahead.SignKind.{SignKind}
use Rattle.tlsf_reader.specs.Seen.{seen}
use Rattle.tlsf_reader.specs.Descent.{Eventually, IsRead, IsBuilt, SignedFront, Unsigned, signed_by, extended_by, Builds, put_link}
use Rattle.tlsf_reader.proofs.Descending.{stops, climb_up, joins_some, joins_somehow, no_sign_at, read_error, read_same, read_stop, read_go, read_built, read_made, read_here, read_level, read_joined, read_alone, chain_ends, link_refused}
use Rattle.tlsf_syntax.specs.Seen.{link_list_seen}
use Rattle.tlsf_syntax.proofs.Starts.{same_level}

-- the exit of a `?`
pub read_exit : {X A : Type 0} {view : X → A} {f : ℕ → Answer A} {after : List Lexeme} {e : Refusal} (r : Result X Refusal) → IsErrAnd r (λ x. x ≡ e) → IsRead view f after (Err e) → IsRead view f after r
read_exit r h n = let p = err_from_is_err_and r h in read_error r (p.1 ∙ ap Err p.2) n

-- what was read before the code answers it
pub read_taken : {X A : Type 0} {view : X → A} {f : ℕ → Answer A} {after : List Lexeme} {x : X} → Eventually f (taken (view x) after) → IsRead view f after (Ok x)
read_taken {X = X} {view = view} {f = f} {after = after} {x = x} h = record {
  ok = λ y is. let same : x ≡ y = cc in subst (λ (z : X). Eventually f (taken (view z) after)) same h;
  err = λ k is. absurd (cc);
}

-- one level up, on the way to another one
pub climbed : {X : Type 0} {view : X → Tree} {rest after : List Lexeme} {t : Tree} {r : Result X Refusal} (ends : Bool) (to m n : Level) (ls : List Lexeme) → tighter_of m ≡ Some n → level_number m ≡ level_number n + 1
    → level_number m ≤ level_number to → (level_number to < 9) ⊎ (9 ≤ level_number n) → Eventually (λ d. (readers d).level ends n ls) (taken t rest)
    → IsRead view (λ d. extended_by (readers d) ends m n (joins_of m) t rest) after r → IsRead view (λ d. (readers d).level ends m ls) after r
climbed {rest = rest} {t = t} ends to m n ls e above within s operand on = record {
  ok = λ x is. climb_up ends m n ls rest t _ e has operand (on.ok x is);
  err = λ k is. climb_up ends m n ls rest t _ e has operand (on.err k is);
}
  where
    has : joins_some (joins_of m) ≡ true
    has = joins_somehow m (omega (arith, above)) (no_sign_at (level_number to) (level_number n) (level_number m) s (omega (arith, above)) within)

-- the level that was aimed at
pub climbed_to : {X : Type 0} {view : X → Tree} {after : List Lexeme} {x : X} (ends : Bool) (to m : Level) (ls : List Lexeme) → level_number m ≤ level_number to → level_number to ≤ level_number m
    → Eventually (λ d. (readers d).level ends m ls) (taken (view x) after) → IsRead view (λ d. (readers d).level ends to ls) after (Ok x)
climbed_to {view = view} {after = after} {x = x} ends to m ls low high h =
    read_taken (subst (λ (l : Level). Eventually (λ d. (readers d).level ends l ls) (taken (view x) after)) (same_level m to (omega arith)) h)

pub read_extended : {X : Type 0} {view : X → Tree} {after : List Lexeme} {r : Result X Refusal} (ends : Bool) (m n : Level) (t : Tree) (rest : List Lexeme) (j : Joins) → joins_of m ≡ j
    → IsRead view (λ d. extended_by (readers d) ends m n j t rest) after r → IsRead view (λ d. extended_by (readers d) ends m n (joins_of m) t rest) after r
read_extended ends m n t rest j e h = read_same _ (λ d. ap (λ x. extended_by (readers d) ends m n x t rest) e) h

-- chains

pub chain_refused : {X Y : Type 0} {view : Y → Tree} {seen_as : X → Tree} {rest after : List Lexeme} {e : Refusal} (ends : Bool) (m n : Level) (first ls before : List Lexeme) (o : Op) (t : Tree) (done : List Link)
    → tighter_of m ≡ Some n → Some o ≡ operator_here ends m ls → before ≡ drop 1 ls → Builds put_link (λ d. (readers d).links ends m first) done (λ d. (readers d).links ends m ls)
    → IsRead view (λ d. (readers d).level ends n before) rest (Err e) → IsRead seen_as (λ d. go_on ((readers d).links ends m first) (λ more end. taken (chain_of t more) end)) after (Err e)
chain_refused ends m n first ls before o t done e f g b h = record {
  ok = λ y is. absurd (cc);
  err = λ k is. stops (λ d more end. taken (chain_of t more) end) (b.err k (link_refused ends m n ls before o k e (sym f) g (h.err k (cc))));
}

pub read_chain : {X : Type 0} {view : X → Tree} {r : Result X Refusal} (ends : Bool) (m n : Level) (first ls after : List Lexeme) (t : Tree) (done : List Link) → tighter_of m ≡ Some n → None ≡ operator_here ends m ls
    → after ≡ ls → Builds put_link (λ d. (readers d).links ends m first) done (λ d. (readers d).links ends m ls) → IsBuilt view (chain_of t (link_list_seen done)) r
    → IsRead view (λ d. go_on ((readers d).links ends m first) (λ more end. taken (chain_of t more) end)) after r
read_chain {view = view} {r = r} ends m n first ls after t done e f g b built =
    subst (λ (end : List Lexeme). IsRead view (λ d. go_on ((readers d).links ends m first) (λ more last. taken (chain_of t more) last)) end r) (sym g) (read_made (chain_ends ends m n first ls t done e (sym f) b) built)

-- one operator

pub read_none : {X : Type 0} {view : X → Tree} {x : X} (m : Option Op) (t : Tree) (rest after : List Lexeme) (f : ℕ → List Lexeme → Answer Tree) → None ≡ m → after ≡ rest → view x ≡ t
    → IsRead view (λ d. joined_by m t rest (f d)) after (Ok x)
read_none {view = view} {x = x} m t rest after f e g is = read_alone m t rest f (sym e) (subst (λ (ls : List Lexeme). IsRead view (λ d. taken t ls) after (Ok x)) g (read_here is))

pub pair_refused : {X Y : Type 0} {view : Y → Tree} {seen_as : X → Tree} {last after : List Lexeme} {e : Refusal} (ends : Bool) (n : Level) (m : Option Op) (o : Op) (t : Tree) (rest before : List Lexeme) → Some o ≡ m
    → before ≡ drop 1 rest → IsRead view (λ d. (readers d).level ends n before) last (Err e) → IsRead seen_as (λ d. joined_by m t rest ((readers d).level ends n)) after (Err e)
pair_refused {view = view} {last = last} {e = e} ends n m o t rest before is g h =
    read_joined m o t rest (λ d. (readers d).level ends n) (sym is) (read_stop (λ d u end. taken (pair (from_to (tree_span t).start (tree_span u).end) o t u) end)
    (subst (λ (ls : List Lexeme). IsRead view (λ d. (readers d).level ends n ls) last (Err e)) g h))

pub pair_read : {X Y : Type 0} {view : Y → Tree} {seen_as : X → Tree} {after : List Lexeme} {u : Y} {r : Result X Refusal} (ends : Bool) (n : Level) (m : Option Op) (o : Op) (t : Tree) (rest before : List Lexeme) → Some o ≡ m
    → before ≡ drop 1 rest → IsRead view (λ d. (readers d).level ends n before) after (Ok u) → IsBuilt seen_as (pair (from_to (tree_span t).start (tree_span (view u)).end) o t (view u)) r
    → IsRead seen_as (λ d. joined_by m t rest ((readers d).level ends n)) after r
pair_read {view = view} {after = after} {u = u} ends n m o t rest before is g h b =
    read_joined m o t rest (λ d. (readers d).level ends n) (sym is) (read_go (λ d v end. taken (pair (from_to (tree_span t).start (tree_span v).end) o t v) end)
    (subst (λ (ls : List Lexeme). IsRead view (λ d. (readers d).level ends n ls) after (Ok u)) g h) (read_built b))

-- signs before an operand

pub read_unsigned : {X : Type 0} {view : X → Tree} {after : List Lexeme} {r : Result X Refusal} (ends : Bool) (before rest : List Lexeme) → Unsigned before → rest ≡ before
    → IsRead view (λ d. (readers d).level ends Memberships rest) after r → IsRead view (λ d. (readers d).level ends Prefixes before) after r
read_unsigned ends before rest u e h = read_level ends Prefixes before (read_same _ (λ d. u.goes (readers d) ends Memberships ∙ ap ((readers d).level ends Memberships) (sym e)) h)

pub read_signed : {X : Type 0} {view : X → Tree} {after : List Lexeme} {r : Result X Refusal} (ends : Bool) (before rest : List Lexeme) (s : Sign) (k : SignKind) → SignedFront before rest s → s.kind ≡ k
    → IsRead view (λ d. signed_by (readers d) ends k (seen s.first) rest) after r → IsRead view (λ d. (readers d).level ends Prefixes before) after r
read_signed ends before rest s k f e h = read_level ends Prefixes before (read_same _ (λ d. f.goes (readers d) ends Memberships ∙ ap (λ x. signed_by (readers d) ends x (seen s.first) rest) e) h)
