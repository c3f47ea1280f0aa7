-- How the descent reads lists with commas, ranges and sets.
use Rattle.std.proofs.Common.{◌≡◌, ℕ, false, List, [], ◌∷◌, ◌++◌, Result, Ok, Err, Vec, Global, IsErrAnd, refl, sym, ap, ◌∙◌, subst}
use Rattle.std.proofs.lemmas.Result.{err_from_is_err_and}
use Rattle.tlsf_syntax.specs.declared.expr.Expr.{Expr}
use Rattle.tlsf_syntax.specs.declared.expr.Range.{Range}
use Rattle.tlsf_tokens.specs.declared.symbol.Symbol.TheVariants as symbol
use Rattle.tlsf_syntax.specs.Tree.{Tree, Trees, Ranges}
use Rattle.tlsf_syntax.specs.Lexemes.{Lexeme}
use Rattle.tlsf_syntax.specs.declared.level.Level.TheVariants.{Releases}
use Rattle.tlsf_syntax.specs.Reading.{Answer, taken, readers, close_set}
use Rattle.tlsf_reader.specs.declared.rest.Refusal.{Refusal}
use Rattle.tlsf_syntax.specs.Seen.{expr_seen, trees_seen, range_seen}
use Rattle.tlsf_reader.specs.Descent.{Eventually, IsRead, IsRangeRead, Lacks, Builds, put_tree, list_seen, ranges_seen}
use Rattle.tlsf_reader.proofs.Descending.{built_last, trees_onto, ranges_onto, list_last, list_refused, range_last, ranges_step}
use Rattle.tlsf_reader.proofs.Climbing.{read_taken}

-- expressions with commas between

pub list_stops : {f : ℕ → Answer Trees} {done : List Expr} {rest after : List Lexeme} {e : Refusal} (ls : List Lexeme) → Builds put_tree f done (λ d. (readers d).list ls)
    → IsRead expr_seen (λ d. (readers d).level false Releases ls) rest (Err e) → IsRead list_seen f after (Err e)
list_stops ls b h = record { ok = λ y is. absurd (cc); err = λ k is. b.err k (list_refused ls k (h.err k (cc))) }

pub list_ends : {f : ℕ → Answer Trees} {done : List Expr} {rest after : List Lexeme} {e : Expr} (ls : List Lexeme) (all : Vec Expr Global) → all.items ≡ done ++ e ∷ [] → Builds put_tree f done (λ d. (readers d).list ls)
    → IsRead expr_seen (λ d. (readers d).level false Releases ls) rest (Ok e) → Lacks symbol.Comma rest after → IsRead list_seen f after (Ok all)
list_ends {f = f} {rest = rest} {after = after} {e = e} ls all is b h p =
    read_taken (subst (λ (ts : Trees). Eventually f (taken ts after)) (trees_onto all.items) (built_last all.items is b (list_last ls rest after e (h.ok e refl) p)))

-- ranges with commas between

pub range_exit : {before after : List Lexeme} {e : Refusal} (r : Result Range Refusal) → IsErrAnd r (λ x. x ≡ e) → IsRangeRead before after (Err e) → IsRangeRead before after r
range_exit r h n = let p = err_from_is_err_and r h in let is : r ≡ Err _ = p.1 ∙ ap Err p.2 in record { ok = λ x o. n.ok x (sym is ∙ o); err = λ k o. n.err k (sym is ∙ o) }

pub ranges_stop : {f : ℕ → Answer Ranges} {done : List Range} {ls rest after : List Lexeme} {e : Refusal} → Builds range_seen f done (λ d. (readers d).ranges ls)
    → IsRangeRead ls rest (Err e) → IsRead ranges_seen f after (Err e)
ranges_stop {ls = ls} b h = record { ok = λ y is. absurd (cc); err = λ k is. b.err k (ranges_step ls _ (h.err k (cc))) }

pub ranges_end : {f : ℕ → Answer Ranges} {done : List Range} {ls rest after : List Lexeme} {x : Range} (all : Vec Range Global) → all.items ≡ done ++ x ∷ [] → Builds range_seen f done (λ d. (readers d).ranges ls)
    → IsRangeRead ls rest (Ok x) → Lacks symbol.Comma rest after → IsRead ranges_seen f after (Ok all)
ranges_end {f = f} {ls = ls} {rest = rest} {after = after} {x = x} all is b h p =
    read_taken (subst (λ (rs : Ranges). Eventually f (taken rs after)) (ranges_onto all.items) (built_last all.items is b (range_last ls rest after x h p)))

-- the members of a set

pub read_closed : {X : Type 0} {view : X → Tree} {after : List Lexeme} {r : Result X Refusal} (l : Lexeme) (ls : List Lexeme) (all es : List Expr) → all ≡ es
    → IsRead view (λ _. close_set l (trees_seen all) ls) after r → IsRead view (λ _. close_set l (trees_seen es) ls) after r
read_closed {view = view} {after = after} {r = r} l ls all es is h = subst (λ (xs : List Expr). IsRead view (λ _. close_set l (trees_seen xs) ls) after r) is h
