-- The grammar of expressions as a reader with one token of look-ahead: computing functions on lists of lexemes. This is no
-- definition of the grammar: readers that go deep enough read what is derived, so no list of lexemes has two trees.
use Rattle.std.specs.Prelude.{◌≡◌, ◌≤◌, ℕ, zero, suc, Bool, true, false, ◌==◌, ◌&&◌, if◌then◌else◌, List, [], ◌∷◌, ◌++◌, length, drop, Option, None, Some}
use Rattle.std.specs.Option.{is_some}
use Rattle.tlsf_syntax.specs.declared.expr.Op.{Op}
use Rattle.tlsf_syntax.specs.declared.expr.Op.TheVariants as op
use Rattle.tlsf_syntax.specs.declared.expr.Span.{Span}
use Rattle.tlsf_tokens.specs.declared.symbol.Symbol.{Symbol}
use Rattle.tlsf_tokens.specs.declared.symbol.Symbol.TheVariants as symbol
use Rattle.tlsf_syntax.specs.Tree.{Tree, Trees, Links, Ranges, tree_span, number, truth, named, call, index, size_of, paren, set, steps, chain, pair, prefix, count, window, big, no_trees, tree, no_links, link, no_ranges, members, between}
use Rattle.tlsf_syntax.specs.Lexemes.{Lexeme, word_of, lexeme_span, literal_of}
use Rattle.tlsf_syntax.specs.Symbols.{symbol_eq}
use Rattle.tlsf_syntax.specs.declared.level.Level.{Level}
use Rattle.tlsf_syntax.specs.declared.level.Level.TheVariants.{Primary, Products, Quotients, Sums, Differences, Meets, Unions, Comparisons, Memberships, Prefixes, Conjunctions, Disjunctions, Implications, WeakUntils, Untils, Releases}
use Rattle.tlsf_syntax.specs.declared.level.Joins.{Joins}
use Rattle.tlsf_syntax.specs.declared.level.Joins.TheVariants as joins
use Rattle.tlsf_syntax.specs.Expressions.{tighter_of, joins_of, operator_of, big_of, bound_of, Derives}

-- what comes of reading
pub data Answer (A : Type 0) : Type 0 where
  -- this was read, and these lexemes are left
  taken : A → List Lexeme → Answer A
  -- so many lexemes are left, of which the first is refused; where none is left, the end is
  refused : ℕ → Answer A
  -- the depth doesn't suffice
  lost : Answer A

abbrev pub go_on : {A B : Type 0} → Answer A → (A → List Lexeme → Answer B) → Answer B
go_on (taken a ls) f = f a ls
go_on (refused k) f = refused k
go_on lost f = lost

abbrev pub begins : Symbol → List Lexeme → Bool
begins s [] = false
begins s (l ∷ ls) = symbol_eq l.symbol s

-- the next lexeme has to have this symbol
abbrev pub expect : {A : Type 0} → Symbol → List Lexeme → (Lexeme → List Lexeme → Answer A) → Answer A
expect s [] f = refused 0
expect s (l ∷ ls) f = if symbol_eq l.symbol s then f l ls else refused (suc (length ls))

-- where the next lexeme has this symbol, it is passed
abbrev pub if_next : {X : Type 0} → Symbol → List Lexeme → (Lexeme → List Lexeme → X) → X → X
if_next s [] f x = x
if_next s (l ∷ ls) f x = if symbol_eq l.symbol s then f l ls else x

abbrev pub from_to : ℕ → ℕ → Span
from_to start end = record { start = start; end = end }

-- the level's number, from the tightest on
abbrev pub level_number : Level → ℕ
level_number Primary = 0
level_number Products = 1
level_number Quotients = 2
level_number Sums = 3
level_number Differences = 4
level_number Meets = 5
level_number Unions = 6
level_number Comparisons = 7
level_number Memberships = 8
level_number Prefixes = 9
level_number Conjunctions = 10
level_number Disjunctions = 11
level_number Implications = 12
level_number WeakUntils = 13
level_number Untils = 14
level_number Releases = 15

abbrev pub at_level : Level → Option (Level × Op) → Option Op
at_level m None = None
at_level m (Some (n, o)) = if level_number n == level_number m then Some o else None

-- the sign of a big operator stands at the front
abbrev pub begins_big : List Lexeme → Bool
begins_big [] = false
begins_big (l ∷ []) = false
begins_big (l ∷ n ∷ ls) = is_some (big_of l.symbol) && symbol_eq n.symbol symbol.OpenBracket

abbrev pub operator_at : Level → List Lexeme → Option Op
operator_at m [] = None
operator_at m (l ∷ ls) = at_level m (operator_of l.symbol)

-- The operator of this level at the front. Where an expression may be followed by another one, as the value of an
-- alternative by the next guard, the sign of a big operator ends it.
abbrev pub operator_here : Bool → Level → List Lexeme → Option Op
operator_here ends m ls = if ends && begins_big ls then None else operator_at m ls

-- readers of the forms that contain each other
pub record Readers : Type 0 where
  -- an expression of a level
  pub level : Bool → Level → List Lexeme → Answer Tree
  -- one or more expressions with commas between
  pub list : List Lexeme → Answer Trees
  -- operators of a level, each with its right operand
  pub links : Bool → Level → List Lexeme → Answer Links
  pub ranges : List Lexeme → Answer Ranges

abbrev pub links_end : ℕ → Links → ℕ
links_end end no_links = end
links_end end (link o t more) = links_end (tree_span t).end more

abbrev pub chain_of : Tree → Links → Tree
chain_of t no_links = t
chain_of t (link o u more) = chain (from_to (tree_span t).start (links_end (tree_span u).end more)) t (link o u more)

abbrev pub joined_by : Option Op → Tree → List Lexeme → (List Lexeme → Answer Tree) → Answer Tree
joined_by None t rest f = taken t rest
joined_by (Some o) t rest f = go_on (f (drop 1 rest)) (λ u after. taken (pair (from_to (tree_span t).start (tree_span u).end) o t u) after)

abbrev pub word_with : Readers → Lexeme → List Lexeme → Answer Tree
word_with r l ls =
    if_next symbol.OpenParen ls (λ _ inner. go_on (r.list inner) (λ ts rest. expect symbol.CloseParen rest (λ last after. taken (call (from_to l.start last.end) (word_of l) ts) after)))
    (if_next symbol.OpenBracket ls (λ _ inner. go_on (r.level false Releases inner) (λ t rest. expect symbol.CloseBracket rest (λ last after. taken (index (from_to l.start last.end) (word_of l) t) after)))
    (taken (named (lexeme_span l) l.text) ls))

abbrev pub close_set : Lexeme → Trees → List Lexeme → Answer Tree
close_set l ts rest = expect symbol.CloseBrace rest (λ last after. taken (set (from_to l.start last.end) ts) after)

abbrev pub set_third : Readers → Lexeme → Tree → Tree → List Lexeme → Answer Tree
set_third r l t u rest =
    if_next symbol.Dots rest (λ _ inner. go_on (r.level false Releases inner) (λ v rest'. expect symbol.CloseBrace rest' (λ last after. taken (steps (from_to l.start last.end) t u v) after)))
    (if_next symbol.Comma rest (λ _ inner. go_on (r.list inner) (λ more rest'. close_set l (tree t (tree u more)) rest')) (close_set l (tree t (tree u no_trees)) rest))

abbrev pub set_second : Readers → Lexeme → Tree → List Lexeme → Answer Tree
set_second r l t rest = if_next symbol.Comma rest (λ _ inner. go_on (r.level false Releases inner) (λ u rest'. set_third r l t u rest')) (close_set l (tree t no_trees) rest)

abbrev pub set_with : Readers → Lexeme → List Lexeme → Answer Tree
set_with r l ls =
    if_next symbol.CloseBrace ls (λ last after. taken (set (from_to l.start last.end) no_trees) after) (go_on (r.level false Releases ls) (λ t rest. set_second r l t rest))

abbrev pub primary_by : Readers → Symbol → Lexeme → List Lexeme → Answer Tree
primary_by r symbol.Number l ls = taken (number (lexeme_span l) (literal_of l.text)) ls
primary_by r symbol.True l ls = taken (truth (lexeme_span l) true) ls
primary_by r symbol.False l ls = taken (truth (lexeme_span l) false) ls
primary_by r symbol.Ident l ls = word_with r l ls
primary_by r symbol.SizeOf l ls = go_on (r.level false Primary ls) (λ t rest. taken (size_of (from_to l.start (tree_span t).end) t) rest)
primary_by r symbol.OpenParen l ls = go_on (r.level false Releases ls) (λ t rest. expect symbol.CloseParen rest (λ last after. taken (paren (from_to l.start last.end) t) after))
primary_by r symbol.OpenBrace l ls = set_with r l ls
primary_by r _ l ls = refused (suc (length ls))

abbrev pub primary_with : Readers → List Lexeme → Answer Tree
primary_with r [] = refused 0
primary_with r (l ∷ ls) = primary_by r l.symbol l ls

abbrev pub prefixed : Readers → Bool → Op → Lexeme → List Lexeme → Answer Tree
prefixed r ends o l ls = go_on (r.level ends Prefixes ls) (λ t rest. taken (prefix (from_to l.start (tree_span t).end) o t) rest)

abbrev pub counted : Readers → Bool → Lexeme → List Lexeme → Answer Tree
counted r ends l ls =
    go_on (r.level false Releases ls) (λ t rest. expect symbol.CloseBracket rest (λ _ inner. go_on (r.level ends Prefixes inner) (λ u after. taken (count (from_to l.start (tree_span u).end) t u) after)))

abbrev pub windowed : Readers → Bool → Op → Lexeme → List Lexeme → Answer Tree
windowed r ends o l ls =
    go_on (r.level false Releases ls) (λ t rest. expect symbol.Colon rest (λ _ second. go_on (r.level false Releases second) (λ u rest'. expect symbol.CloseBracket rest' (λ _ inner.
    go_on (r.level ends Prefixes inner) (λ v after. taken (window (from_to l.start (tree_span v).end) o t u v) after)))))

abbrev pub big_with : Readers → Bool → Op → Lexeme → List Lexeme → Answer Tree
big_with r ends o l ls =
    expect symbol.OpenBracket ls (λ _ inner. go_on (r.ranges inner) (λ rs rest. expect symbol.CloseBracket rest (λ _ body. go_on (r.level ends Prefixes body) (λ t after.
    taken (big (from_to l.start (tree_span t).end) o rs t) after))))

abbrev pub prefix_by : Readers → Bool → Level → Symbol → Lexeme → List Lexeme → Answer Tree
prefix_by r ends n symbol.Not l ls = prefixed r ends op.Not l ls
prefix_by r ends n symbol.Next l ls = if_next symbol.OpenBracket ls (λ _ inner. counted r ends l inner) (prefixed r ends op.Next l ls)
prefix_by r ends n symbol.Finally l ls = if_next symbol.OpenBracket ls (λ _ inner. windowed r ends op.Finally l inner) (prefixed r ends op.Finally l ls)
prefix_by r ends n symbol.Globally l ls = if_next symbol.OpenBracket ls (λ _ inner. windowed r ends op.Globally l inner) (prefixed r ends op.Globally l ls)
prefix_by r ends n symbol.And l ls = big_with r ends op.And l ls
prefix_by r ends n symbol.Or l ls = big_with r ends op.Or l ls
prefix_by r ends n _ l ls = r.level ends n (l ∷ ls)

abbrev pub prefix_with : Readers → Bool → Level → List Lexeme → Answer Tree
prefix_with r ends n [] = r.level ends n []
prefix_with r ends n (l ∷ ls) = prefix_by r ends n l.symbol l ls

abbrev pub level_by : Readers → Bool → Level → Option Level → Joins → List Lexeme → Answer Tree
level_by r ends m None j ls = primary_with r ls
level_by r ends m (Some n) joins.Left ls = go_on (r.level ends n ls) (λ t rest. go_on (r.links ends m rest) (λ more after. taken (chain_of t more) after))
level_by r ends m (Some n) joins.Once ls = go_on (r.level ends n ls) (λ t rest. joined_by (operator_here ends m rest) t rest (r.level ends n))
level_by r ends m (Some n) joins.Right ls = go_on (r.level ends n ls) (λ t rest. joined_by (operator_here ends m rest) t rest (r.level ends m))
level_by r ends m (Some n) joins.None ls = prefix_with r ends n ls

abbrev pub level_with : Readers → Bool → Level → List Lexeme → Answer Tree
level_with r ends m ls = level_by r ends m (tighter_of m) (joins_of m) ls

abbrev pub list_with : Readers → List Lexeme → Answer Trees
list_with r ls =
    go_on (r.level false Releases ls) (λ t rest. if_next symbol.Comma rest (λ _ inner. go_on (r.list inner) (λ more after. taken (tree t more) after)) (taken (tree t no_trees) rest))

abbrev pub linked : Readers → Bool → Level → Option Level → Option Op → List Lexeme → Answer Links
linked r ends m n None ls = taken no_links ls
linked r ends m None (Some o) ls = taken no_links ls
linked r ends m (Some n) (Some o) ls = go_on (r.level ends n (drop 1 ls)) (λ t rest. go_on (r.links ends m rest) (λ more after. taken (link o t more) after))

abbrev pub links_with : Readers → Bool → Level → List Lexeme → Answer Links
links_with r ends m ls = linked r ends m (tighter_of m) (operator_here ends m ls) ls

abbrev pub more_ranges : Readers → List Lexeme → (Ranges → Ranges) → Answer Ranges
more_ranges r rest f = if_next symbol.Comma rest (λ _ inner. go_on (r.ranges inner) (λ more after. taken (f more) after)) (taken (f no_ranges) rest)

abbrev pub bounded : {A : Type 0} → Option Bool → (Bool → List Lexeme → Answer A) → List Lexeme → Answer A
bounded None f ls = refused (suc (length ls))
bounded (Some strict) f ls = f strict ls

abbrev pub bound : {A : Type 0} → List Lexeme → (Bool → List Lexeme → Answer A) → Answer A
bound [] f = refused 0
bound (l ∷ ls) f = bounded (bound_of l.symbol) f ls

abbrev pub between_with : Readers → List Lexeme → Answer Ranges
between_with r ls =
    go_on (r.level false Sums ls) (λ low rest. bound rest (λ low_strict named_at. expect symbol.Ident named_at (λ word sign_at. bound sign_at (λ high_strict high_at.
    go_on (r.level false Sums high_at) (λ high rest'. more_ranges r rest' (λ more. between low low_strict (word_of word) high_strict high more))))))

-- a range over the members of a set begins with a name and `IN`
abbrev pub ranges_with : Readers → List Lexeme → Answer Ranges
ranges_with r [] = between_with r []
ranges_with r (l ∷ []) = between_with r (l ∷ [])
ranges_with r (l ∷ n ∷ ls) =
    if symbol_eq l.symbol symbol.Ident && symbol_eq n.symbol symbol.In then go_on (r.level false Releases ls) (λ t rest. more_ranges r rest (λ more. members (word_of l) t more))
    else between_with r (l ∷ n ∷ ls)

-- readers that are made of readers
abbrev pub step : Readers → Readers
step r = record { level = level_with r; list = list_with r; links = links_with r; ranges = ranges_with r }

abbrev pub stuck : Readers
stuck = record { level = λ ends m ls. lost; list = λ ls. lost; links = λ ends m ls. lost; ranges = λ ls. lost }

-- readers that go so deep
unfoldable pub readers : ℕ → Readers
readers zero = stuck
readers (suc depth) = step (readers depth)

-- the levels give each list of lexemes at most one tree
abbrev pub ExpressionsHaveOneTree : Type 0
ExpressionsHaveOneTree = (n : Level) (ls : List Lexeme) (t u : Tree) → Derives n ls t → Derives n ls u → t ≡ u

-- what a reader of some depth takes of a list is derived, and stands in front of what it leaves
abbrev pub IsFrontOf : Level → List Lexeme → Tree → List Lexeme → Type 0
IsFrontOf n ls t rest = (front : List Lexeme) × (ls ≡ front ++ rest) × Derives n front t

-- the readers read exactly what is derived: nothing else, and all of it where nothing follows
pub record ExpressionsAreReadExactly : Type 0 where
  pub sound : (depth : ℕ) (ends : Bool) (n : Level) (ls : List Lexeme) (t : Tree) (rest : List Lexeme) → (readers depth).level ends n ls ≡ taken t rest → IsFrontOf n ls t rest
  pub complete : (n : Level) (ls : List Lexeme) (t : Tree) → Derives n ls t → (from : ℕ) × ((depth : ℕ) → from ≤ depth → (readers depth).level false n ls ≡ taken t [])
