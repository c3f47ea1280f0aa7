-- The grammar of expressions of TLSF, full format: the levels from the tightest to the loosest, one case a line.
-- How tightly operators bind is this project's own choice where TLSF 1.1 leaves one.
use Rattle.std.specs.Prelude.{◌≡◌, Bool, true, false, List, [], ◌∷◌, ◌++◌, Option, None, Some}
use Rattle.tlsf_syntax.specs.declared.expr.Op.{Op}
use Rattle.tlsf_syntax.specs.declared.expr.Op.TheVariants as op
use Rattle.tlsf_syntax.specs.declared.level.Level.{Level}
use Rattle.tlsf_syntax.specs.declared.level.Level.TheVariants.{Primary, Products, Quotients, Sums, Differences, Meets, Unions, Comparisons, Memberships, Prefixes, Conjunctions, Disjunctions, Implications, WeakUntils, Untils, Releases}
use Rattle.tlsf_syntax.specs.declared.level.Joins.{Joins}
use Rattle.tlsf_syntax.specs.declared.level.Joins.TheVariants as joins
use Rattle.tlsf_tokens.specs.declared.symbol.Symbol.{Symbol}
use Rattle.tlsf_tokens.specs.declared.symbol.Symbol.TheVariants as symbol
use Rattle.tlsf_syntax.specs.Tree.{Tree, Trees, Links, Ranges, tree_span, number, truth, named, call, index, size_of, paren, set, steps, chain, pair, prefix, count, window, big, no_trees, tree, no_links, link, no_ranges, members, between}
use Rattle.tlsf_syntax.specs.Lexemes.{Lexeme, Is, word_of, span_of, literal_of}

-- the level that a level is built of
abbrev pub tighter_of : Level → Option Level
tighter_of Primary = None
tighter_of Products = Some Primary
tighter_of Quotients = Some Products
tighter_of Sums = Some Quotients
tighter_of Differences = Some Sums
tighter_of Meets = Some Differences
tighter_of Unions = Some Meets
tighter_of Comparisons = Some Unions
tighter_of Memberships = Some Comparisons
tighter_of Prefixes = Some Memberships
tighter_of Conjunctions = Some Prefixes
tighter_of Disjunctions = Some Conjunctions
tighter_of Implications = Some Disjunctions
tighter_of WeakUntils = Some Implications
tighter_of Untils = Some WeakUntils
tighter_of Releases = Some Untils

-- how the operators of a level join their operands
abbrev pub joins_of : Level → Joins
joins_of Primary = joins.None
joins_of Comparisons = joins.Once
joins_of Memberships = joins.Once
joins_of Prefixes = joins.None
joins_of Implications = joins.Right
joins_of WeakUntils = joins.Right
joins_of Untils = joins.Right
joins_of _ = joins.Left

-- the operators between operands, each with its level
abbrev pub operator_of : Symbol → Option (Level × Op)
operator_of symbol.Star = Some (Products, op.Mul)
operator_of symbol.Slash = Some (Quotients, op.Div)
operator_of symbol.Percent = Some (Quotients, op.Rem)
operator_of symbol.Plus = Some (Sums, op.Plus)
operator_of symbol.Minus = Some (Sums, op.Minus)
operator_of symbol.Difference = Some (Differences, op.Difference)
operator_of symbol.Meet = Some (Meets, op.Meet)
operator_of symbol.Join = Some (Unions, op.Join)
operator_of symbol.Equal = Some (Comparisons, op.Equal)
operator_of symbol.Unequal = Some (Comparisons, op.Unequal)
operator_of symbol.Less = Some (Comparisons, op.Less)
operator_of symbol.LessEqual = Some (Comparisons, op.LessEqual)
operator_of symbol.Greater = Some (Comparisons, op.Greater)
operator_of symbol.GreaterEqual = Some (Comparisons, op.GreaterEqual)
operator_of symbol.In = Some (Memberships, op.Element)
operator_of symbol.And = Some (Conjunctions, op.And)
operator_of symbol.Or = Some (Disjunctions, op.Or)
operator_of symbol.Implies = Some (Implications, op.Implies)
operator_of symbol.Equiv = Some (Implications, op.Equiv)
operator_of symbol.WeakUntil = Some (WeakUntils, op.WeakUntil)
operator_of symbol.Until = Some (Untils, op.Until)
operator_of symbol.Release = Some (Releases, op.Release)
operator_of _ = None

-- the signs that stand before one operand
abbrev pub prefix_of : Symbol → Option Op
prefix_of symbol.Not = Some op.Not
prefix_of symbol.Next = Some op.Next
prefix_of symbol.Finally = Some op.Finally
prefix_of symbol.Globally = Some op.Globally
prefix_of _ = None

-- the signs that stand before a window of steps
abbrev pub window_of : Symbol → Option Op
window_of symbol.Finally = Some op.Finally
window_of symbol.Globally = Some op.Globally
window_of _ = None

-- the signs of big operators
abbrev pub big_of : Symbol → Option Op
big_of symbol.And = Some op.And
big_of symbol.Or = Some op.Or
big_of _ = None

-- the signs round the name of a range, and whether the bound is strict
abbrev pub bound_of : Symbol → Option Bool
bound_of symbol.Less = Some true
bound_of symbol.LessEqual = Some false
bound_of _ = None

mutual
  -- `Derives n ls t`: the level n derives the lexemes with this tree. A level without its operator makes no node.
  pub data Derives : Level → List Lexeme → Tree → Type 0 where
    -- primaries
    of_number : (l : Lexeme) → Is symbol.Number l → Derives Primary (l ∷ []) (number (span_of (l ∷ [])) (literal_of l.text))
    of_true : (l : Lexeme) → Is symbol.True l → Derives Primary (l ∷ []) (truth (span_of (l ∷ [])) true)
    of_false : (l : Lexeme) → Is symbol.False l → Derives Primary (l ∷ []) (truth (span_of (l ∷ [])) false)
    of_name : (l : Lexeme) → Is symbol.Ident l → Derives Primary (l ∷ []) (named (span_of (l ∷ [])) l.text)
    of_call : (l before after : Lexeme) (ls : List Lexeme) (first : Tree) (more : Trees) → Is symbol.Ident l → Is symbol.OpenParen before → DerivesList ls (tree first more)
        → Is symbol.CloseParen after → Derives Primary (l ∷ before ∷ ls ++ after ∷ []) (call (span_of (l ∷ before ∷ ls ++ after ∷ [])) (word_of l) (tree first more))
    of_index : (l before after : Lexeme) (ls : List Lexeme) (t : Tree) → Is symbol.Ident l → Is symbol.OpenBracket before → Derives Releases ls t
        → Is symbol.CloseBracket after → Derives Primary (l ∷ before ∷ ls ++ after ∷ []) (index (span_of (l ∷ before ∷ ls ++ after ∷ [])) (word_of l) t)
    of_size : (l : Lexeme) (ls : List Lexeme) (t : Tree) → Is symbol.SizeOf l → Derives Primary ls t → Derives Primary (l ∷ ls) (size_of (span_of (l ∷ ls)) t)
    of_paren : (before after : Lexeme) (ls : List Lexeme) (t : Tree) → Is symbol.OpenParen before → Derives Releases ls t → Is symbol.CloseParen after
        → Derives Primary (before ∷ ls ++ after ∷ []) (paren (span_of (before ∷ ls ++ after ∷ [])) t)
    of_set : (before after : Lexeme) (ls : List Lexeme) (ts : Trees) → Is symbol.OpenBrace before → DerivesList ls ts → Is symbol.CloseBrace after
        → Derives Primary (before ∷ ls ++ after ∷ []) (set (span_of (before ∷ ls ++ after ∷ [])) ts)
    of_steps : (before comma dots after : Lexeme) (ls ms ns : List Lexeme) (t u v : Tree) → Is symbol.OpenBrace before → Derives Releases ls t → Is symbol.Comma comma → Derives Releases ms u
        → Is symbol.Dots dots → Derives Releases ns v → Is symbol.CloseBrace after
        → Derives Primary (before ∷ ls ++ comma ∷ ms ++ dots ∷ ns ++ after ∷ []) (steps (span_of (before ∷ ls ++ comma ∷ ms ++ dots ∷ ns ++ after ∷ [])) t u v)
    -- each level is built of the one above it
    of_tighter : (n m : Level) (ls : List Lexeme) (t : Tree) → tighter_of m ≡ Some n → Derives n ls t → Derives m ls t
    of_chain : (n m : Level) (ls ms : List Lexeme) (t u : Tree) (o : Op) (more : Links) → tighter_of m ≡ Some n → joins_of m ≡ joins.Left → Derives n ls t → DerivesLinks m ms (link o u more)
        → Derives m (ls ++ ms) (chain (span_of (ls ++ ms)) t (link o u more))
    of_once : (n m : Level) (l : Lexeme) (ls ms : List Lexeme) (t u : Tree) (o : Op) → tighter_of m ≡ Some n → joins_of m ≡ joins.Once → Derives n ls t → operator_of l.symbol ≡ Some (m, o)
        → Derives n ms u → Derives m (ls ++ l ∷ ms) (pair (span_of (ls ++ l ∷ ms)) o t u)
    of_right : (n m : Level) (l : Lexeme) (ls ms : List Lexeme) (t u : Tree) (o : Op) → tighter_of m ≡ Some n → joins_of m ≡ joins.Right → Derives n ls t → operator_of l.symbol ≡ Some (m, o)
        → Derives m ms u → Derives m (ls ++ l ∷ ms) (pair (span_of (ls ++ l ∷ ms)) o t u)
    -- signs before an operand
    of_prefix : (l : Lexeme) (ls : List Lexeme) (t : Tree) (o : Op) → prefix_of l.symbol ≡ Some o → Derives Prefixes ls t → Derives Prefixes (l ∷ ls) (prefix (span_of (l ∷ ls)) o t)
    of_count : (l before after : Lexeme) (ls ms : List Lexeme) (t u : Tree) → Is symbol.Next l → Is symbol.OpenBracket before → Derives Releases ls t → Is symbol.CloseBracket after → Derives Prefixes ms u
        → Derives Prefixes (l ∷ before ∷ ls ++ after ∷ ms) (count (span_of (l ∷ before ∷ ls ++ after ∷ ms)) t u)
    of_window : (l before colon after : Lexeme) (ls ms ns : List Lexeme) (t u v : Tree) (o : Op) → window_of l.symbol ≡ Some o → Is symbol.OpenBracket before → Derives Releases ls t
        → Is symbol.Colon colon → Derives Releases ms u → Is symbol.CloseBracket after → Derives Prefixes ns v
        → Derives Prefixes (l ∷ before ∷ ls ++ colon ∷ ms ++ after ∷ ns) (window (span_of (l ∷ before ∷ ls ++ colon ∷ ms ++ after ∷ ns)) o t u v)
    of_big : (l before after : Lexeme) (ls ms : List Lexeme) (rs : Ranges) (t : Tree) (o : Op) → big_of l.symbol ≡ Some o → Is symbol.OpenBracket before → DerivesRanges ls rs
        → Is symbol.CloseBracket after → Derives Prefixes ms t → Derives Prefixes (l ∷ before ∷ ls ++ after ∷ ms) (big (span_of (l ∷ before ∷ ls ++ after ∷ ms)) o rs t)

  -- no expression, or some with commas between
  pub data DerivesList : List Lexeme → Trees → Type 0 where
    of_none : DerivesList [] no_trees
    of_last : (ls : List Lexeme) (t : Tree) → Derives Releases ls t → DerivesList ls (tree t no_trees)
    of_more : (comma : Lexeme) (ls ms : List Lexeme) (t u : Tree) (more : Trees) → Derives Releases ls t → Is symbol.Comma comma → DerivesList ms (tree u more)
        → DerivesList (ls ++ comma ∷ ms) (tree t (tree u more))

  -- operators of the level, each with an operand of the level above it
  pub data DerivesLinks : Level → List Lexeme → Links → Type 0 where
    of_no_link : (m : Level) → DerivesLinks m [] no_links
    of_link : (n m : Level) (l : Lexeme) (ls ms : List Lexeme) (t : Tree) (o : Op) (more : Links) → tighter_of m ≡ Some n → operator_of l.symbol ≡ Some (m, o) → Derives n ls t
        → DerivesLinks m ms more → DerivesLinks m (l ∷ ls ++ ms) (link o t more)

  -- one or more ranges with commas between
  pub data DerivesRanges : List Lexeme → Ranges → Type 0 where
    of_members : (l sign : Lexeme) (ls ms : List Lexeme) (t : Tree) (more : Ranges) → Is symbol.Ident l → Is symbol.In sign → Derives Releases ls t → DerivesMoreRanges ms more
        → DerivesRanges (l ∷ sign ∷ ls ++ ms) (members (word_of l) t more)
    of_between : (low_sign l high_sign : Lexeme) (ls ms ns : List Lexeme) (t u : Tree) (low high : Bool) (more : Ranges) → Derives Sums ls t → bound_of low_sign.symbol ≡ Some low
        → Is symbol.Ident l → bound_of high_sign.symbol ≡ Some high → Derives Sums ms u → DerivesMoreRanges ns more
        → DerivesRanges (ls ++ low_sign ∷ l ∷ high_sign ∷ ms ++ ns) (between t low (word_of l) high u more)

  pub data DerivesMoreRanges : List Lexeme → Ranges → Type 0 where
    of_no_range : DerivesMoreRanges [] no_ranges
    of_range : (comma : Lexeme) (ls : List Lexeme) (rs : Ranges) → Is symbol.Comma comma → DerivesRanges ls rs → DerivesMoreRanges (comma ∷ ls) rs

-- the span of each expression runs from its first byte to the byte after its last
abbrev pub SpansAreWhole : Type 0
SpansAreWhole = (n : Level) (ls : List Lexeme) (t : Tree) → Derives n ls t → tree_span t ≡ span_of ls
