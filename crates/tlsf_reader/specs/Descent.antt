-- What the descent answers, against the grammar's reader on lists.
use Rattle.std.specs.Prelude.{◌≡◌, ◌≤◌, ℕ, Bool, true, false, ◌&&◌, List, [], ◌∷◌, length, drop, Option, None, Some, Result, Ok, Err, MatchResult}
use Rattle.std.specs.declared.alloc.Global.{Global}
use Rattle.std.specs.declared.vec.Vec.{Vec}
use Rattle.tlsf_syntax.specs.declared.expr.Expr.{Expr}
use Rattle.tlsf_syntax.specs.declared.expr.Link.{Link}
use Rattle.tlsf_syntax.specs.declared.expr.Range.{Range}
use Rattle.tlsf_tokens.specs.declared.symbol.Symbol.{Symbol}
use Rattle.tlsf_syntax.specs.Tree.{Tree, Trees, Links, Ranges, paren, tree, link}
use Rattle.tlsf_syntax.specs.Lexemes.{Lexeme}
use Rattle.tlsf_syntax.specs.Symbols.{symbol_eq}
use Rattle.tlsf_syntax.specs.declared.level.Level.{Level}
use Rattle.tlsf_syntax.specs.declared.level.Level.TheVariants.{Releases}
use Rattle.tlsf_syntax.specs.declared.level.Joins.{Joins}
use Rattle.tlsf_syntax.specs.declared.level.Joins.TheVariants as joins
use Rattle.tlsf_syntax.specs.Expressions.{bound_of}
use Rattle.tlsf_syntax.specs.Reading.{Answer, taken, refused, go_on, begins, expect, from_to, operator_here, chain_of, joined_by, Readers, readers, prefix_with, prefixed, counted, windowed, big_with, ranges_with, more_ranges}
use Rattle.tlsf_reader.specs.declared.lexeme.Lexeme.{Lexeme as CodeLexeme}
use Rattle.tlsf_reader.specs.declared.rest.Refusal.{Refusal}
use Rattle.tlsf_reader.specs.declared.rest.Refusal.TheVariants.{NoMemory, At}
use Rattle.tlsf_tokens.specs.declared.symbol.Symbol.TheVariants as symbol
use Rattle.tlsf_reader.specs.declared.ahead.Sign.{Sign}
use Rattle.tlsf_reader.specs.declared.ahead.SignKind.{SignKind}
use Rattle.tlsf_reader.specs.declared.ahead.SignKind.TheVariants.{Plain, Counted, Windowed, Big}
use Rattle.tlsf_reader.specs.Seen.{seen}
use Rattle.tlsf_syntax.specs.Seen.{expr_seen, trees_seen, range_list_seen, range_seen}

-- readers that go deep enough answer this
pub record Eventually {A : Type 0} (f : ℕ → Answer A) (a : Answer A) : Type 0 where
  pub from : ℕ
  pub reads : (depth : ℕ) → from ≤ depth → f depth ≡ a

-- What was read, or refused, is what readers that go deep enough read or refuse; these lexemes are left. Where memory is
-- wanting, nothing is said.
pub record IsRead {X A : Type 0} (view : X → A) (f : ℕ → Answer A) (after : List Lexeme) (result : Result X Refusal) : Type 0 where
  pub ok : (x : X) → result ≡ Ok x → Eventually f (taken (view x) after)
  pub err : (k : ℕ) → result ≡ Err (At k) → Eventually f (refused k)

-- the value was made, or memory is wanting
abbrev pub IsBuilt : {X A : Type 0} → (X → A) → A → Result X Refusal → Type 0
IsBuilt view value result = MatchResult result (λ x. view x ≡ value) (λ e. e ≡ NoMemory)

-- the lexeme in front has this symbol, and is passed
pub record Passes (s : Symbol) (before : List Lexeme) (l : Lexeme) (after : List Lexeme) : Type 0 where
  pub front : before ≡ l ∷ after
  pub symbol : symbol_eq l.symbol s ≡ true

-- the lexeme in front, if there is one, has another symbol
pub record Lacks (s : Symbol) (before : List Lexeme) (after : List Lexeme) : Type 0 where
  pub other : begins s before ≡ false
  pub same : after ≡ before

abbrev pub IsNextIf : Symbol → List Lexeme → List Lexeme → Option CodeLexeme → Type 0
IsNextIf s before after None = Lacks s before after
IsNextIf s before after (Some l) = Passes s before (seen l) after

pub record Unexpected (s : Symbol) (before : List Lexeme) (e : Refusal) : Type 0 where
  pub other : begins s before ≡ false
  pub is : e ≡ At (length before)

abbrev pub IsExpected : Symbol → List Lexeme → List Lexeme → Result CodeLexeme Refusal → Type 0
IsExpected s before after (Ok l) = Passes s before (seen l) after
IsExpected s before after (Err e) = Unexpected s before e

abbrev pub IsLexemeTaken : List Lexeme → List Lexeme → Option CodeLexeme → Type 0
IsLexemeTaken before after None = before ≡ []
IsLexemeTaken before after (Some l) = before ≡ seen l ∷ after

-- what a sign before an operand begins
abbrev pub signed_by : Readers → Bool → SignKind → Lexeme → List Lexeme → Answer Tree
signed_by r ends (Plain o) l ls = prefixed r ends o l ls
signed_by r ends Counted l ls = counted r ends l ls
signed_by r ends (Windowed o) l ls = windowed r ends o l ls
signed_by r ends (Big o) l ls = big_with r ends o l ls

-- the bracket that belongs to a sign is passed
abbrev pub after_sign : SignKind → List Lexeme → List Lexeme
after_sign (Plain o) ls = ls
after_sign Counted ls = drop 1 ls
after_sign (Windowed o) ls = drop 1 ls
after_sign (Big o) ls = ls

-- whatever the readers are, this is what they go on with after the lexeme, or it is no sign before an operand
pub record Signs (l : Lexeme) (ls : List Lexeme) (kind : SignKind) : Type 0 where
  pub goes : (r : Readers) (ends : Bool) (n : Level) → prefix_with r ends n (l ∷ ls) ≡ signed_by r ends kind l (after_sign kind ls)

pub record Unsigned (ls : List Lexeme) : Type 0 where
  pub goes : (r : Readers) (ends : Bool) (n : Level) → prefix_with r ends n ls ≡ r.level ends n ls

abbrev pub IsSignKind : Lexeme → List Lexeme → Option SignKind → Type 0
IsSignKind l ls None = Unsigned (l ∷ ls)
IsSignKind l ls (Some kind) = Signs l ls kind

pub record SignedFront (before : List Lexeme) (after : List Lexeme) (s : Sign) : Type 0 where
  pub goes : (r : Readers) (ends : Bool) (n : Level) → prefix_with r ends n before ≡ signed_by r ends s.kind (seen s.first) after

abbrev pub IsSign : List Lexeme → List Lexeme → Option Sign → Type 0
IsSign before after None = Unsigned before
IsSign before after (Some s) = SignedFront before after s

-- the sign of a bound in front
abbrev pub bound_here : List Lexeme → Option Bool
bound_here [] = None
bound_here (l ∷ ls) = bound_of l.symbol

pub record Bounds (before : List Lexeme) (strict : Bool) (after : List Lexeme) : Type 0 where
  pub sign : Lexeme
  pub front : before ≡ sign ∷ after
  pub is : bound_of sign.symbol ≡ Some strict

pub record Unbounded (before : List Lexeme) (e : Refusal) : Type 0 where
  pub none : bound_here before ≡ None
  pub is : e ≡ At (length before)

abbrev pub IsBound : List Lexeme → List Lexeme → Result Bool Refusal → Type 0
IsBound before after (Ok strict) = Bounds before strict after
IsBound before after (Err e) = Unbounded before e

-- a name and `IN` in front
abbrev pub name_and_in : Lexeme → Lexeme → Bool
name_and_in l n = symbol_eq l.symbol symbol.Ident && symbol_eq n.symbol symbol.In

abbrev pub begins_members : List Lexeme → Bool
begins_members [] = false
begins_members (l ∷ []) = false
begins_members (l ∷ n ∷ ls) = name_and_in l n

pub record NamesMembers (before : List Lexeme) (l : Lexeme) (after : List Lexeme) : Type 0 where
  pub sign : Lexeme
  pub front : before ≡ l ∷ sign ∷ after
  pub is : name_and_in l sign ≡ true

pub record NamesNone (before : List Lexeme) (after : List Lexeme) : Type 0 where
  pub other : begins_members before ≡ false
  pub same : after ≡ before

abbrev pub IsNameIn : List Lexeme → List Lexeme → Option CodeLexeme → Type 0
IsNameIn before after None = NamesNone before after
IsNameIn before after (Some l) = NamesMembers before (seen l) after

-- what stands after an opening parenthesis
abbrev pub grouped_with : Readers → Lexeme → List Lexeme → Answer Tree
grouped_with r l ls = go_on (r.level false Releases ls) (λ t rest. expect symbol.CloseParen rest (λ last after. taken (paren (from_to l.start last.end) t) after))

abbrev pub list_seen : Vec Expr Global → Trees
list_seen v = trees_seen v.items

abbrev pub ranges_seen : Vec Range Global → Ranges
ranges_seen v = range_list_seen v.items

-- how an operand of a level goes on to the level m that is built of it
abbrev pub extended_by : Readers → Bool → Level → Level → Joins → Tree → List Lexeme → Answer Tree
extended_by r ends m n joins.Left t rest = go_on (r.links ends m rest) (λ more after. taken (chain_of t more) after)
extended_by r ends m n joins.Once t rest = joined_by (operator_here ends m rest) t rest (r.level ends n)
extended_by r ends m n joins.Right t rest = joined_by (operator_here ends m rest) t rest (r.level ends m)
extended_by r ends m n joins.None t rest = taken t rest

-- elements in front of what was read after them
abbrev pub onto : {E X : Type 0} → (E → X → X) → List E → X → X
onto put [] x = x
onto put (e ∷ es) x = put e (onto put es x)

-- with these elements in front, what the second reads is what the first reads
pub record Builds {E X : Type 0} (put : E → X → X) (f : ℕ → Answer X) (done : List E) (g : ℕ → Answer X) : Type 0 where
  pub ok : (x : X) (rest : List Lexeme) → Eventually g (taken x rest) → Eventually f (taken (onto put done x) rest)
  pub err : (k : ℕ) → Eventually g (refused k) → Eventually f (refused k)

abbrev pub put_tree : Expr → Trees → Trees
put_tree e more = tree (expr_seen e) more

abbrev pub put_link : Link → Links → Links
put_link l more = link l.op (expr_seen l.right) more

-- The range stands in front. What comes after it is what the readers go on with.
pub record IsRangeRead (before : List Lexeme) (after : List Lexeme) (result : Result Range Refusal) : Type 0 where
  pub ok : (x : Range) → result ≡ Ok x → (a : Answer Ranges) → Eventually (λ d. more_ranges (readers d) after (range_seen x)) a → Eventually (λ d. ranges_with (readers d) before) a
  pub err : (k : ℕ) → result ≡ Err (At k) → Eventually (λ d. ranges_with (readers d) before) (refused k)
