-- Worked rows: expressions with their trees, written out by hand.
use Rattle.std.specs.Prelude.{ℕ, ◌+◌, List, [], ◌∷◌, codes}
use Rattle.tlsf_syntax.specs.declared.expr.Op.TheVariants as op
use Rattle.tlsf_syntax.specs.declared.expr.Span.{Span}
use Rattle.tlsf_tokens.specs.declared.symbol.Symbol.{Symbol}
use Rattle.tlsf_tokens.specs.declared.symbol.Symbol.TheVariants as symbol
use Rattle.tlsf_syntax.specs.Tree.{named, pair, chain, link, no_links}
use Rattle.tlsf_syntax.specs.Lexemes.{Lexeme}
use Rattle.tlsf_syntax.specs.declared.level.Level.TheVariants.{Releases}
use Rattle.tlsf_syntax.specs.Expressions.{Derives}

abbrev pub at : ℕ → ℕ → Span
at start end = record { start = start; end = end }

abbrev pub name_at : ℕ → List ℕ → Lexeme
name_at start text = record { symbol = symbol.Ident; text = text; start = start; end = start + 1 }

abbrev pub sign_at : ℕ → List ℕ → Symbol → ℕ → Lexeme
sign_at start text s end = record { symbol = s; text = text; start = start; end = end }

-- `a -> b U c` is `(a -> b) U c`
abbrev pub UntilBindsLooser : Type 0
UntilBindsLooser =
    Derives Releases
    (name_at 0 (codes "a") ∷ sign_at 2 (codes "->") symbol.Implies 4 ∷ name_at 5 (codes "b") ∷ sign_at 7 (codes "U") symbol.Until 8 ∷ name_at 9 (codes "c") ∷ [])
    (pair (at 0 10) op.Until (pair (at 0 6) op.Implies (named (at 0 1) (codes "a")) (named (at 5 6) (codes "b"))) (named (at 9 10) (codes "c")))

-- `a - b - c` is one node, to the left
abbrev pub MinusIsOneChain : Type 0
MinusIsOneChain =
    Derives Releases
    (name_at 0 (codes "a") ∷ sign_at 2 (codes "-") symbol.Minus 3 ∷ name_at 4 (codes "b") ∷ sign_at 6 (codes "-") symbol.Minus 7 ∷ name_at 8 (codes "c") ∷ [])
    (chain (at 0 9) (named (at 0 1) (codes "a")) (link op.Minus (named (at 4 5) (codes "b")) (link op.Minus (named (at 8 9) (codes "c")) no_links)))

-- the texts that show how tightly operators bind have these trees
pub record RowsDerive : Type 0 where
  pub until : UntilBindsLooser
  pub minus : MinusIsOneChain
