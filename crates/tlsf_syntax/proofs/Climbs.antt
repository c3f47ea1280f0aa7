-- The worked rows.
use Rattle.std.proofs.Common.{◌≡◌, List, ◌∷◌, [], refl, codes}
use Rattle.tlsf_syntax.specs.declared.expr.Op.TheVariants as op
use Rattle.tlsf_tokens.specs.declared.symbol.Symbol.TheVariants as symbol
use Rattle.tlsf_syntax.specs.Tree.{Tree, named, pair, link, no_links}
use Rattle.tlsf_syntax.specs.Lexemes.{Lexeme}
use Rattle.tlsf_syntax.specs.declared.level.Level.TheVariants.{Primary, Quotients, Sums, Disjunctions, Implications, WeakUntils, Untils, Releases}
use Rattle.tlsf_syntax.specs.Expressions.{Derives, of_name, of_tighter, of_chain, of_right, of_link, of_no_link}
use Rattle.tlsf_syntax.proofs.Starts.{climb}
use Rattle.tlsf_syntax.specs.Rows.{at, name_at, sign_at, UntilBindsLooser, MinusIsOneChain, RowsDerive}

name : (l : Lexeme) → l.symbol ≡ symbol.Ident → Derives Primary (l ∷ []) (named (record { start = l.start; end = l.end }) l.text)
name l e = of_name l e

pub until_row : UntilBindsLooser
until_row =
    let a : Lexeme = name_at 0 (codes "a") in
    let b : Lexeme = name_at 5 (codes "b") in
    let c : Lexeme = name_at 9 (codes "c") in
    let x : Tree = named (at 0 1) (codes "a") in
    let y : Tree = named (at 5 6) (codes "b") in
    let z : Tree = named (at 9 10) (codes "c") in
    let implies : Lexeme = sign_at 2 (codes "->") symbol.Implies 4 in
    let until : Lexeme = sign_at 7 (codes "U") symbol.Until 8 in
    of_tighter Untils Releases (a ∷ implies ∷ b ∷ until ∷ c ∷ []) (pair (at 0 10) op.Until (pair (at 0 6) op.Implies x y) z) refl
    (of_right WeakUntils Untils until (a ∷ implies ∷ b ∷ []) (c ∷ []) (pair (at 0 6) op.Implies x y) z op.Until refl refl
    (of_tighter Implications WeakUntils (a ∷ implies ∷ b ∷ []) (pair (at 0 6) op.Implies x y) refl
    (of_right Disjunctions Implications implies (a ∷ []) (b ∷ []) x y op.Implies refl refl (climb 11 Primary Disjunctions (a ∷ []) x refl (name a refl)) refl
    (climb 12 Primary Implications (b ∷ []) y refl (name b refl))))
    refl (climb 14 Primary Untils (c ∷ []) z refl (name c refl)))

pub minus_row : MinusIsOneChain
minus_row =
    let a : Lexeme = name_at 0 (codes "a") in
    let b : Lexeme = name_at 4 (codes "b") in
    let c : Lexeme = name_at 8 (codes "c") in
    let x : Tree = named (at 0 1) (codes "a") in
    let y : Tree = named (at 4 5) (codes "b") in
    let z : Tree = named (at 8 9) (codes "c") in
    let first : Lexeme = sign_at 2 (codes "-") symbol.Minus 3 in
    let second : Lexeme = sign_at 6 (codes "-") symbol.Minus 7 in
    let all : List Lexeme = a ∷ first ∷ b ∷ second ∷ c ∷ [] in
    climb 12 Sums Releases all _ refl
    (of_chain Quotients Sums (a ∷ []) (first ∷ b ∷ second ∷ c ∷ []) x y op.Minus (link op.Minus z no_links) refl refl (climb 2 Primary Quotients (a ∷ []) x refl (name a refl))
    (of_link Quotients Sums first (b ∷ []) (second ∷ c ∷ []) y op.Minus (link op.Minus z no_links) refl refl (climb 2 Primary Quotients (b ∷ []) y refl (name b refl))
    (of_link Quotients Sums second (c ∷ []) [] z op.Minus no_links refl refl (climb 2 Primary Quotients (c ∷ []) z refl (name c refl)) (of_no_link Sums))))

pub rows : RowsDerive
rows = record { until = until_row; minus = minus_row }
