-- The forms of the code's tree as plain ones: a form without a row computes, and rows of expressions, links and ranges are lists.
use Rattle.std.proofs.Common.{◌≡◌, refl, ap, ◌∙◌, Vec, Box, Global}
use mathlib.Core.Former.{Count}
use Rattle.tlsf_syntax.specs.declared.expr.Expr.{Expr}
use Rattle.tlsf_syntax.specs.declared.expr.Form as form
use Rattle.tlsf_syntax.specs.declared.expr.Link.{Link}
use Rattle.tlsf_syntax.specs.declared.expr.Op.{Op}
use Rattle.tlsf_syntax.specs.declared.expr.Range.{Range}
use Rattle.tlsf_syntax.specs.declared.expr.Span.{Span}
use Rattle.tlsf_syntax.specs.declared.expr.Word.{Word}
use Rattle.tlsf_syntax.specs.Tree as plain
use Rattle.tlsf_syntax.specs.Seen.{form_seen, expr_seen, word_seen, row_seen, links_seen, range_seen, ranges_seen, trees_seen, link_list_seen, range_list_seen}
use Rattle.tlsf_syntax.specs.Tree.{tree_span}

-- ---- rows as they lie in memory

rows : (n : _) (row : form.Row_of-Expr n) → row_seen row ≡ trees_seen (form.items-the_row-Expr n row)
rows n form.end_of-Expr = refl
rows n (form.more_of-Expr s f row) = ap (plain.tree (form_seen s f)) (rows _ row)

link_rows : (n : _) (row : form.Row_of-Link n) → links_seen row ≡ link_list_seen (form.items-the_row-Link n row)
link_rows n form.end_of-Link = refl
link_rows n (form.more_of-Link o s f row) = ap (plain.link o (form_seen s f)) (link_rows _ row)

range_rows : (n : _) (row : form.Row_of-Range n) → ranges_seen row ≡ range_list_seen (form.items-the_row-Range n row)
range_rows n form.end_of-Range = refl
range_rows n (form.more_of-Range r row) = ap (range_seen r) (range_rows _ row)

abbrev row_of : form.Form → (n : Count) × form.Row_of-Expr n
row_of (form.Call' w _ row) = (_, row)
row_of (form.Set' _ row) = (_, row)
row_of _ = (_, form.end_of-Expr)

abbrev links_of : form.Form → (n : Count) × form.Row_of-Link n
links_of (form.Chain' p s f _ row) = (_, row)
links_of _ = (_, form.end_of-Link)

abbrev ranges_of : form.Form → (n : Count) × form.Row_of-Range n
ranges_of (form.Big' o _ row p s f) = (_, row)
ranges_of _ = (_, form.end_of-Range)

-- ---- forms as code makes them

pub call_seen : (s : Span) (w : Word) (v : Vec Expr Global) → form_seen s (form.Call w v) ≡ plain.call s (word_seen w) (trees_seen v.items)
call_seen s w v =
    let row = row_of (form.Call w v) in
    ap (plain.call s (word_seen w)) (rows row.0 row.1 ∙ ap trees_seen (form.items_hidden-the_row-Expr-0 v))

pub set_seen : (s : Span) (v : Vec Expr Global) → form_seen s (form.Set v) ≡ plain.set s (trees_seen v.items)
set_seen s v =
    let row = row_of (form.Set v) in
    ap (plain.set s) (rows row.0 row.1 ∙ ap trees_seen (form.items_hidden-the_row-Expr-0 v))

pub chain_seen : (s : Span) (b : Box Expr Global) (v : Vec Link Global) → form_seen s (form.Chain b v) ≡ plain.chain s (expr_seen b.value) (link_list_seen v.items)
chain_seen s b v =
    let row = links_of (form.Chain b v) in
    ap (plain.chain s (expr_seen b.value)) (link_rows row.0 row.1 ∙ ap link_list_seen (form.items_hidden-the_row-Link-1 v))

pub big_seen : (s : Span) (o : Op) (v : Vec Range Global) (b : Box Expr Global) → form_seen s (form.Big o v b) ≡ plain.big s o (range_list_seen v.items) (expr_seen b.value)
big_seen s o v b =
    let row = ranges_of (form.Big o v b) in
    ap (λ rs. plain.big s o rs (expr_seen b.value)) (range_rows row.0 row.1 ∙ ap range_list_seen (form.items_hidden-the_row-Range-2 v))

-- ---- where an expression stands

pub span_seen : (s : Span) (f : form.Form) → tree_span (form_seen s f) ≡ s
span_seen s (form.Number n) = refl
span_seen s (form.Truth b) = refl
span_seen s (form.Named name) = refl
span_seen s (form.Call' w shape row) = refl
span_seen s (form.Index' w p t f) = refl
span_seen s (form.SizeOf' p t f) = refl
span_seen s (form.Paren' p t f) = refl
span_seen s (form.Set' shape row) = refl
span_seen s (form.Steps' p t f q u g r v h) = refl
span_seen s (form.Chain' p t f shape row) = refl
span_seen s (form.Pair' o p t f q u g) = refl
span_seen s (form.Prefix' o p t f) = refl
span_seen s (form.Count' p t f q u g) = refl
span_seen s (form.Window' o p t f q u g r v h) = refl
span_seen s (form.Big' o shape row p t f) = refl
