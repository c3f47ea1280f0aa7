-- Where an expression begins, its forms that have a list of parts, and how many parts there are.
use Rattle.std.proofs.Common.{◌≡◌, suc, List, [], ◌∷◌, length, refl, ap, ◌∙◌, Vec, Box, Global}
use Rattle.tlsf_syntax.specs.declared.expr.Word.{Word}
use Rattle.tlsf_syntax.specs.declared.expr.Expr.{Expr}
use Rattle.tlsf_syntax.specs.declared.expr.Link.{Link}
use Rattle.tlsf_syntax.specs.declared.expr.Op.{Op}
use Rattle.tlsf_syntax.specs.declared.expr.Range.{Range}
use Rattle.tlsf_syntax.specs.declared.expr.Form as form
use Rattle.tlsf_syntax.specs.Tree as plain
use Rattle.tlsf_syntax.specs.Tree.{tree_span}
use Rattle.tlsf_syntax.specs.Seen.{form_seen, expr_seen, word_seen, trees_seen, link_list_seen, range_list_seen}
use Rattle.tlsf_syntax.proofs.Seen.{call_seen, set_seen, chain_seen, big_seen, span_seen}
use Rattle.tlsf_values.specs.Values.{tree_count}

-- where an expression begins
pub start_seen : (e : Expr) → (tree_span (form_seen e.span e.form)).start ≡ e.span.start
start_seen e = ap (λ s. s.start) (span_seen e.span e.form)

pub set_form : (e : Expr) (v : Vec Expr Global) → e.form ≡ form.Set v → expr_seen e ≡ plain.set e.span (trees_seen v.items)
set_form e v is = ap (form_seen e.span) is ∙ set_seen e.span v

pub call_form : (e : Expr) (w : Word) (v : Vec Expr Global) → e.form ≡ form.Call w v → expr_seen e ≡ plain.call e.span (word_seen w) (trees_seen v.items)
call_form e w v is = ap (form_seen e.span) is ∙ call_seen e.span w v

pub chain_form : (e : Expr) (b : Box Expr Global) (v : Vec Link Global) → e.form ≡ form.Chain b v → expr_seen e ≡ plain.chain e.span (expr_seen b.value) (link_list_seen v.items)
chain_form e b v is = ap (form_seen e.span) is ∙ chain_seen e.span b v

pub big_form : (e : Expr) (o : Op) (v : Vec Range Global) (b : Box Expr Global) → e.form ≡ form.Big o v b → expr_seen e ≡ plain.big e.span o (range_list_seen v.items) (expr_seen b.value)
big_form e o v b is = ap (form_seen e.span) is ∙ big_seen e.span o v b

pub count_seen : (es : List Expr) → tree_count (trees_seen es) ≡ length es
count_seen [] = refl
count_seen (e ∷ es) = ap suc (count_seen es)
