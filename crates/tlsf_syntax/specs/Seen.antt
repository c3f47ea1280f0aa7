-- The code's written text as plain trees.
use Rattle.std.specs.Prelude.{List, [], ◌∷◌, map}
use Rattle.std.specs.Option.{option_map}
use Rattle.tlsf_syntax.specs.declared.expr.Span.{Span}
use Rattle.tlsf_syntax.specs.declared.expr.Word.{Word}
use Rattle.tlsf_syntax.specs.declared.expr.Expr.{Expr}
use Rattle.tlsf_syntax.specs.declared.expr.Form as form
use Rattle.tlsf_syntax.specs.declared.expr.Link.{Link}
use Rattle.tlsf_syntax.specs.declared.expr.Range as range
use Rattle.tlsf_syntax.specs.declared.spec.Alternative.{Alternative}
use Rattle.tlsf_syntax.specs.declared.spec.Body as body
use Rattle.tlsf_syntax.specs.declared.spec.Body.TheVariants as body_is
use Rattle.tlsf_syntax.specs.declared.spec.Member.{Member}
use Rattle.tlsf_syntax.specs.declared.spec.Pattern.{Pattern}
use Rattle.tlsf_syntax.specs.declared.spec.Definition.{Definition}
use Rattle.tlsf_syntax.specs.declared.spec.Definition.TheVariants.{Parameter, Function, Enumeration}
use Rattle.tlsf_syntax.specs.declared.spec.Declaration.{Declaration}
use Rattle.tlsf_syntax.specs.declared.spec.Info.{Info}
use Rattle.tlsf_syntax.specs.declared.spec.Shape.{Shape}
use Rattle.tlsf_syntax.specs.declared.spec.Shape.TheVariants.{Single, Bus, Typed}
use Rattle.tlsf_syntax.specs.declared.spec.SpecTree.{SpecTree}
use Rattle.tlsf_syntax.specs.Text as text
use Rattle.tlsf_syntax.specs.Tree as plain

abbrev pub word_seen : Word → plain.Named
word_seen w = record { name = w.name; span = w.span }

abbrev mutual
  pub form_seen : Span → form.Form → plain.Tree
  form_seen s (form.Number n) = plain.number s n
  form_seen s (form.Truth b) = plain.truth s b
  form_seen s (form.Named name) = plain.named s name
  form_seen s (form.Call' w shape row) = plain.call s (word_seen w) (row_seen row)
  form_seen s (form.Index' w p t f) = plain.index s (word_seen w) (form_seen t f)
  form_seen s (form.SizeOf' p t f) = plain.size_of s (form_seen t f)
  form_seen s (form.Paren' p t f) = plain.paren s (form_seen t f)
  form_seen s (form.Set' shape row) = plain.set s (row_seen row)
  form_seen s (form.Steps' p t f q u g r v h) = plain.steps s (form_seen t f) (form_seen u g) (form_seen v h)
  form_seen s (form.Chain' p t f shape row) = plain.chain s (form_seen t f) (links_seen row)
  form_seen s (form.Pair' o p t f q u g) = plain.pair s o (form_seen t f) (form_seen u g)
  form_seen s (form.Prefix' o p t f) = plain.prefix s o (form_seen t f)
  form_seen s (form.Count' p t f q u g) = plain.count s (form_seen t f) (form_seen u g)
  form_seen s (form.Window' o p t f q u g r v h) = plain.window s o (form_seen t f) (form_seen u g) (form_seen v h)
  form_seen s (form.Big' o shape row p t f) = plain.big s o (ranges_seen row) (form_seen t f)

  pub row_seen : {n : _} → form.Row_of-Expr n → plain.Trees
  row_seen form.end_of-Expr = plain.no_trees
  row_seen (form.more_of-Expr s f row) = plain.tree (form_seen s f) (row_seen row)

  pub links_seen : {n : _} → form.Row_of-Link n → plain.Links
  links_seen form.end_of-Link = plain.no_links
  links_seen (form.more_of-Link o s f row) = plain.link o (form_seen s f) (links_seen row)

  pub range_seen : range.Range → plain.Ranges → plain.Ranges
  range_seen (range.Members' w s f) more = plain.members (word_seen w) (form_seen s f) more
  range_seen (range.Between' s f low w high t g) more = plain.between (form_seen s f) low (word_seen w) high (form_seen t g) more

  pub ranges_seen : {n : _} → form.Row_of-Range n → plain.Ranges
  ranges_seen form.end_of-Range = plain.no_ranges
  ranges_seen (form.more_of-Range r row) = range_seen r (ranges_seen row)

-- an expression
abbrev pub expr_seen : Expr → plain.Tree
expr_seen e = form_seen e.span e.form

abbrev pub trees_seen : List Expr → plain.Trees
trees_seen [] = plain.no_trees
trees_seen (e ∷ es) = plain.tree (expr_seen e) (trees_seen es)

abbrev pub link_list_seen : List Link → plain.Links
link_list_seen [] = plain.no_links
link_list_seen (l ∷ ls) = plain.link l.op (expr_seen l.right) (link_list_seen ls)

abbrev pub range_list_seen : List range.Range → plain.Ranges
range_list_seen [] = plain.no_ranges
range_list_seen (r ∷ rs) = range_seen r (range_list_seen rs)

abbrev pub alternative_seen : Alternative → plain.Alternative
alternative_seen a = record { guard = option_map expr_seen a.guard; value = expr_seen a.value }

abbrev pub body_seen : body.Body → plain.Body
body_seen (body_is.Plain e) = plain.plain (expr_seen e)
body_seen (body_is.Guarded alternatives) = plain.guarded (map alternative_seen alternatives.items)

abbrev pub pattern_seen : Pattern → plain.Pattern
pattern_seen p = record { bits = p.bits.items; span = p.span }

abbrev pub member_seen : Member → plain.Member
member_seen m = record { word = word_seen m.word; values = map pattern_seen m.values.items }

abbrev pub definition_seen : Definition → plain.Definition
definition_seen (Parameter w e) = plain.parameter (word_seen w) (expr_seen e)
definition_seen (Function w words b) = plain.function (word_seen w) (map word_seen words.items) (body_seen b)
definition_seen (Enumeration w ms) = plain.enumeration (word_seen w) (map member_seen ms.items)

abbrev pub shape_seen : Shape → plain.Shape
shape_seen Single = plain.single
shape_seen (Bus e) = plain.bus (expr_seen e)
shape_seen (Typed w) = plain.typed (word_seen w)

abbrev pub declaration_seen : Declaration → plain.Declaration
declaration_seen d = record { word = word_seen d.word; shape = shape_seen d.shape }

abbrev pub info_seen : Info → text.Info
info_seen i =
    record { title = i.title; description = i.description; tags = map word_seen i.tags.items; semantics = i.semantics; strict = i.strict; target = i.target; target_at = i.target_at }

-- what a whole text says
abbrev pub text_seen : SpecTree → text.Text
text_seen t = record {
  info = info_seen t.info;
  definitions = map definition_seen t.definitions.items;
  inputs = map declaration_seen t.inputs.items;
  outputs = map declaration_seen t.outputs.items;
  sections = text.each_section (λ s. map expr_seen s.items) t.sections;
}
