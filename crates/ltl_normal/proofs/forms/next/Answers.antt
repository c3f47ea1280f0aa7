use Rattle.std.proofs.Common.{◌≡◌, sym, ap, ◌∙◌}
use Rattle.std.proofs.lemmas.Option.{get_or_from_slice_get}
use Rattle.ltl_formula.specs.declared.nodes.Node.TheVariants.{False, Next}
use Rattle.ltl_formula.specs.Added.{added}
use Rattle.ltl_normal.specs.Simplify.{constant_of}
use Rattle.ltl_normal.specs.NormalNodes.{next_step, next_id, constant_at}
use Rattle.ltl_normal.proofs.Performing.{Performs-add, Performs-gives, Performs-like}
use Rattle.ltl_normal.proofs.forms.next.Goals as goal

pub returns-in-Some : goal.returns-in-Some
returns-in-Some c =
    let now = c.args.formulas.now in
    let e : constant_at now c.args.a ≡ constant_of c.node.result = ap constant_of (get_or_from_slice_get now c.args.a.0 c.node.result False c.node.ensures.value) in
    Performs-gives (next_id c.args.most c.args.a) now c.args.a c.node.ensures.list c.requires (ap (λ o. next_step c.args.most o c.args.a now) (e ∙ sym c.in-Some.ensures))

pub returns-in-None : goal.returns-in-None
returns-in-None c =
    let now = c.args.formulas.now in
    let e : constant_at now c.args.a ≡ constant_of c.node.result = ap constant_of (get_or_from_slice_get now c.args.a.0 c.node.result False c.node.ensures.value) in
    Performs-like (next_id c.args.most c.args.a) (λ ns. added c.args.most ns (Next c.args.a)) now c.add.new.self c.add.result (ap (λ o. next_step c.args.most o c.args.a now) (e ∙ sym c.in-None.ensures))
    (Performs-add c.args.most (Next c.args.a) now c.add.new.self c.add.result c.add.ensures.ok c.add.ensures.too_many c.add.ensures.err c.add.ensures.stands c.add.ensures.grows c.add.ensures.list)
