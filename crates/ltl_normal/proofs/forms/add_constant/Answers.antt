use Rattle.std.proofs.Common.{ap}
use Rattle.ltl_formula.specs.declared.nodes.Node.TheVariants.{True, False}
use Rattle.ltl_formula.specs.Added.{added}
use Rattle.ltl_normal.specs.NormalNodes.{constant_node, nodes_to}
use Rattle.ltl_normal.proofs.Performing.{Performs-add, Performs-like}
use Rattle.ltl_normal.proofs.forms.add_constant.Goals as goal

pub returns-then-value : goal.returns-then-value
returns-then-value c =
    let now = c.args.formulas.now in
    Performs-like ((nodes_to c.args.most).constant c.args.value) (λ ns. added c.args.most ns True) now c.add.new.self c.add.result
    (ap (λ value. added c.args.most now (constant_node value)) c.if-value.true)
    (Performs-add c.args.most True now c.add.new.self c.add.result c.add.ensures.ok c.add.ensures.too_many c.add.ensures.err c.add.ensures.stands c.add.ensures.grows c.add.ensures.list)

pub returns-else-value : goal.returns-else-value
returns-else-value c =
    let now = c.args.formulas.now in
    let add = c.add-else-value in
    Performs-like ((nodes_to c.args.most).constant c.args.value) (λ ns. added c.args.most ns False) now add.new.self add.result
    (ap (λ value. added c.args.most now (constant_node value)) c.if-value.false)
    (Performs-add c.args.most False now add.new.self add.result add.ensures.ok add.ensures.too_many add.ensures.err add.ensures.stands add.ensures.grows add.ensures.list)
