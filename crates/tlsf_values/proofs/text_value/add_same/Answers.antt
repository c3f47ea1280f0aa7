use Rattle.std.proofs.Common.{sym, ap, ◌∙◌}
use Rattle.ltl_formula.specs.declared.nodes.TheConstants.{MAX_NODES}
use Rattle.ltl_formula.specs.Added.{added}
use Rattle.tlsf_values.proofs.CopyLemmas.{node_found, signal_found, added-take}
use Rattle.tlsf_values.proofs.text_value.add_same.Goals as goal

pub add-requires-clause-signal : goal.add-requires-clause-signal
add-requires-clause-signal c = signal_found c.args.formulas.now c.args.id.0 c.node.result c.node.ensures.list c.node.ensures.value

pub returns-in-Ok : goal.returns-in-Ok
returns-in-Ok c =
    ap (λ b. b.nodes)
    (sym c.in-Ok.ensures.ok ∙ ap (λ xs. added MAX_NODES xs c.node.result) c.requires.before
    ∙ added-take c.args.formulas.now c.args.id.0 c.node.result c.node.ensures.list c.requires.stands (node_found c.args.formulas.now c.args.id.0 c.node.result c.node.ensures.value))
