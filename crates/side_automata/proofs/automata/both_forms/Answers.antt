use Rattle.std.proofs.Common.{Err, ap}
use Rattle.ltl_formula.specs.Nodes.{tree_at}
use Rattle.ltl_formula.proofs.ListSignals.{KeepsSignals-trans}
use Rattle.ltl_formula.proofs.Trees.{tree_at-grown}
use Rattle.side_automata.proofs.Sides.{forms_made, negated_form, no_normal, normal_form, node_fault}
use Rattle.side_automata.proofs.automata.both_forms.Goals as goal
use Rattle.side_automata.proofs.automata.both_forms.Goals.{In-Err-normal, In-Ok-normal}

-- src/automata.rt:72:23
pub returns-in-Err-normal-clause-too_many : goal.returns-in-Err-normal-clause-too_many
returns-in-Err-normal-clause-too_many c e =
    no_normal (tree_at c.args.formulas.now c.args.whole) c.args.formulas.now c.negated.new.formulas c.in-Ok.id c.in-Ok.ensures.ok c.normal.new.formulas (tree_at c.negated.new.formulas c.args.whole)
    (tree_at-grown c.args.formulas.now c.negated.new.formulas c.args.whole c.negated.ensures.grows c.requires) (c.in-Err-normal.ensures.too_many (ap Err (node_fault c.in-Err-normal.fault _ c.fault_of-in-Err-normal.ensures e)))

-- src/automata.rt:56:1
pub returns-clause-made : goal.returns-clause-made
returns-clause-made c =
    forms_made (tree_at c.args.formulas.now c.args.whole) c.args.formulas.now c.negated.new.formulas c.in-Ok.id c.in-Ok.ensures.ok c.normal.new.formulas c.in-Ok-normal.id (tree_at c.negated.new.formulas c.args.whole)
    (tree_at-grown c.args.formulas.now c.negated.new.formulas c.args.whole c.negated.ensures.grows c.requires) c.in-Ok-normal.ensures.ok

-- src/automata.rt:56:1
pub returns-clause-negated : goal.returns-clause-negated
returns-clause-negated c =
    negated_form (tree_at c.args.formulas.now c.args.whole) c.negated.new.formulas c.normal.new.formulas c.in-Ok.id c.normal.ensures.grows c.in-Ok.ensures.stands c.in-Ok.ensures.shape c.in-Ok.ensures.truth

-- src/automata.rt:56:1
pub returns-clause-normal : goal.returns-clause-normal
returns-clause-normal c =
    normal_form (tree_at c.args.formulas.now c.args.whole) (tree_at c.negated.new.formulas c.args.whole) c.normal.new.formulas c.in-Ok-normal.id
    (tree_at-grown c.args.formulas.now c.negated.new.formulas c.args.whole c.negated.ensures.grows c.requires) c.in-Ok-normal.ensures.stands c.in-Ok-normal.ensures.shape c.in-Ok-normal.ensures.truth

pub returns-clause-signals : goal.returns-clause-signals
returns-clause-signals c = KeepsSignals-trans c.args.formulas.now c.negated.new.formulas c.normal.new.formulas c.in-Ok.ensures.signals c.in-Ok-normal.ensures.signals
