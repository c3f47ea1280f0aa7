use Rattle.std.proofs.Common.{sym}
use Rattle.ltl_formula.proofs.Lists.{found-stands, tree_at-slice_get, last-stands, last-tree}
use Rattle.ltl_formula.proofs.formulas.Formulas.add.Goals as goal

pub returns-in-Some-clause-stands : goal.returns-in-Some-clause-stands
returns-in-Some-clause-stands c = rw (← c.self.view_is) (found-stands c.self.inside.nodes.keys c.args.node c.in-Some.place (sym c.in-Some.ensures.index))

pub returns-in-Some-clause-tree : goal.returns-in-Some-clause-tree
returns-in-Some-clause-tree c =
    rw (← c.self.view_is)
    (tree_at-slice_get c.self.inside.nodes.keys c.args.node c.in-Some.place c.self.invariant
    (found-stands c.self.inside.nodes.keys c.args.node c.in-Some.place (sym c.in-Some.ensures.index)))

pub returns-in-None-clause-stands : goal.returns-in-None-clause-stands
returns-in-None-clause-stands c = last-stands c.args.most c.args.self.now c.add_new.new.self c.args.node c.add_new.result c.add_new.ensures.last c.add_new.ensures.grown

pub returns-in-None-clause-tree : goal.returns-in-None-clause-tree
returns-in-None-clause-tree c = last-tree c.args.most c.args.self.now c.add_new.new.self c.args.node c.add_new.result c.add_new.ensures.last c.add_new.ensures.grown
