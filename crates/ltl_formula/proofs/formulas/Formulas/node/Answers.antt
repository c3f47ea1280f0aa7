use Rattle.std.proofs.Common.{arith}
use Rattle.std.proofs.lemmas.Grind.{common_steps}
use Rattle.std.proofs.lemmas.Option.{gets}
use Rattle.ltl_formula.proofs.Lists.{tree_at-slice_get}
use Rattle.ltl_formula.proofs.formulas.Formulas.node.Goals as goal

pub returns-clause-tree : goal.returns-clause-tree
returns-clause-tree c = rw (← c.self.view_is) (tree_at-slice_get c.self.inside.nodes.keys _ c.args.id.0 c.self.invariant (grind (arith, common_steps, gets)))
