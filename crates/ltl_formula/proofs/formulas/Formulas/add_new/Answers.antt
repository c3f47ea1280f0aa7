use Rattle.std.proofs.Common.{length, arith}
use Rattle.ltl_formula.proofs.Lists.{IsNodeList-append, room_below}
use Rattle.ltl_formula.proofs.formulas.Formulas.add_new.Goals as goal

pub invariant_of-self-2 : goal.invariant_of-self-2
invariant_of-self-2 c =
    rw c.in_ok-insert_absent.ensures.ok
    (IsNodeList-append c.self.inside.nodes.keys c.args.node c.self.invariant
    (rw c.self.view_is c.requires.parts) c.requires.signal (rw c.self.view_is c.requires.absent) (room_below c.args.most (length c.self.inside.nodes.keys) (omega arith)))

pub returns-clause-list : goal.returns-clause-list
returns-clause-list c = invariant_of-self-2 c
