use Rattle.aiger_text.proofs.WalkLemmas.{enter_walk}
use Rattle.aiger_text.proofs.walks.Walk.enter.Goals as goal

pub returns-clause-walk : goal.returns-clause-walk
returns-clause-walk c =
    rw c.in_ok-push.ensures.items
    (enter_walk c.args.gates.now c.args.self.now.marks.items c.args.self.now.stack.items c.args.self.now.order.items c.requires.walk c.args.place c.requires.place)
