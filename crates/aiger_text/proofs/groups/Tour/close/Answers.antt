use Rattle.aiger_text.proofs.TourDone.{Leaves, leave_gate}
use Rattle.aiger_text.proofs.groups.Tour.close.Goals as goal
use Rattle.aiger_text.proofs.groups.Tour.close.Goals.{In-Some}

module _ (c : In-Some) where
  leaves : Leaves c.args.gates.now c.args.self.now.stages.items c.args.self.now.stages.items c.args.self.now.path.items c.args.self.now.starts.items c.args.self.now.opened.items c.pop.new.self.items c.args.self.now.starts.items
  leaves =
      leave_gate c.args.gates.now c.args.self.now.stages.items c.args.self.now.opened.items c.args.self.now.path.items c.pop.new.self.items c.args.self.now.starts.items c.args.top c.args.start c.in-Some.field-0
      c.requires.tour c.in-Some.ensures.items c.requires.top c.requires.start c.if-start-top.false c.requires.wish

pub finish-requires-clause-inside : goal.finish-requires-clause-inside
finish-requires-clause-inside c = c.requires.tour.path_within c.args.top c.requires.top.there

pub finish-requires-clause-gate : goal.finish-requires-clause-gate
finish-requires-clause-gate c = c.requires.tour.within c.args.top (c.requires.tour.path_within c.args.top c.requires.top.there)

pub returns-clause-tour : goal.returns-clause-tour
returns-clause-tour c = (leaves (goal.at.returns-clause-tour c).In-Some).tour

pub returns-clause-lower : goal.returns-clause-lower
returns-clause-lower c = (leaves (goal.at.returns-clause-lower c).In-Some).lower
