use Rattle.std.proofs.Common.{◌≡◌, length, take, drop, ◌++◌}
use Rattle.aiger_text.specs.Groups.{Closes}
use Rattle.aiger_text.proofs.TourDone.{Leaves, finish_group, written_back}
use Rattle.aiger_text.proofs.groups.Tour.finish.Goals as goal
use Rattle.aiger_text.proofs.groups.Tour.finish.Goals.{After-truncate}

module _ (c : After-truncate) where
  closes : Closes c.args.self.now.stages.items c.close_from.new.stages c.args.self.now.opened.items c.args.top (length c.args.self.now.opened.items) c.is_cyclic-on_cycle.result
  closes = rw (c.deref_mut.ensures.value, c.deref-2.ensures.value) at c.close_from.ensures

  leaves : Leaves c.args.gates.now c.args.self.now.stages.items c.close_from.new.stages c.args.self.now.path.items c.args.self.now.starts.items (take c.args.top c.args.self.now.opened.items) c.pop.new.self.items c.pop-2.new.self.items
  leaves =
      finish_group c.args.gates.now c.args.places.now c.requires.finds c.args.self.now.stages.items c.close_from.new.stages c.args.self.now.opened.items c.args.self.now.path.items c.args.self.now.starts.items
      c.pop.new.self.items c.pop-2.new.self.items c.args.top c.in-Some.field-0 c.in-Some-pop.field-0 c.is_cyclic-on_cycle.result c.requires.tour c.in-Some.ensures.items c.in-Some-pop.ensures.items c.requires.top c.requires.start
      c.requires.wish (rw c.deref.ensures.value at c.is_cyclic-on_cycle.ensures) closes

  back : take c.args.self.now.stages.len (c.close_from.new.stages ++ drop (length c.close_from.new.stages) c.args.self.now.stages.items) ≡ c.close_from.new.stages
  back = written_back c.close_from.new.stages c.args.self.now.stages.items c.args.self.now.stages.len c.args.self.now.stages.ok.0 closes.places

pub returns-clause-tour : goal.returns-clause-tour
returns-clause-tour c = rw (back (goal.at.returns-clause-tour c).After-truncate, c.truncate.ensures.items) (leaves (goal.at.returns-clause-tour c).After-truncate).tour

pub returns-clause-goes : goal.returns-clause-goes
returns-clause-goes c = rw (back (goal.at.returns-clause-goes c).After-truncate) (leaves (goal.at.returns-clause-goes c).After-truncate).goes

pub returns-clause-lower : goal.returns-clause-lower
returns-clause-lower c = rw (back (goal.at.returns-clause-lower c).After-truncate) (leaves (goal.at.returns-clause-lower c).After-truncate).lower
