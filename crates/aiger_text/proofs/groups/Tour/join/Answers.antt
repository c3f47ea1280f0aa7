use Rattle.aiger_text.proofs.TourLemmas.{join_tour, join_lowers}
use Rattle.aiger_text.proofs.groups.Tour.join.Goals as goal

pub returns-clause-tour : goal.returns-clause-tour
returns-clause-tour c =
    join_tour c.args.gates.now c.args.self.now.stages.items c.args.self.now.opened.items c.args.self.now.path.items c.args.self.now.starts.items c.requires.tour c.args.top c.args.start c.args.place c.requires.wish.0
    c.requires.top c.requires.start _ c.cut_starts.ensures c.requires.wish.1.0 c.requires.wish.1.1.0 c.requires.wish.1.1.1.0 c.requires.wish.1.1.1.1

pub returns-clause-lower : goal.returns-clause-lower
returns-clause-lower c =
    join_lowers c.args.gates.now c.args.self.now.stages.items c.args.self.now.opened.items c.args.self.now.path.items c.args.self.now.starts.items c.requires.tour c.args.top c.args.start c.args.place c.requires.wish.0
    c.requires.top c.requires.start _ c.cut_starts.ensures c.requires.wish.1.0 c.requires.wish.1.1.0 c.requires.wish.1.1.1.0 c.requires.wish.1.1.1.1
