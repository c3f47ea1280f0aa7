use Rattle.unit_propagate.specs.Propagator.{clauses_in}
use Rattle.unit_propagate.proofs.PropagatorLemmas.{Goes-trans, Stays-trans, cut_goes, cut_stays, cut_visited}
use Rattle.unit_propagate.proofs.propagator.Propagator.visit.Goals as goal

pub returns-clause-all : goal.returns-clause-all
returns-clause-all c = λ e. cut_visited c.look-looked.new.self c.args.falsified c.cut.new.self c.cut.ensures.watched (c.look-looked.ensures.all e)

pub returns-clause-goes : goal.returns-clause-goes
returns-clause-goes c =
    Goes-trans (clauses_in c.args.base.now c.args.seen.now) c.args.self.now c.look-looked.new.self (record c.look-looked.new.self { watches = c.cut.new.self }) c.look-looked.ensures.goes
    (cut_goes (clauses_in c.args.base.now c.args.seen.now) c.look-looked.new.self c.args.falsified c.look-looked.result.kept c.look-looked.result.place c.cut.new.self c.look-looked.ensures.visiting c.cut.ensures)

pub returns-clause-stays : goal.returns-clause-stays
returns-clause-stays c =
    Stays-trans c.args.self.now c.look-looked.new.self (record c.look-looked.new.self { watches = c.cut.new.self }) c.look-looked.ensures.stays
    (cut_stays (clauses_in c.args.base.now c.args.seen.now) c.look-looked.new.self c.args.falsified c.look-looked.result.kept c.look-looked.result.place c.cut.new.self c.look-looked.ensures.visiting c.cut.ensures)
