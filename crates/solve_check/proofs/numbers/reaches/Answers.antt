use Rattle.solve_check.proofs.CountedLemmas.{reaches_none}
use Rattle.solve_check.proofs.numbers.reaches.Goals as goal

pub returns-in-None : goal.returns-in-None
returns-in-None c = reaches_none c.args.circuit.now c.args.states c.in_ok-reached.field-0 c.in_ok-reached.ensures.number c.in-None.is
