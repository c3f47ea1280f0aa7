use Rattle.std.proofs.Common.{◌≤◌, arith}
use Rattle.machine_model.specs.Automaton.{states_of}
use Rattle.machine_model.proofs.NamesBelow.{all_named}
use Rattle.machine_model.proofs.names.names_by_marks.Goals as goal

pub returns : goal.returns
returns c =
    let all : states_of c.args.automaton.now ≤ c.loop-q.q = omega (arith, c.loop-q-test.false, c.states-states.ensures.value) in
    all_named c.args.automaton.now c.states-states.ensures.kept c.loop-q.q c.loop-q.names.items all c.loop-q.invariant
