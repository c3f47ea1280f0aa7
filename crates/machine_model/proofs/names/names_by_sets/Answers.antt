use Rattle.std.proofs.Common.{◌≡◌, ◌∙◌, arith}
use Rattle.machine_model.specs.Automaton.{states_of}
use Rattle.machine_model.proofs.Naming.{named_all}
use Rattle.machine_model.proofs.names.names_by_sets.Goals as goal

pub returns : goal.returns
returns c =
    let all : c.loop-q.q ≡ states_of c.args.automaton.now = omega arith in
    named_all c.args.automaton.now c.in_ok-sets.sets.items c.loop-q.names.items c.states-q-end.ensures.kept c.in_ok-sets.ensures
    (c.loop-q.invariant.places ∙ all) (λ p h. c.loop-q.invariant.at p (omega (arith, all)))
