use Rattle.std.proofs.Common.{◌+◌, sym, subst}
use Rattle.std.specs.Prelude.{All}
use Rattle.machine_model.specs.Problem.{NamesSignals}
use Rattle.size_refutations.specs.Ground.{other_signals}
use Rattle.size_refutations.proofs.grounds.automaton_for.Goals as goal

pub returns-else-names_signals-clause-automaton : goal.returns-else-names_signals-clause-automaton
returns-else-names_signals-clause-automaton c =
    other_signals c.in-Ok.automaton c.in-Ok.ensures.automaton (λ all. c.if-names_signals.ensures.other
    (subst (All (NamesSignals (c.args.sought.inputs + c.args.sought.outputs))) (sym c.edges.ensures.value) all))
