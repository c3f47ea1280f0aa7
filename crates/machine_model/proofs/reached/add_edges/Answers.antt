use Rattle.std.proofs.Common.{◌≡◌, ◌<◌, length, get_or, sym, subst}
use Rattle.std.proofs.lemmas.List.Elements.{All-contains}
use Rattle.machine_model.specs.Automaton.{JoinsStates, states_of}
use Rattle.machine_model.proofs.Closure.{edges_more}
use Rattle.machine_model.proofs.reached.add_edges.Goals as goal

pub loop-edge-preserved : goal.loop-edge-preserved
loop-edge-preserved c =
    let same = c.edges-edge-items.ensures.value in
    let i = c.loop-edge.edge-index in
    let e = c.edge-item.result in
    let edges = c.args.automaton.now.edges in
    let within : i < length edges = subst (λ es. i < length es) same c.loop-edge-test.true in
    let is : get_or edges i e ≡ e = subst (λ es. get_or es i e ≡ e) same (sym c.edge-item.is) in
    let ends : JoinsStates (states_of c.args.automaton.now) e =
    All-contains (JoinsStates (states_of c.args.automaton.now)) edges e c.edges-edge-items.ensures.kept.edges (i, within, is) in
    edges_more (states_of c.args.automaton.now) edges i e c.loop-edge.sets c.insert.new.self within is ends.from c.loop-edge.invariant c.insert.ensures
