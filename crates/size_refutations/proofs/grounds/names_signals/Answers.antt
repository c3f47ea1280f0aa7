use Rattle.std.proofs.Common.{subst}
use Rattle.std.specs.Prelude.{All}
use Rattle.std.proofs.lemmas.List.{take_all}
use Rattle.std.proofs.lemmas.List.Elements.{All-more}
use Rattle.machine_model.specs.Problem.{NamesSignals}
use Rattle.size_refutations.proofs.grounds.names_signals.Goals as goal

pub loop-edge-preserved : goal.loop-edge-preserved
loop-edge-preserved c =
    All-more (NamesSignals c.args.signals) c.args.edges.now c.loop-edge.edge-index c.edge-item.result c.loop-edge-test.true c.loop-edge.invariant
    (subst (NamesSignals c.args.signals) c.edge-item.is (c.if-not-names_its_signals.ensures.all))

pub returns-clause-all : goal.returns-clause-all
returns-clause-all c =
    subst (All (NamesSignals c.args.signals)) (take_all c.loop-edge.edge-index c.args.edges.now c.loop-edge-test.false) c.loop-edge.invariant
