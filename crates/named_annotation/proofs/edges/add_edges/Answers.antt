use Rattle.named_annotation.proofs.EdgeLemmas.{edge_pushed}
use Rattle.named_annotation.proofs.edges.add_edges.Goals as goal

pub loop-cover-preserved : goal.loop-cover-preserved
loop-cover-preserved c =
    edge_pushed c.args.untils.now c.args.states.now.keys c.args.number c.args.counter c.args.edges.now.items c.loop-cover.edges.items c.push.new.self.items c.args.covers.now
    c.loop-cover.cover-index c.cover-item.result c.loop-cover-test.true c.cover-item.is c.in_ok-target.target c.number_of_state-to.result c.in_ok-target.ensures
    c.number_of_state-to.ensures c.loop-cover.invariant c.in_ok-push.ensures.items
