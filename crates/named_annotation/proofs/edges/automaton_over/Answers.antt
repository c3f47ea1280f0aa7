use Rattle.std.proofs.Common.{Err, ap}
use Rattle.named_annotation.proofs.EdgeLemmas.{no_fault}
use Rattle.named_annotation.proofs.edges.automaton_over.Goals as goal

pub unreachable-requires : goal.unreachable-requires
unreachable-requires c =
    no_fault c.args.of.now.formulas.now c.args.of.now.untils.items c.args.named.now.states.keys c.len.result c.in_ok-edges.edges.items c.in_ok-rejecting.rejecting.items
    c.in_ok-edges.ensures c.in_ok-rejecting.ensures c.in-Err.field-0 (λ e. c.in-Err.ensures.empty.0 (ap Err e)) (λ e. (c.in-Err.ensures.bad_edge.0 (ap Err e)).1)
