use Rattle.std.proofs.Common.{◌≡◌, ◌+◌, ◌≤◌, length, ap, ◌∙◌, arith, subst}
use Rattle.machine_model.specs.Problem.{automaton_of, sized}
use Rattle.annotation_encode.specs.BaseClauses.{edge_clauses}
use Rattle.annotation_encode.specs.Count.{most_clauses}
use Rattle.annotation_encode.proofs.ClauseCount.{beside_edges, count_ends, count_goes, count_stops, too_many}
use Rattle.annotation_encode.proofs.counting.count_at.Goals as goal

pub returns-then-total-most : goal.returns-then-total-most
returns-then-total-most c =
    let beside : c.count_beside_edges-total.result ≡ beside_edges (sized c.args.problem.now c.args.size) = c.count_beside_edges-total.ensures.value in
    let most : c.most_clauses-most.result ≡ most_clauses c.args.problem.now = c.most_clauses-most.ensures.value in
    too_many (sized c.args.problem.now c.args.size) (omega (arith, beside, most))

pub loop-edge-init : goal.loop-edge-init
loop-edge-init c = record {
  sum = let beside : c.count_beside_edges-total.result ≡ beside_edges (sized c.args.problem.now c.args.size) = c.count_beside_edges-total.ensures.value in omega (arith, beside);
  small = omega arith;
}

pub loop-edge-preserved : goal.loop-edge-preserved
loop-edge-preserved c = record {
  sum = ap (λ n. c.loop-edge.total + n) c.edge_count-total.ensures.value ∙ count_goes (sized c.args.problem.now c.args.size) c.edges-edges.result.now c.loop-edge.total c.loop-edge.edge-index c.edge-item.result c.loop-edge-test.true c.edge-item.is c.loop-edge.invariant.sum;
  small = omega arith;
}

pub returns-then-total-most-2 : goal.returns-then-total-most-2
returns-then-total-most-2 c =
    let edges : c.edges-edges.result.now ≡ (automaton_of c.args.problem.now).edges = c.edges-edges.ensures.value ∙ ap (λ a. a.edges) c.deref.ensures in
    let value : c.edge_count-total.result ≡ length (edge_clauses (sized c.args.problem.now c.args.size) c.edge-item.result) = c.edge_count-total.ensures.value in
    let most : c.most_clauses-most.result ≡ most_clauses c.args.problem.now = c.most_clauses-most.ensures.value in
    count_stops (sized c.args.problem.now c.args.size) c.edges-edges.result.now c.loop-edge.total c.loop-edge.edge-index c.edge-item.result edges c.loop-edge-test.true c.edge-item.is c.loop-edge.invariant.sum (omega (arith, value, most))

pub returns : goal.returns
returns c =
    let edges : c.edges-edges.result.now ≡ (automaton_of c.args.problem.now).edges = c.edges-edges.ensures.value ∙ ap (λ a. a.edges) c.deref.ensures in
    let most : c.most_clauses-most.result ≡ most_clauses c.args.problem.now = c.most_clauses-most.ensures.value in
    let small : c.loop-edge.total ≤ c.most_clauses-most.result = c.loop-edge.invariant.small in
    count_ends (sized c.args.problem.now c.args.size) c.edges-edges.result.now c.loop-edge.total c.loop-edge.edge-index edges c.loop-edge-test.false c.loop-edge.invariant.sum (subst (λ n. c.loop-edge.total ≤ n) most small)
