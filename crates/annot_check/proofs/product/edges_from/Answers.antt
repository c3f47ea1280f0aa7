use Rattle.std.proofs.Common.{◌≤◌, leb, ltb, rules}
use Rattle.std.proofs.lemmas.List.Sorted.{IsPartitionPoint-from_clause}
use Rattle.machine_model.specs.declared.automata.Edge.{Edge}
use Rattle.annot_check.proofs.EdgeLemmas.{below_parted, in_order, in_turn, within_parted}
use Rattle.annot_check.proofs.product.edges_from.Goals as goal

pub slice_bounds-result-count : goal.slice_bounds-result-count
slice_bounds-result-count c =
    let first = IsPartitionPoint-from_clause (λ (edge : Edge). ltb edge.from c.args.source) _ _ c.partition_point-begin.ensures.partitioned
    (below_parted c.args.edges.now c.args.source c.requires) (λ a r q k. search rules) in
    let last = IsPartitionPoint-from_clause (λ (edge : Edge). leb edge.from c.args.source) _ _ c.partition_point-end.ensures.partitioned
    (within_parted c.args.edges.now c.args.source c.requires) (λ a r q k. search rules) in
    in_turn c.args.edges.now c.args.source c.partition_point-begin.result c.partition_point-end.result first last c.partition_point-begin.ensures.bound

pub slice_bounds-result-start : goal.slice_bounds-result-start
slice_bounds-result-start c =
    let order : c.partition_point-begin.result ≤ c.partition_point-end.result = slice_bounds-result-count c in
    search rules

pub returns : goal.returns
returns c =
    let first = IsPartitionPoint-from_clause (λ (edge : Edge). ltb edge.from c.args.source) _ _ c.partition_point-begin.ensures.partitioned
    (below_parted c.args.edges.now c.args.source c.requires) (λ a r q k. search rules) in
    let last = IsPartitionPoint-from_clause (λ (edge : Edge). leb edge.from c.args.source) _ _ c.partition_point-end.ensures.partitioned
    (within_parted c.args.edges.now c.args.source c.requires) (λ a r q k. search rules) in
    in_order c.args.edges.now c.args.source c.partition_point-begin.result c.partition_point-end.result first last c.partition_point-end.ensures.bound
    (in_turn c.args.edges.now c.args.source c.partition_point-begin.result c.partition_point-end.result first last c.partition_point-begin.ensures.bound)
