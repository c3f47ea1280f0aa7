use Rattle.std.proofs.Common.{rules}
use Rattle.std.proofs.lemmas.List.Sorted.{IsNonDecreasingBy-from_sort_by_key}
use Rattle.machine_model.specs.declared.automata.Edge.{Edge}
use Rattle.annot_check.proofs.EdgeLemmas.{same_edges}
use Rattle.annot_check.proofs.product.by_source.Goals as goal

pub returns-clause-sorted : goal.returns-clause-sorted
returns-clause-sorted c = IsNonDecreasingBy-from_sort_by_key (λ (edge : Edge). edge.from) _ c.sort_unstable_by_key.ensures.sorted (λ a r q k. search rules)

pub returns-clause-same : goal.returns-clause-same
returns-clause-same c = same_edges _ _ _ (c.in_ok-sorted.ensures.items_if_clones_equal (λ x y e. e)) c.sort_unstable_by_key.ensures.permutation
