use Rattle.std.proofs.Common.{ltb, rules, ap, sym, ◌∙◌, subst}
use Rattle.std.proofs.lemmas.Bool.{le-ltb}
use Rattle.std.proofs.lemmas.List.Sorted.{IsPartitionPoint-from_clause, IsPartitionedBy-ltb}
use Rattle.ltl_formula.specs.declared.nodes.FormulaId.{FormulaId}
use Rattle.obligation_sets.specs.Ids.{IdsRise, is_among}
use Rattle.obligation_sets.proofs.Ordered.{found_nowhere, found_there, rising}
use Rattle.obligation_sets.proofs.sets.ObligationSet.contains.Goals as goal

pub returns-then-place-ids : goal.returns-then-place-ids
returns-then-place-ids c =
    let rise : IdsRise c.ids-ids.result.now = subst IdsRise (sym c.ids-ids.ensures.value) c.ids-ids.ensures.rising in
    let parted = IsPartitionedBy-ltb (λ (g : FormulaId). g.0) c.ids-ids.result.now c.args.id.0 (rising c.ids-ids.result.now rise) in
    let point = IsPartitionPoint-from_clause (λ (g : FormulaId). ltb g.0 c.args.id.0) _ _ c.partition_point-place.ensures.partitioned parted (λ a r q k. search rules) in
    found_there c.ids-ids.result.now rise c.args.id c.partition_point-place.result point _ c.eq.result c.if-place-ids.true c.eq.ensures
    ∙ ap (λ ids. is_among ids c.args.id) c.ids-ids.ensures.value

pub returns-else-place-ids : goal.returns-else-place-ids
returns-else-place-ids c =
    let rise : IdsRise c.ids-ids.result.now = subst IdsRise (sym c.ids-ids.ensures.value) c.ids-ids.ensures.rising in
    let parted = IsPartitionedBy-ltb (λ (g : FormulaId). g.0) c.ids-ids.result.now c.args.id.0 (rising c.ids-ids.result.now rise) in
    let point = IsPartitionPoint-from_clause (λ (g : FormulaId). ltb g.0 c.args.id.0) _ _ c.partition_point-place.ensures.partitioned parted (λ a r q k. search rules) in
    found_nowhere c.ids-ids.result.now rise c.args.id c.partition_point-place.result point _ c.if-place-ids.false (le-ltb _ _ c.if-place-ids.false)
    ∙ ap (λ ids. is_among ids c.args.id) c.ids-ids.ensures.value
