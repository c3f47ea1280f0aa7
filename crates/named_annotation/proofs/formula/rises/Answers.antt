use Rattle.std.proofs.Common.{◌≤◌, length, sym, ◌∙◌, rules}
use Rattle.named_annotation.proofs.Taking.{ids_rise, rises_short}
use Rattle.named_annotation.proofs.formula.rises.Goals as goal

pub returns-clause-value : goal.returns-clause-value
returns-clause-value c =
    let short : length c.loop-rest.rest.now ≤ 1 = search rules in
    sym (rises_short c.loop-rest.rest.now short) ∙ c.loop-rest.invariant

pub returns-clause-rise : goal.returns-clause-rise
returns-clause-rise c =
    let short : length c.loop-rest.rest.now ≤ 1 = search rules in
    ids_rise c.args.ids.now (sym c.loop-rest.invariant ∙ rises_short c.loop-rest.rest.now short)
