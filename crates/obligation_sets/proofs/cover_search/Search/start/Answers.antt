use Rattle.std.proofs.Common.{List, [], ◌∷◌, ◌∙◌, ap, reverse}
use Rattle.obligation_sets.specs.Branch.{Branch}
use Rattle.obligation_sets.specs.declared.cover_search.Frame.{Frame}
use Rattle.obligation_sets.specs.declared.cover_search.Frame.TheVariants.{Open}
use Rattle.obligation_sets.specs.Forks.{leaves_in}
use Rattle.obligation_sets.proofs.Along.{along_start, popped}
use Rattle.obligation_sets.proofs.cover_search.Search.start.Goals as goal

pub returns-clause-along : goal.returns-clause-along
returns-clause-along c covering =
    along_start covering c.args.formulas.now c.args.set.now _ _ (leaves_in c.new-2.result) c.requires
    (popped c.push.new.self.items c.new-frames.result.items (Open c.in_ok-start.field-0) c.in_ok-push.ensures.items ∙ ap (λ (fs : List Frame). Open c.in_ok-start.field-0 ∷ reverse fs) c.new-frames.ensures.items ∙ ap (λ (b : Branch). Open b ∷ []) c.in_ok-start.ensures.value)
    c.new.ensures.empty c.new-2.ensures
