use Rattle.std.proofs.Common.{min, ap, ◌∙◌}
use Rattle.unit_propagate.specs.Marks.{MarkList}
use Rattle.unit_propagate.proofs.BackLemmas.{IsKept-back}
use Rattle.unit_propagate.proofs.propagator.Propagator.back_to.Goals as goal

pub returns-clause-kept : goal.returns-clause-kept
returns-clause-kept c =
    IsKept-back c.args.self.now c.back_to.new.self c.args.level c.min-self.result (ap (λ (x : MarkList). x.vars) c.back_to.ensures.exact) (ap (λ (x : MarkList). x.marks) c.back_to.ensures.exact)
    c.back_to.ensures.prefix (c.min-self.ensures ∙ ap (min c.args.self.now.kept) c.len.ensures.len) c.requires
