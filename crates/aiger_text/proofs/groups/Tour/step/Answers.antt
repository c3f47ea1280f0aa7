use Rattle.std.proofs.Common.{◌≡◌, ℕ, get_or, subst, ◌∙◌}
use Rattle.std.proofs.lemmas.List.{get_or_default}
use Rattle.aiger_text.specs.Walks.{Uses}
use Rattle.aiger_text.proofs.TourDone.{one_greatest}
use Rattle.aiger_text.proofs.groups.Tour.step.Goals as goal

pub enter-requires-clause-used : goal.enter-requires-clause-used
enter-requires-clause-used c t greatest =
    let named : c.index.result.now ≡ get_or c.args.self.now.opened.items c.args.top 0 = c.index.ensures ∙ get_or_default c.args.self.now.opened.items c.args.top c.index.result.now 0 c.requires.inside in
    subst (λ (k : ℕ). Uses c.args.gates.now (get_or c.args.self.now.opened.items k 0) c.in-Enter.gate) (one_greatest c.args.self.now.path.items c.args.top t c.requires.top greatest)
    (subst (λ (g : ℕ). Uses c.args.gates.now g c.in-Enter.gate) named c.in-Enter.ensures.1.0)
