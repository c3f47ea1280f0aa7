use Rattle.std.proofs.Common.{◌≡◌, length, arith}
use Rattle.synth_engine.proofs.PlanLemmas.{opened_at_once}
use Rattle.synth_engine.proofs.plans.open_all.Goals as goal

pub returns : goal.returns
returns g c =
    let results = c.in_ok-results.results.ok.0 in
    let problems = c.args.problems.ok.0 in
    let count = c.in_ok-results.ensures.count in
    let many : length c.in_ok-results.results.items ≡ length c.args.problems.items = omega arith in
    opened_at_once c.args.settings c.args.problems.items c.in_ok-results.results.items c.all_opened.result many
    (λ i d p h. c.in_ok-results.ensures.each i d p (omega arith)) c.all_opened.ensures
