use Rattle.std.proofs.Common.{◌≡◌, length, ◌∙◌}
use Rattle.aiger_text.proofs.TourLemmas.{enter_tour}
use Rattle.aiger_text.proofs.groups.Tour.enter.Goals as goal

pub returns-clause-tour : goal.returns-clause-tour
returns-clause-tour c =
    let place : c.len-place.result ≡ length c.args.self.now.opened.items = c.len-place.ensures ∙ c.args.self.now.opened.ok.0 in
    rw (c.in_ok-push.ensures.items, c.in_ok-push-2.ensures.items, c.in_ok-push-3.ensures.items, place)
    (enter_tour c.args.gates.now c.args.self.now.stages.items c.args.self.now.opened.items c.args.self.now.path.items c.args.self.now.starts.items c.requires.tour c.args.gate c.requires.gate c.requires.new c.requires.used)
