use Rattle.std.proofs.Common.{◌≡◌, ◌<◌, Bool, true, false, length, sym, ap, ◌∙◌, arith}
use Rattle.aiger_text.specs.Groups.{stage_at}
use Rattle.aiger_text.proofs.TourLemmas.{open-new}
use Rattle.aiger_text.proofs.TourDone.{done_by}
use Rattle.aiger_text.proofs.groups.Tour.visit.Goals as goal

pub returns-then-not-is_new-clause-done : goal.returns-then-not-is_new-clause-done
returns-then-not-is_new-clause-done c =
    done_by c.args.gates.now c.args.self.now.stages.items c.args.self.now.opened.items c.args.self.now.path.items c.args.self.now.starts.items c.args.place c.requires.tour c.requires.empty
    (λ new. let is : ◌≡◌ {A = Bool} true false = sym (c.is_new.ensures.1 new) ∙ c.if-not-is_new.true in absurd (cc))

pub enter-requires-clause-used : goal.enter-requires-clause-used
enter-requires-clause-used c top greatest =
    let inside : top < length c.args.self.now.opened.items = c.requires.tour.path_within top greatest.there in
    let none : length c.args.self.now.opened.items ≡ 0 = ap length c.requires.empty in
    absurd (omega (arith, inside, none))

pub returns-clause-done : goal.returns-clause-done
returns-clause-done c =
    done_by c.args.gates.now c.run.new.self.stages.items c.run.new.self.opened.items c.run.new.self.path.items c.run.new.self.starts.items c.args.place c.in_ok-run.ensures.tour c.in_ok-run.ensures.empty
    (λ new. open-new (stage_at c.enter.new.self.stages.items c.args.place) (length c.args.self.now.opened.items) c.in_ok-enter.ensures.entered (c.in_ok-run.ensures.goes.no_new c.args.place new))
