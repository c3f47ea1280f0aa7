use Rattle.std.proofs.Common.{sym, ap, ◌∙◌}
use Rattle.unit_propagate.specs.Trail.{TrailModel}
use Rattle.unit_propagate.specs.Propagator.{clauses_in}
use Rattle.unit_propagate.proofs.SoundLemmas.{within_all, Extends-same, IsSound-extends}
use Rattle.unit_propagate.proofs.trail.Trail.propagate.Goals as goal

pub propagate-requires-clause-within : goal.propagate-requires-clause-within
propagate-requires-clause-within c =
    within_all c.args.base.now.vars c.self.inside.state.marks.vars c.args.base.now.clauses.items c.args.seen.now (c.requires.variables ∙ sym (ap (λ (t : TrailModel). t.vars) c.self.view_is)) c.requires.formula c.requires.within

pub returns-in_err-number-clause-extends : goal.returns-in_err-number-clause-extends
returns-in_err-number-clause-extends c =
    rw (← c.self.view_is) (c.propagate.ensures.goes.extends c.self.inside.state.marks.marks (Extends-same (clauses_in c.args.base.now c.args.seen.now) c.self.inside.state.marks.marks))

pub returns-in_err-number-clause-sound : goal.returns-in_err-number-clause-sound
returns-in_err-number-clause-sound c =
    rw (← c.self.view_is) (IsSound-extends (clauses_in c.args.base.now c.args.seen.now) c.self.inside.state.marks.marks c.propagate.new.self.marks.marks
    (c.propagate.ensures.goes.extends c.self.inside.state.marks.marks (Extends-same (clauses_in c.args.base.now c.args.seen.now) c.self.inside.state.marks.marks)))

pub returns-clause-extends : goal.returns-clause-extends
returns-clause-extends c =
    rw (← c.self.view_is) (c.propagate.ensures.goes.extends c.self.inside.state.marks.marks (Extends-same (clauses_in c.args.base.now c.args.seen.now) c.self.inside.state.marks.marks))

pub returns-clause-sound : goal.returns-clause-sound
returns-clause-sound c =
    rw (← c.self.view_is) (IsSound-extends (clauses_in c.args.base.now c.args.seen.now) c.self.inside.state.marks.marks c.propagate.new.self.marks.marks
    (c.propagate.ensures.goes.extends c.self.inside.state.marks.marks (Extends-same (clauses_in c.args.base.now c.args.seen.now) c.self.inside.state.marks.marks)))
