use Rattle.std.proofs.Common.{◌≡◌, ◌<◌, length, inr, subst, arith}
use Rattle.cobuchi_build.specs.Explored.{Explored, meeting}
use Rattle.cobuchi_build.specs.Sizes.{HasTooMany}
use Rattle.cobuchi_build.proofs.Meeting.{met_is}
use Rattle.cobuchi_build.proofs.exploring.Found.meet.Goals as goal

pub returns-clause-ok : goal.returns-clause-ok
returns-clause-ok c =
    met_is c.args.untils.now c.args.number c.args.counter c.args.self.now _ c.args.cover.now c.self.inside.states.keys c.self.inside.edges.keys c.in_ok-target.target c.in_ok-to.to c.self.view_is c.in_ok-target.ensures c.in_ok-to.ensures.index c.in_ok-to.ensures.keys c.in_ok-insert.ensures.keys

pub returns-then-len-limits-2-clause-too_large : goal.returns-then-len-limits-2-clause-too_large
returns-then-len-limits-2-clause-too_large c =
    let new : Explored = record { states = c.insert_full.new.self.keys; edges = c.insert.new.self.keys } in
    let is : new ≡ meeting c.args.untils.now c.args.number c.args.counter c.args.self.now c.args.cover.now =
    met_is c.args.untils.now c.args.number c.args.counter c.args.self.now new c.args.cover.now c.self.inside.states.keys c.self.inside.edges.keys c.in_ok-target.target c.in_ok-to.to c.self.view_is c.in_ok-target.ensures c.in_ok-to.ensures.index c.in_ok-to.ensures.keys c.in_ok-insert.ensures.keys in
    let many : c.args.limits.edges < length new.edges = omega (arith, c.if-len-limits-2.true, c.len-2.ensures.len) in
    λ e. subst (HasTooMany c.args.limits) is (inr many)
