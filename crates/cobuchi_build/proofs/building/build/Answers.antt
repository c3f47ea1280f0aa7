use Rattle.std.proofs.Common.{Err, ap, ◌∙◌}
use Rattle.cobuchi_build.specs.Built.{IsAutomatonOf}
use Rattle.cobuchi_build.proofs.Accepting.{the_automaton_accepts_exactly}
use Rattle.cobuchi_build.proofs.LimitsKept.{automata_keep_limits}
use Rattle.cobuchi_build.proofs.Along.{built_is, no_fault}
use Rattle.cobuchi_build.proofs.building.build.Goals as goal
use Rattle.cobuchi_build.proofs.building.build.Goals.{In-Ok}

built : (c : In-Ok) → IsAutomatonOf c.args.covering c.args.formulas.now c.args.f c.in-Ok.automaton
built c =
    built_is c.args.covering c.args.formulas.now c.args.f c.in_ok-found.found c.in_ok-untils.untils.items c.len.result c.in-Ok.automaton c.in_ok-edges.edges.items c.in_ok-edges.rejecting.items c.in_ok-found.ensures.all c.in_ok-untils.ensures.untils (c.len.ensures ∙ c.in_ok-untils.untils.ok.0)
    c.in_ok-edges.ensures.edges c.in_ok-edges.ensures.rejecting c.in-Ok.ensures.parts

pub unreachable-requires : goal.unreachable-requires
unreachable-requires c =
    no_fault c.args.covering c.args.formulas.now c.args.f c.in_ok-found.found c.len.result c.in_ok-edges.edges.items c.in_ok-edges.rejecting.items c.in_ok-untils.ensures.list c.requires.stands c.requires.normal c.in_ok-found.ensures.all
    c.in_ok-edges.ensures.edges c.in_ok-edges.ensures.rejecting c.in-Err.field-0 (λ e. c.in-Err.ensures.empty.0 (ap Err e)) (λ e. (c.in-Err.ensures.bad_edge.0 (ap Err e)).1)

pub returns-clause-automaton : goal.returns-clause-automaton
returns-clause-automaton c = built (goal.at.returns-clause-automaton c).In-Ok

pub returns-clause-accepts : goal.returns-clause-accepts
returns-clause-accepts c =
    the_automaton_accepts_exactly c.args.covering c.args.formulas.now c.args.f c.in-Ok.automaton c.in_ok-untils.ensures.list c.requires.stands c.requires.normal (built (goal.at.returns-clause-accepts c).In-Ok)

pub returns-clause-signals : goal.returns-clause-signals
returns-clause-signals c =
    automata_keep_limits.signals c.args.covering c.args.formulas.now c.args.f c.in-Ok.automaton c.in_ok-untils.ensures.list c.requires.stands c.requires.normal (built (goal.at.returns-clause-signals c).In-Ok)

pub returns-clause-small : goal.returns-clause-small
returns-clause-small c =
    automata_keep_limits.states c.args.covering c.args.limits c.args.formulas.now c.args.f c.in-Ok.automaton (built (goal.at.returns-clause-small c).In-Ok) c.in_ok-found.ensures.within
