use Rattle.std.proofs.Common.{arith}
use Rattle.unit_propagate.specs.declared.marks.Mark.{Mark}
use Rattle.conflict_learn.proofs.StepLemmas.{left_other, unresolved_top, none_of}
use Rattle.conflict_learn.proofs.analysis.resolvent.Goals as goal

pub returns-then-at-top-clause-none : goal.returns-then-at-top-clause-none
returns-then-at-top-clause-none c = λ clauses s.
    let z = c.if-level-eq0.false in
    let m : Mark = record { lit = c.at-lit.result.0; level = c.at-lit.result.1; reason = c.at-lit.result.2 } in
    let n : Mark = record { lit = c.at.result.0; level = c.at.result.1; reason = c.at.result.2 } in
    left_other c.args.trail.now.vars c.args.trail.now.marks c.requires.trail c.args.places.now c.args.place c.args.top m c.at-lit.ensures c.requires.low c.requires.levels
    c.in-Some.next n c.in-Some.ensures.some.0 c.in-Some.ensures.some.1 c.at.ensures (omega arith) c.if-at-top.true

pub returns-clause-none : goal.returns-clause-none
returns-clause-none c = none_of c.at-lit.result.2 _ (λ e clauses s.
    let m : Mark = record { lit = c.at-lit.result.0; level = c.at-lit.result.1; reason = c.at-lit.result.2 } in
    let n : Mark = record { lit = c.at.result.0; level = c.at.result.1; reason = c.at.result.2 } in
    unresolved_top c.args.trail.now.vars c.args.trail.now.marks c.requires.trail c.args.places.now c.args.place c.args.top m c.at-lit.ensures c.requires.low c.requires.levels
    c.in-Some.next n c.in-Some.ensures.some.0 c.in-Some.ensures.some.1 c.at.ensures clauses c.if-level-top-2.false c.if-at-top.false e s)
