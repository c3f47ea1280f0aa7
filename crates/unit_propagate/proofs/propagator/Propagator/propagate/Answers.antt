use Rattle.std.proofs.Common.{◌≡◌, ◌≤◌, length, arith}
use Rattle.unit_propagate.specs.Propagator.{clauses_in}
use Rattle.unit_propagate.proofs.QuietLemmas.{quiet}
use Rattle.unit_propagate.proofs.propagator.Propagator.propagate.Goals as goal

pub returns-clause-quiet : goal.returns-clause-quiet
returns-clause-quiet c = λ _.
    quiet (clauses_in c.args.base.now c.args.seen.now) c.loop-self.self c.len.ensures.trail c.loop-self.invariant.0.kept c.loop-self.invariant.0.watching c.loop-self.invariant.2 c.loop-self.invariant.1
    (let e : c.len.result ≡ length c.loop-self.self.marks.marks = c.len.ensures.len in omega arith)

pub returns-clause-place : goal.returns-clause-place
returns-clause-place c = λ _.
    let e : c.len.result ≡ length c.loop-self.self.marks.marks = c.len.ensures.len in
    let low : c.loop-self.self.place ≤ length c.loop-self.self.marks.marks = c.loop-self.invariant.0.kept.place in
    omega arith
