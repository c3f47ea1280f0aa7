use Rattle.std.proofs.Common.{Some, Contains, refl, sym, subst}
use Rattle.unit_propagate.specs.Trail.{literals_of}
use Rattle.unit_propagate.specs.Marks.{MarkList}
use Rattle.unit_propagate.proofs.PropagatorLemmas.{valueless, last_there, Goes-push}
use Rattle.unit_propagate.proofs.propagator.Propagator.make_true.Goals as goal

pub push-requires-clause-free : goal.push-requires-clause-free
push-requires-clause-free c = valueless c.args.self.now.marks.marks c.args.lit c.if-is_true.ensures.no c.requires.alive

pub returns-clause-now_true : goal.returns-clause-now_true
returns-clause-now_true c =
    subst (λ (x : MarkList). Contains (literals_of x.marks) c.args.lit) (sym c.push.ensures)
    (last_there c.args.self.now.marks.marks (record { lit = c.args.lit; level = c.level-level.result; reason = Some c.args.number }))

pub returns-clause-goes : goal.returns-clause-goes
returns-clause-goes c = λ clauses k w r.
    Goes-push clauses c.args.self.now (record { lit = c.args.lit; level = c.level-level.result; reason = Some c.args.number }) c.push.new.self c.args.number c.push.ensures k w c.level-level.ensures.value refl r
