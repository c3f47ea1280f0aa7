use Rattle.std.proofs.Common.{◌+◌, Some, refl, ap}
use Rattle.std.proofs.lemmas.Option.{slice_get_within}
use Rattle.propositional_logic.specs.Codes.{code_of}
use Rattle.unit_propagate.specs.Rows.{row_at}
use Rattle.unit_propagate.specs.Propagator.{clauses_in}
use Rattle.unit_propagate.proofs.PropagatorLemmas.{valueless, Goes-push, Goes-trans, Stays-same, Stays-trans, IsVisiting-push, stays_visiting, stays_goes, stays_stays, stays_row}
use Rattle.unit_propagate.proofs.RewatchLemmas.{rewatched, rewatched_goes, rewatched_stays, rewatched_row, rewatchable}
use Rattle.unit_propagate.proofs.StepLemmas.{gone_apart, has_true, blocked, open_place, other_there, conflict, reason, other_within, forced_there}
use Rattle.unit_propagate.proofs.propagator.Propagator.step.Goals as goal

pub keep-requires-clause-in_row : goal.keep-requires-clause-in_row
keep-requires-clause-in_row c =
    open_place (clauses_in c.args.base.now c.args.seen.now) c.args.self.now c.args.falsified c.args.to c.args.i c.requires.there.0 c.requires.visiting c.requires.there.1

pub keep-requires-clause-there : goal.keep-requires-clause-there
keep-requires-clause-there c = slice_get_within (row_at c.args.self.now.watches.rows (code_of c.args.falsified)) c.args.i c.requires.there.0 c.requires.there.1

pub watching-lits-requires-clause-there : goal.watching-lits-requires-clause-there
watching-lits-requires-clause-there c = slice_get_within (row_at c.args.self.now.watches.rows (code_of c.args.falsified)) c.args.i c.requires.there.0 c.requires.there.1

pub keep-requires-then-is_true-2-clause-there : goal.keep-requires-then-is_true-2-clause-there
keep-requires-then-is_true-2-clause-there c = slice_get_within (row_at c.args.self.now.watches.rows (code_of c.args.falsified)) c.args.i c.requires.there.0 c.requires.there.1

pub keep-requires-2-clause-there : goal.keep-requires-2-clause-there
keep-requires-2-clause-there c = slice_get_within (row_at c.args.self.now.watches.rows (code_of c.args.falsified)) c.args.i c.requires.there.0 c.requires.there.1

pub returns-then-is_true-clause-size : goal.returns-then-is_true-clause-size
returns-then-is_true-clause-size c = let k = c.keep.ensures c.requires.there.0 c.requires.there.1 in k.sets.size

pub returns-then-is_true-clause-stays_there : goal.returns-then-is_true-clause-stays_there
returns-then-is_true-clause-stays_there c = λ _.
    stays_visiting (clauses_in c.args.base.now c.args.seen.now) c.args.self.now c.args.falsified c.args.to c.args.i c.requires.there.0 (record { clause = c.requires.there.0.clause; blocker = c.args.blocker }) c.keep.new.self c.requires.visiting c.requires.there.1 (c.keep.ensures c.requires.there.0 c.requires.there.1) refl (blocked c.args.self.now c.args.falsified c.requires.there.0 c.args.blocker c.requires.there.2 c.if-is_true.ensures.yes)

pub returns-then-is_true-clause-goes : goal.returns-then-is_true-clause-goes
returns-then-is_true-clause-goes c =
    stays_goes (clauses_in c.args.base.now c.args.seen.now) c.args.self.now c.args.falsified c.args.to c.args.i c.requires.there.0 (record { clause = c.requires.there.0.clause; blocker = c.args.blocker }) c.keep.new.self c.requires.visiting c.requires.there.1 (c.keep.ensures c.requires.there.0 c.requires.there.1) refl (blocked c.args.self.now c.args.falsified c.requires.there.0 c.args.blocker c.requires.there.2 c.if-is_true.ensures.yes)

pub returns-then-is_true-clause-stays : goal.returns-then-is_true-clause-stays
returns-then-is_true-clause-stays c =
    stays_stays (clauses_in c.args.base.now c.args.seen.now) c.args.self.now c.args.falsified c.args.to c.args.i c.requires.there.0 (record { clause = c.requires.there.0.clause; blocker = c.args.blocker }) c.keep.new.self c.requires.visiting c.requires.there.1 (c.keep.ensures c.requires.there.0 c.requires.there.1) refl (blocked c.args.self.now c.args.falsified c.requires.there.0 c.args.blocker c.requires.there.2 c.if-is_true.ensures.yes)

pub returns-then-is_true-clause-row : goal.returns-then-is_true-clause-row
returns-then-is_true-clause-row c =
    stays_row (clauses_in c.args.base.now c.args.seen.now) c.args.self.now c.args.falsified c.args.to c.args.i c.requires.there.0 (record { clause = c.requires.there.0.clause; blocker = c.args.blocker }) c.keep.new.self c.requires.visiting c.requires.there.1 (c.keep.ensures c.requires.there.0 c.requires.there.1) refl (blocked c.args.self.now c.args.falsified c.requires.there.0 c.args.blocker c.requires.there.2 c.if-is_true.ensures.yes)

pub returns-in_default-clause-gone : goal.returns-in_default-clause-gone
returns-in_default-clause-gone c = λ _.
    gone_apart (clauses_in c.args.base.now c.args.seen.now) c.args.self.now c.args.falsified c.args.to c.args.i c.requires.there.0 c.requires.visiting c.requires.there.1 c.watching-lits.result.now (c.watching-lits.ensures c.requires.there.0 c.requires.there.1) c.in_default.ensures.none

pub keep-requires-then-is_true-2-clause-in_row : goal.keep-requires-then-is_true-2-clause-in_row
keep-requires-then-is_true-2-clause-in_row c =
    open_place (clauses_in c.args.base.now c.args.seen.now) c.args.self.now c.args.falsified c.args.to c.args.i c.requires.there.0 c.requires.visiting c.requires.there.1

pub returns-then-is_true-2-clause-size : goal.returns-then-is_true-2-clause-size
returns-then-is_true-2-clause-size c = let k = c.keep-then-is_true-2.ensures c.requires.there.0 c.requires.there.1 in k.sets.size

pub returns-then-is_true-2-clause-stays_there : goal.returns-then-is_true-2-clause-stays_there
returns-then-is_true-2-clause-stays_there c = λ _.
    stays_visiting (clauses_in c.args.base.now c.args.seen.now) c.args.self.now c.args.falsified c.args.to c.args.i c.requires.there.0 (record { clause = c.requires.there.0.clause; blocker = c.in-Some.side.other }) c.keep-then-is_true-2.new.self c.requires.visiting c.requires.there.1 (c.keep-then-is_true-2.ensures c.requires.there.0 c.requires.there.1) refl (has_true (clauses_in c.args.base.now c.args.seen.now) c.args.self.now c.args.falsified c.args.to c.args.i c.requires.there.0 c.requires.visiting c.requires.there.1 c.watching-lits.result.now (c.watching-lits.ensures c.requires.there.0 c.requires.there.1) c.in-Some.side.other (other_there (clauses_in c.args.base.now c.args.seen.now) c.args.self.now c.args.falsified c.args.to c.args.i c.requires.there.0 c.requires.visiting c.requires.there.1 c.watching-lits.result.now (c.watching-lits.ensures c.requires.there.0 c.requires.there.1) c.in-Some.side.place c.in-Some.side.other c.in-Some.ensures.some) c.if-is_true-2.ensures.yes)

pub returns-then-is_true-2-clause-goes : goal.returns-then-is_true-2-clause-goes
returns-then-is_true-2-clause-goes c =
    stays_goes (clauses_in c.args.base.now c.args.seen.now) c.args.self.now c.args.falsified c.args.to c.args.i c.requires.there.0 (record { clause = c.requires.there.0.clause; blocker = c.in-Some.side.other }) c.keep-then-is_true-2.new.self c.requires.visiting c.requires.there.1 (c.keep-then-is_true-2.ensures c.requires.there.0 c.requires.there.1) refl (has_true (clauses_in c.args.base.now c.args.seen.now) c.args.self.now c.args.falsified c.args.to c.args.i c.requires.there.0 c.requires.visiting c.requires.there.1 c.watching-lits.result.now (c.watching-lits.ensures c.requires.there.0 c.requires.there.1) c.in-Some.side.other (other_there (clauses_in c.args.base.now c.args.seen.now) c.args.self.now c.args.falsified c.args.to c.args.i c.requires.there.0 c.requires.visiting c.requires.there.1 c.watching-lits.result.now (c.watching-lits.ensures c.requires.there.0 c.requires.there.1) c.in-Some.side.place c.in-Some.side.other c.in-Some.ensures.some) c.if-is_true-2.ensures.yes)

pub returns-then-is_true-2-clause-stays : goal.returns-then-is_true-2-clause-stays
returns-then-is_true-2-clause-stays c =
    stays_stays (clauses_in c.args.base.now c.args.seen.now) c.args.self.now c.args.falsified c.args.to c.args.i c.requires.there.0 (record { clause = c.requires.there.0.clause; blocker = c.in-Some.side.other }) c.keep-then-is_true-2.new.self c.requires.visiting c.requires.there.1 (c.keep-then-is_true-2.ensures c.requires.there.0 c.requires.there.1) refl (has_true (clauses_in c.args.base.now c.args.seen.now) c.args.self.now c.args.falsified c.args.to c.args.i c.requires.there.0 c.requires.visiting c.requires.there.1 c.watching-lits.result.now (c.watching-lits.ensures c.requires.there.0 c.requires.there.1) c.in-Some.side.other (other_there (clauses_in c.args.base.now c.args.seen.now) c.args.self.now c.args.falsified c.args.to c.args.i c.requires.there.0 c.requires.visiting c.requires.there.1 c.watching-lits.result.now (c.watching-lits.ensures c.requires.there.0 c.requires.there.1) c.in-Some.side.place c.in-Some.side.other c.in-Some.ensures.some) c.if-is_true-2.ensures.yes)

pub returns-then-is_true-2-clause-row : goal.returns-then-is_true-2-clause-row
returns-then-is_true-2-clause-row c =
    stays_row (clauses_in c.args.base.now c.args.seen.now) c.args.self.now c.args.falsified c.args.to c.args.i c.requires.there.0 (record { clause = c.requires.there.0.clause; blocker = c.in-Some.side.other }) c.keep-then-is_true-2.new.self c.requires.visiting c.requires.there.1 (c.keep-then-is_true-2.ensures c.requires.there.0 c.requires.there.1) refl (has_true (clauses_in c.args.base.now c.args.seen.now) c.args.self.now c.args.falsified c.args.to c.args.i c.requires.there.0 c.requires.visiting c.requires.there.1 c.watching-lits.result.now (c.watching-lits.ensures c.requires.there.0 c.requires.there.1) c.in-Some.side.other (other_there (clauses_in c.args.base.now c.args.seen.now) c.args.self.now c.args.falsified c.args.to c.args.i c.requires.there.0 c.requires.visiting c.requires.there.1 c.watching-lits.result.now (c.watching-lits.ensures c.requires.there.0 c.requires.there.1) c.in-Some.side.place c.in-Some.side.other c.in-Some.ensures.some) c.if-is_true-2.ensures.yes)

pub rewatch-requires-clause-there : goal.rewatch-requires-clause-there
rewatch-requires-clause-there c = (
  c.requires.there.0,
  c.requires.there.1,
  rewatchable (clauses_in c.args.base.now c.args.seen.now) c.args.self.now c.args.falsified c.in-Some-open_literal.open.lit c.in-Some.side.other c.args.to c.args.i c.requires.there.0.clause c.in-Some.side.place c.in-Some-open_literal.open.place
      c.watching-lits.result.now c.requires.visiting (c.watching-lits.ensures c.requires.there.0 c.requires.there.1) c.in-Some.ensures.some c.in-Some-open_literal.ensures.some.1 c.requires.within,
)

pub returns-in-Some-open_literal-clause-gone : goal.returns-in-Some-open_literal-clause-gone
returns-in-Some-open_literal-clause-gone c = λ _.
    rewatched (clauses_in c.args.base.now c.args.seen.now) c.args.self.now c.rewatch.new.self c.args.falsified c.in-Some-open_literal.open.lit c.in-Some.side.other c.args.to c.args.i c.requires.there.0 (record { clause = c.requires.there.0.clause; blocker = c.in-Some.side.other }) c.in-Some.side.place
    c.in-Some-open_literal.open.place c.watching-lits.result.now c.requires.visiting (c.in_ok-rewatch.ensures.ok c.requires.there.0 c.requires.there.1) refl
    (other_there (clauses_in c.args.base.now c.args.seen.now) c.args.self.now c.args.falsified c.args.to c.args.i c.requires.there.0 c.requires.visiting c.requires.there.1 c.watching-lits.result.now (c.watching-lits.ensures c.requires.there.0 c.requires.there.1) c.in-Some.side.place c.in-Some.side.other c.in-Some.ensures.some)
    c.requires.there.1 (c.watching-lits.ensures c.requires.there.0 c.requires.there.1) c.in-Some.ensures.some c.in-Some-open_literal.ensures.some.0 c.in-Some-open_literal.ensures.some.1 c.in-Some-open_literal.ensures.some.2

pub returns-in-Some-open_literal-clause-goes : goal.returns-in-Some-open_literal-clause-goes
returns-in-Some-open_literal-clause-goes c =
    rewatched_goes (clauses_in c.args.base.now c.args.seen.now) c.args.self.now c.rewatch.new.self c.args.falsified c.in-Some-open_literal.open.lit c.in-Some.side.other c.args.to c.args.i c.requires.there.0 (record { clause = c.requires.there.0.clause; blocker = c.in-Some.side.other }) c.in-Some.side.place
    c.in-Some-open_literal.open.place c.watching-lits.result.now c.requires.visiting (c.in_ok-rewatch.ensures.ok c.requires.there.0 c.requires.there.1) refl
    (other_there (clauses_in c.args.base.now c.args.seen.now) c.args.self.now c.args.falsified c.args.to c.args.i c.requires.there.0 c.requires.visiting c.requires.there.1 c.watching-lits.result.now (c.watching-lits.ensures c.requires.there.0 c.requires.there.1) c.in-Some.side.place c.in-Some.side.other c.in-Some.ensures.some)
    c.requires.there.1 (c.watching-lits.ensures c.requires.there.0 c.requires.there.1) c.in-Some.ensures.some c.in-Some-open_literal.ensures.some.0 c.in-Some-open_literal.ensures.some.1 c.in-Some-open_literal.ensures.some.2

pub returns-in-Some-open_literal-clause-stays : goal.returns-in-Some-open_literal-clause-stays
returns-in-Some-open_literal-clause-stays c =
    rewatched_stays (clauses_in c.args.base.now c.args.seen.now) c.args.self.now c.rewatch.new.self c.args.falsified c.in-Some-open_literal.open.lit c.in-Some.side.other c.args.to c.args.i c.requires.there.0 (record { clause = c.requires.there.0.clause; blocker = c.in-Some.side.other }) c.in-Some.side.place
    c.in-Some-open_literal.open.place c.watching-lits.result.now c.requires.visiting (c.in_ok-rewatch.ensures.ok c.requires.there.0 c.requires.there.1) refl
    (other_there (clauses_in c.args.base.now c.args.seen.now) c.args.self.now c.args.falsified c.args.to c.args.i c.requires.there.0 c.requires.visiting c.requires.there.1 c.watching-lits.result.now (c.watching-lits.ensures c.requires.there.0 c.requires.there.1) c.in-Some.side.place c.in-Some.side.other c.in-Some.ensures.some)
    c.requires.there.1 (c.watching-lits.ensures c.requires.there.0 c.requires.there.1) c.in-Some.ensures.some c.in-Some-open_literal.ensures.some.0 c.in-Some-open_literal.ensures.some.1 c.in-Some-open_literal.ensures.some.2

pub returns-in-Some-open_literal-clause-row : goal.returns-in-Some-open_literal-clause-row
returns-in-Some-open_literal-clause-row c =
    rewatched_row (clauses_in c.args.base.now c.args.seen.now) c.args.self.now c.rewatch.new.self c.args.falsified c.in-Some-open_literal.open.lit c.in-Some.side.other c.args.to c.args.i c.requires.there.0 (record { clause = c.requires.there.0.clause; blocker = c.in-Some.side.other }) c.in-Some.side.place
    c.in-Some-open_literal.open.place c.watching-lits.result.now c.requires.visiting (c.in_ok-rewatch.ensures.ok c.requires.there.0 c.requires.there.1) refl
    (other_there (clauses_in c.args.base.now c.args.seen.now) c.args.self.now c.args.falsified c.args.to c.args.i c.requires.there.0 c.requires.visiting c.requires.there.1 c.watching-lits.result.now (c.watching-lits.ensures c.requires.there.0 c.requires.there.1) c.in-Some.side.place c.in-Some.side.other c.in-Some.ensures.some)
    c.requires.there.1 (c.watching-lits.ensures c.requires.there.0 c.requires.there.1) c.in-Some.ensures.some c.in-Some-open_literal.ensures.some.0 c.in-Some-open_literal.ensures.some.1 c.in-Some-open_literal.ensures.some.2

pub returns-in-Some-open_literal-clause-size : goal.returns-in-Some-open_literal-clause-size
returns-in-Some-open_literal-clause-size c =
    let r = c.in_ok-rewatch.ensures.ok c.requires.there.0 c.requires.there.1 in r.adds.size

pub returns-then-is_false-clause-conflict : goal.returns-then-is_false-clause-conflict
returns-then-is_false-clause-conflict c = λ _. (
  c.requires.there.0,
  c.requires.there.1,
  conflict (clauses_in c.args.base.now c.args.seen.now) c.args.self.now c.args.falsified c.args.to c.args.i c.requires.there.0 c.requires.visiting c.requires.there.1 c.watching-lits.result.now (c.watching-lits.ensures c.requires.there.0 c.requires.there.1)
      c.in-Some.side.place c.in-Some.side.other c.in-Some.ensures.some c.in_default-open_literal.ensures.none c.if-is_false.ensures.yes,
)

pub number-number-requires-clause-there : goal.number-number-requires-clause-there
number-number-requires-clause-there c = slice_get_within (row_at c.args.self.now.watches.rows (code_of c.args.falsified)) c.args.i c.requires.there.0 c.requires.there.1

pub push-requires-clause-within : goal.push-requires-clause-within
push-requires-clause-within c =
    other_within (clauses_in c.args.base.now c.args.seen.now) c.args.self.now c.args.falsified c.args.to c.args.i c.requires.there.0 c.requires.visiting c.requires.there.1 c.watching-lits.result.now (c.watching-lits.ensures c.requires.there.0 c.requires.there.1)
    c.in-Some.side.place c.in-Some.side.other c.in-Some.ensures.some c.args.self.now.marks.vars c.requires.within

pub push-requires-clause-free : goal.push-requires-clause-free
push-requires-clause-free c =
    valueless c.args.self.now.marks.marks c.in-Some.side.other c.if-is_true-2.ensures.no c.if-is_false.ensures.no

pub keep-requires-2-clause-in_row : goal.keep-requires-2-clause-in_row
keep-requires-2-clause-in_row c =
    open_place (clauses_in c.args.base.now c.args.seen.now) c.args.self.now c.args.falsified c.args.to c.args.i c.requires.there.0 c.requires.visiting c.requires.there.1

pub returns-clause-size : goal.returns-clause-size
returns-clause-size c = let k = c.keep-2.ensures c.requires.there.0 c.requires.there.1 in k.sets.size

pub returns-clause-stays_there : goal.returns-clause-stays_there
returns-clause-stays_there c = λ _.
    stays_visiting (clauses_in c.args.base.now c.args.seen.now) (record c.args.self.now { marks = c.push.new.self }) c.args.falsified c.args.to c.args.i c.requires.there.0 (record { clause = c.requires.there.0.clause; blocker = c.in-Some.side.other }) c.keep-2.new.self
    (IsVisiting-push (clauses_in c.args.base.now c.args.seen.now) c.args.self.now (record { lit = c.in-Some.side.other; level = c.level-level.result; reason = Some (c.number-number.result + 1) }) c.push.new.self c.args.falsified c.args.to c.args.i c.push.ensures c.requires.visiting) c.requires.there.1 (c.keep-2.ensures c.requires.there.0 c.requires.there.1) refl
    (has_true (clauses_in c.args.base.now c.args.seen.now) (record c.args.self.now { marks = c.push.new.self }) c.args.falsified c.args.to c.args.i c.requires.there.0 (IsVisiting-push (clauses_in c.args.base.now c.args.seen.now) c.args.self.now (record { lit = c.in-Some.side.other; level = c.level-level.result; reason = Some (c.number-number.result + 1) }) c.push.new.self c.args.falsified c.args.to c.args.i c.push.ensures c.requires.visiting) c.requires.there.1 c.watching-lits.result.now (c.watching-lits.ensures c.requires.there.0 c.requires.there.1) c.in-Some.side.other (other_there (clauses_in c.args.base.now c.args.seen.now) c.args.self.now c.args.falsified c.args.to c.args.i c.requires.there.0 c.requires.visiting c.requires.there.1 c.watching-lits.result.now (c.watching-lits.ensures c.requires.there.0 c.requires.there.1) c.in-Some.side.place c.in-Some.side.other c.in-Some.ensures.some)
    (forced_there c.args.self.now (record { lit = c.in-Some.side.other; level = c.level-level.result; reason = Some (c.number-number.result + 1) }) c.push.new.self c.push.ensures))

pub returns-clause-row : goal.returns-clause-row
returns-clause-row c =
    stays_row (clauses_in c.args.base.now c.args.seen.now) (record c.args.self.now { marks = c.push.new.self }) c.args.falsified c.args.to c.args.i c.requires.there.0 (record { clause = c.requires.there.0.clause; blocker = c.in-Some.side.other }) c.keep-2.new.self
    (IsVisiting-push (clauses_in c.args.base.now c.args.seen.now) c.args.self.now (record { lit = c.in-Some.side.other; level = c.level-level.result; reason = Some (c.number-number.result + 1) }) c.push.new.self c.args.falsified c.args.to c.args.i c.push.ensures c.requires.visiting) c.requires.there.1 (c.keep-2.ensures c.requires.there.0 c.requires.there.1) refl
    (has_true (clauses_in c.args.base.now c.args.seen.now) (record c.args.self.now { marks = c.push.new.self }) c.args.falsified c.args.to c.args.i c.requires.there.0 (IsVisiting-push (clauses_in c.args.base.now c.args.seen.now) c.args.self.now (record { lit = c.in-Some.side.other; level = c.level-level.result; reason = Some (c.number-number.result + 1) }) c.push.new.self c.args.falsified c.args.to c.args.i c.push.ensures c.requires.visiting) c.requires.there.1 c.watching-lits.result.now (c.watching-lits.ensures c.requires.there.0 c.requires.there.1) c.in-Some.side.other (other_there (clauses_in c.args.base.now c.args.seen.now) c.args.self.now c.args.falsified c.args.to c.args.i c.requires.there.0 c.requires.visiting c.requires.there.1 c.watching-lits.result.now (c.watching-lits.ensures c.requires.there.0 c.requires.there.1) c.in-Some.side.place c.in-Some.side.other c.in-Some.ensures.some)
    (forced_there c.args.self.now (record { lit = c.in-Some.side.other; level = c.level-level.result; reason = Some (c.number-number.result + 1) }) c.push.new.self c.push.ensures))

pub returns-clause-stays : goal.returns-clause-stays
returns-clause-stays c =
    Stays-trans c.args.self.now (record c.args.self.now { marks = c.push.new.self }) (record (record c.args.self.now { marks = c.push.new.self }) { watches = c.keep-2.new.self }) (Stays-same c.args.self.now c.push.new.self)
    (stays_stays (clauses_in c.args.base.now c.args.seen.now) (record c.args.self.now { marks = c.push.new.self }) c.args.falsified c.args.to c.args.i c.requires.there.0 (record { clause = c.requires.there.0.clause; blocker = c.in-Some.side.other }) c.keep-2.new.self
    (IsVisiting-push (clauses_in c.args.base.now c.args.seen.now) c.args.self.now (record { lit = c.in-Some.side.other; level = c.level-level.result; reason = Some (c.number-number.result + 1) }) c.push.new.self c.args.falsified c.args.to c.args.i c.push.ensures c.requires.visiting) c.requires.there.1 (c.keep-2.ensures c.requires.there.0 c.requires.there.1) refl
    (has_true (clauses_in c.args.base.now c.args.seen.now) (record c.args.self.now { marks = c.push.new.self }) c.args.falsified c.args.to c.args.i c.requires.there.0 (IsVisiting-push (clauses_in c.args.base.now c.args.seen.now) c.args.self.now (record { lit = c.in-Some.side.other; level = c.level-level.result; reason = Some (c.number-number.result + 1) }) c.push.new.self c.args.falsified c.args.to c.args.i c.push.ensures c.requires.visiting) c.requires.there.1 c.watching-lits.result.now (c.watching-lits.ensures c.requires.there.0 c.requires.there.1) c.in-Some.side.other (other_there (clauses_in c.args.base.now c.args.seen.now) c.args.self.now c.args.falsified c.args.to c.args.i c.requires.there.0 c.requires.visiting c.requires.there.1 c.watching-lits.result.now (c.watching-lits.ensures c.requires.there.0 c.requires.there.1) c.in-Some.side.place c.in-Some.side.other c.in-Some.ensures.some)
    (forced_there c.args.self.now (record { lit = c.in-Some.side.other; level = c.level-level.result; reason = Some (c.number-number.result + 1) }) c.push.new.self c.push.ensures)))

pub returns-clause-goes : goal.returns-clause-goes
returns-clause-goes c =
    Goes-trans (clauses_in c.args.base.now c.args.seen.now) c.args.self.now (record c.args.self.now { marks = c.push.new.self }) (record (record c.args.self.now { marks = c.push.new.self }) { watches = c.keep-2.new.self })
    (Goes-push (clauses_in c.args.base.now c.args.seen.now) c.args.self.now (record { lit = c.in-Some.side.other; level = c.level-level.result; reason = Some (c.number-number.result + 1) }) c.push.new.self (c.requires.there.0.clause + 1)
    c.push.ensures c.requires.visiting.kept c.requires.visiting.watching c.level-level.ensures.value (ap (λ n. Some (n + 1)) (c.number-number.ensures c.requires.there.0 c.requires.there.1))
    (reason (clauses_in c.args.base.now c.args.seen.now) c.args.self.now c.args.falsified c.args.to c.args.i c.requires.there.0 c.requires.visiting c.requires.there.1 c.watching-lits.result.now (c.watching-lits.ensures c.requires.there.0 c.requires.there.1)
    c.in-Some.side.place c.in-Some.side.other c.in-Some.ensures.some c.in_default-open_literal.ensures.none))
    (stays_goes (clauses_in c.args.base.now c.args.seen.now) (record c.args.self.now { marks = c.push.new.self }) c.args.falsified c.args.to c.args.i c.requires.there.0 (record { clause = c.requires.there.0.clause; blocker = c.in-Some.side.other }) c.keep-2.new.self
    (IsVisiting-push (clauses_in c.args.base.now c.args.seen.now) c.args.self.now (record { lit = c.in-Some.side.other; level = c.level-level.result; reason = Some (c.number-number.result + 1) }) c.push.new.self c.args.falsified c.args.to c.args.i c.push.ensures c.requires.visiting) c.requires.there.1 (c.keep-2.ensures c.requires.there.0 c.requires.there.1) refl
    (has_true (clauses_in c.args.base.now c.args.seen.now) (record c.args.self.now { marks = c.push.new.self }) c.args.falsified c.args.to c.args.i c.requires.there.0 (IsVisiting-push (clauses_in c.args.base.now c.args.seen.now) c.args.self.now (record { lit = c.in-Some.side.other; level = c.level-level.result; reason = Some (c.number-number.result + 1) }) c.push.new.self c.args.falsified c.args.to c.args.i c.push.ensures c.requires.visiting) c.requires.there.1 c.watching-lits.result.now (c.watching-lits.ensures c.requires.there.0 c.requires.there.1) c.in-Some.side.other (other_there (clauses_in c.args.base.now c.args.seen.now) c.args.self.now c.args.falsified c.args.to c.args.i c.requires.there.0 c.requires.visiting c.requires.there.1 c.watching-lits.result.now (c.watching-lits.ensures c.requires.there.0 c.requires.there.1) c.in-Some.side.place c.in-Some.side.other c.in-Some.ensures.some)
    (forced_there c.args.self.now (record { lit = c.in-Some.side.other; level = c.level-level.result; reason = Some (c.number-number.result + 1) }) c.push.new.self c.push.ensures)))
