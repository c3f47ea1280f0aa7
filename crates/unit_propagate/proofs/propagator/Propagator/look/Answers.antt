use Rattle.std.proofs.Common.{◌≡◌, ◌<◌, ◌+◌, ◌-◌, ◌≤◌, Ok, length, sym, subst, ap, ◌∙◌, arith}
use Rattle.std.proofs.lemmas.Option.{slice_get_within}
use Rattle.propositional_logic.specs.Codes.{code_of}
use Rattle.unit_propagate.specs.declared.propagator.Propagator.{Propagator}
use Rattle.unit_propagate.specs.Rows.{row_at}
use Rattle.unit_propagate.specs.Propagator.{clauses_in, IsVisiting}
use Rattle.unit_propagate.proofs.PropagatorLemmas.{Goes-trans, Stays-trans, visited}
use Rattle.unit_propagate.proofs.propagator.Propagator.look.Goals as goal

pub loop-blocker-preserved-in-Kept : goal.loop-blocker-preserved-in-Kept
loop-blocker-preserved-in-Kept c =
    let lt : c.loop-blocker.place < length (row_at c.loop-blocker.self.watches.rows (code_of c.args.falsified)) = slice_get_within (row_at c.loop-blocker.self.watches.rows (code_of c.args.falsified)) c.loop-blocker.place c.in-Some.ensures.some.0 c.in-Some.ensures.some.1 in
    let row : length (row_at c.step.new.self.watches.rows (code_of c.args.falsified)) ≡ length (row_at c.loop-blocker.self.watches.rows (code_of c.args.falsified)) = c.step.ensures.row in (
      c.in-Ok.ensures.stays_there (ap Ok c.in-Kept.is),
      Goes-trans (clauses_in c.args.base.now c.args.seen.now) c.args.self.now c.loop-blocker.self c.step.new.self c.loop-blocker.invariant.1 c.step.ensures.goes,
      Stays-trans c.args.self.now c.loop-blocker.self c.step.new.self c.loop-blocker.invariant.2 c.step.ensures.stays,
      c.step.ensures.size ∙ c.loop-blocker.invariant.3,
      omega arith,
    )

pub loop-blocker-preserved : goal.loop-blocker-preserved
loop-blocker-preserved c =
    let lt : c.loop-blocker.place < length (row_at c.loop-blocker.self.watches.rows (code_of c.args.falsified)) = slice_get_within (row_at c.loop-blocker.self.watches.rows (code_of c.args.falsified)) c.loop-blocker.place c.in-Some.ensures.some.0 c.in-Some.ensures.some.1 in
    let row : length (row_at c.step.new.self.watches.rows (code_of c.args.falsified)) ≡ length (row_at c.loop-blocker.self.watches.rows (code_of c.args.falsified)) = c.step.ensures.row in (
      c.in-Ok.ensures.gone (ap Ok c.in-Gone.is),
      Goes-trans (clauses_in c.args.base.now c.args.seen.now) c.args.self.now c.loop-blocker.self c.step.new.self c.loop-blocker.invariant.1 c.step.ensures.goes,
      Stays-trans c.args.self.now c.loop-blocker.self c.step.new.self c.loop-blocker.invariant.2 c.step.ensures.stays,
      c.step.ensures.size ∙ c.loop-blocker.invariant.3,
      omega arith,
    )

pub loop-blocker-smaller-in-Kept : goal.loop-blocker-smaller-in-Kept
loop-blocker-smaller-in-Kept c =
    let lt : c.loop-blocker.place < length (row_at c.loop-blocker.self.watches.rows (code_of c.args.falsified)) = slice_get_within (row_at c.loop-blocker.self.watches.rows (code_of c.args.falsified)) c.loop-blocker.place c.in-Some.ensures.some.0 c.in-Some.ensures.some.1 in
    let row : length (row_at c.step.new.self.watches.rows (code_of c.args.falsified)) ≡ length (row_at c.loop-blocker.self.watches.rows (code_of c.args.falsified)) = c.step.ensures.row in
    let less : length (row_at c.step.new.self.watches.rows (code_of c.args.falsified)) - (c.loop-blocker.place + 1) < length (row_at c.loop-blocker.self.watches.rows (code_of c.args.falsified)) - c.loop-blocker.place = omega arith in
    less

pub loop-blocker-smaller : goal.loop-blocker-smaller
loop-blocker-smaller c =
    let lt : c.loop-blocker.place < length (row_at c.loop-blocker.self.watches.rows (code_of c.args.falsified)) = slice_get_within (row_at c.loop-blocker.self.watches.rows (code_of c.args.falsified)) c.loop-blocker.place c.in-Some.ensures.some.0 c.in-Some.ensures.some.1 in
    let row : length (row_at c.step.new.self.watches.rows (code_of c.args.falsified)) ≡ length (row_at c.loop-blocker.self.watches.rows (code_of c.args.falsified)) = c.step.ensures.row in
    let less : length (row_at c.step.new.self.watches.rows (code_of c.args.falsified)) - (c.loop-blocker.place + 1) < length (row_at c.loop-blocker.self.watches.rows (code_of c.args.falsified)) - c.loop-blocker.place = omega arith in
    less

pub step-requires-clause-there : goal.step-requires-clause-there
step-requires-clause-there c = c.in-Some.ensures.some

pub returns-in-Err-clause-visiting : goal.returns-in-Err-clause-visiting
returns-in-Err-clause-visiting c = subst (λ (s : Propagator). IsVisiting (clauses_in c.args.base.now c.args.seen.now) s c.args.falsified c.loop-blocker.kept c.loop-blocker.place) (sym (c.in-Err.ensures.err)) c.loop-blocker.invariant.0

pub returns-in-Err-clause-in_row : goal.returns-in-Err-clause-in_row
returns-in-Err-clause-in_row c =
    let row : length (row_at c.step.new.self.watches.rows (code_of c.args.falsified)) ≡ length (row_at c.loop-blocker.self.watches.rows (code_of c.args.falsified)) = c.step.ensures.row in
    let before : c.loop-blocker.place ≤ length (row_at c.loop-blocker.self.watches.rows (code_of c.args.falsified)) = c.loop-blocker.invariant.4 in
    let now : c.loop-blocker.place ≤ length (row_at c.step.new.self.watches.rows (code_of c.args.falsified)) = omega arith in
    now

pub returns-in-Conflict-clause-visiting : goal.returns-in-Conflict-clause-visiting
returns-in-Conflict-clause-visiting c = subst (λ (s : Propagator). IsVisiting (clauses_in c.args.base.now c.args.seen.now) s c.args.falsified c.loop-blocker.kept c.loop-blocker.place) (sym (c.in-Ok.ensures.still (ap Ok c.in-Conflict.is))) c.loop-blocker.invariant.0

pub returns-in-Conflict-clause-in_row : goal.returns-in-Conflict-clause-in_row
returns-in-Conflict-clause-in_row c =
    let row : length (row_at c.step.new.self.watches.rows (code_of c.args.falsified)) ≡ length (row_at c.loop-blocker.self.watches.rows (code_of c.args.falsified)) = c.step.ensures.row in
    let before : c.loop-blocker.place ≤ length (row_at c.loop-blocker.self.watches.rows (code_of c.args.falsified)) = c.loop-blocker.invariant.4 in
    let now : c.loop-blocker.place ≤ length (row_at c.step.new.self.watches.rows (code_of c.args.falsified)) = omega arith in
    now

pub returns-clause-all : goal.returns-clause-all
returns-clause-all c = λ _.
    visited (clauses_in c.args.base.now c.args.seen.now) c.loop-blocker.self c.args.falsified c.loop-blocker.kept c.loop-blocker.place c.loop-blocker.invariant.0 c.in_default.ensures.none
