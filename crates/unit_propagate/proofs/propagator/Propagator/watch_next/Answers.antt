use Rattle.std.proofs.Common.{length, sym}
use Rattle.unit_propagate.specs.Trail.{literals_of}
use Rattle.unit_propagate.specs.Propagator.{clauses_in}
use Rattle.propositional_logic.specs.Clause.{IsWithinVariables}
use Rattle.unit_propagate.proofs.Places.{All-slice_get}
use Rattle.unit_propagate.proofs.PropagatorLemmas.{falsified_at}
use Rattle.unit_propagate.proofs.StepLemmas.{list_fits}
use Rattle.unit_propagate.proofs.RewatchLemmas.{Goes-watched, Goes-keeps, clause_within}
use Rattle.unit_propagate.proofs.propagator.Propagator.watch_next.Goals as goal

pub returns-in_default-clause-falsified : goal.returns-in_default-clause-falsified
returns-in_default-clause-falsified c = λ _.
    falsified_at (clauses_in c.args.base.now c.args.seen.now) (literals_of c.args.self.now.marks.marks) (length c.args.self.now.watches.watched) c.clause_at-clause.result.now
    (rw c.len.ensures.value at c.clause_at-clause.ensures) (rw c.lits.ensures.value at c.in_default.ensures.none)

pub add-requires-clause-first_fits : goal.add-requires-clause-first_fits
add-requires-clause-first_fits c = λ h.
    list_fits c.args.self.now c.in-Some.first c.requires.kept
    (clause_within c.args.self.now.marks.vars (clauses_in c.args.base.now c.args.seen.now) c.len.result c.clause_at-clause.result.now c.in-Some.first c.requires.within c.clause_at-clause.ensures
    (rw c.lits.ensures.value at c.in-Some.ensures.some.0)) h

pub add-requires-clause-second_fits : goal.add-requires-clause-second_fits
add-requires-clause-second_fits c = λ h.
    list_fits c.args.self.now c.in-Some-other_unfalsified.second c.requires.kept
    (clause_within c.args.self.now.marks.vars (clauses_in c.args.base.now c.args.seen.now) c.len.result c.clause_at-clause.result.now c.in-Some-other_unfalsified.second c.requires.within c.clause_at-clause.ensures
    (rw c.lits-2.ensures.value at c.in-Some-other_unfalsified.ensures.some.0)) h

pub watch_forced-requires-clause-within : goal.watch_forced-requires-clause-within
watch_forced-requires-clause-within c =
    All-slice_get (IsWithinVariables c.args.self.now.marks.vars) (clauses_in c.args.base.now c.args.seen.now) c.len.result c.clause_at-clause.result.now c.requires.within c.clause_at-clause.ensures

pub returns-in_ok-add-in-Some-other_unfalsified-clause-goes : goal.returns-in_ok-add-in-Some-other_unfalsified-clause-goes
returns-in_ok-add-in-Some-other_unfalsified-clause-goes c =
    let first = c.in-Some.ensures.some in
    let second = c.in-Some-other_unfalsified.ensures.some in
    Goes-watched (clauses_in c.args.base.now c.args.seen.now) c.args.self.now c.add.new.self c.clause_at-clause.result.now c.in-Some.first c.in-Some-other_unfalsified.second
    c.requires.kept c.requires.watching (rw c.lits-in-Some-other_unfalsified.ensures.value at c.in_ok-add-in-Some-other_unfalsified.ensures.ok) (rw c.len.ensures.value at c.clause_at-clause.ensures) c.lits.ensures.sorted
    (rw c.lits.ensures.value at first.0) (rw c.lits-2.ensures.value at second.0) (λ e. second.1 (sym e)) first.1 second.2

pub returns-in_err-add-in-Some-other_unfalsified-clause-goes : goal.returns-in_err-add-in-Some-other_unfalsified-clause-goes
returns-in_err-add-in-Some-other_unfalsified-clause-goes c =
    Goes-keeps (clauses_in c.args.base.now c.args.seen.now) c.args.self.now c.add.new.self c.requires.kept c.requires.watching c.in_err-add-in-Some-other_unfalsified.ensures.err
