use Rattle.std.proofs.Common.{◌∙◌}
use Rattle.refutation_log.proofs.LineLemmas.{no_entry_by_literals, no_entry_by_hints, no_entry_by_clause, entry_of_parts}
use Rattle.refutation_log.proofs.read.take_entry.Goals as goal

pub returns-in_default-2 : goal.returns-in_default-2
returns-in_default-2 c =
    no_entry_by_literals c.args.vars c.args.bytes.now c.in-Some.by c.in-Some.bytes.now c.in-Some.ensures (rw c.in_default-2.is at c.in_ok-lits.ensures)

pub returns-in_default-3 : goal.returns-in_default-3
returns-in_default-3 c =
    no_entry_by_hints c.args.vars c.args.bytes.now c.in-Some.by c.in-Some.bytes.now c.in-Some-2.bytes.now c.in-Some-2.lits.items c.in-Some.ensures
    (rw c.in-Some-2.is at c.in_ok-lits.ensures) (rw c.in_default-3.is at c.in_ok-numbers.ensures)

pub returns-in_default-4 : goal.returns-in_default-4
returns-in_default-4 c =
    no_entry_by_clause c.args.vars c.args.bytes.now c.in-Some.by c.in-Some.bytes.now c.in-Some-2.bytes.now c.in-Some-2.lits.items c.in-Some.ensures
    (rw c.in-Some-2.is at c.in_ok-lits.ensures) (rw (c.in_default-4.is, c.deref.ensures.value) at c.in_ok-clause.ensures.none)

pub returns : goal.returns
returns c =
    let stated = rw (c.in-Some-4.is, c.deref.ensures.value) at c.in_ok-clause.ensures.some in
    entry_of_parts c.args.vars c.args.bytes.now c.in-Some.by c.in-Some.bytes.now c.in-Some-2.bytes.now c.in-Some-3.bytes.now c.in-Some-2.lits.items
    c.in_ok-clause-2.clause c.in-Some-3.numbers.items c.in_ok-hints.hints c.in-Some.ensures (rw c.in-Some-2.is at c.in_ok-lits.ensures)
    (rw c.in-Some-3.is at c.in_ok-numbers.ensures) (c.in_ok-clause-2.ensures ∙ stated.0, stated.1, stated.2) (c.in_ok-hints.ensures ∙ c.deref-2.ensures.value)
