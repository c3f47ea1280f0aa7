use Rattle.aiger_text.specs.Statements.{stated}
use Rattle.aiger_text.proofs.Assembly.{have_variables}
use Rattle.aiger_text.proofs.SearchLemmas.{no_cycle}
use Rattle.aiger_text.proofs.reading.gate_order.Goals as goal

pub gate_places-requires : goal.gate_places-requires
gate_places-requires c = rw c.deref.ensures.value (have_variables (stated c.args.statements.now) c.requires.sound)

pub returns-in-Some-clause-acyclic : goal.returns-in-Some-clause-acyclic
returns-in-Some-clause-acyclic c v d =
    no_cycle c.args.statements.now.gates.items c.in-Ok.places.items (rw c.deref.ensures.value at c.in-Ok.ensures) c.in-Some.order.items
    (rw (c.in-Some.is, c.deref-2.ensures.value) at c.in-Ok-sorted_places.ensures) v d
