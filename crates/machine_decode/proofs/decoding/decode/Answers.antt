use Rattle.std.proofs.Common.{◌≡◌, sym, ◌∙◌, subst}
use Rattle.machine_model.specs.Automaton.{IsAutomaton}
use Rattle.machine_model.specs.Machine.{IsMachine, MachineModel}
use Rattle.machine_model.proofs.Tables.{never_refused}
use Rattle.annotation_encode.proofs.ClauseOrder.{start_small}
use Rattle.machine_decode.specs.Written.{HasMoves}
use Rattle.machine_decode.proofs.Annotations.{has_moves, outcome}
use Rattle.machine_decode.proofs.Machines.{is_machine, machine_of}
use Rattle.machine_decode.proofs.decoding.decode.Goals as goal

pub decoded_table-requires-clause-moves : goal.decoded_table-requires-clause-moves
decoded_table-requires-clause-moves c =
    subst (HasMoves c.args.problem.now) (sym c.as_slice-values.ensures.value)
    (has_moves c.args.problem.now c.args.assignment.now.values.items c.requires.problem.some (start_small c.args.problem.now c.requires.problem) (subst IsAutomaton c.deref.ensures c.states-states.ensures.kept) c.requires.met)

pub unreachable-requires : goal.unreachable-requires
unreachable-requires c =
    let given : MachineModel = record { kind = c.args.problem.now.kind; reads = c.reads.result; writes = c.writes.result; table = c.in_ok-table.table.items } in
    let is : given ≡ machine_of c.args.problem.now c.in_ok-table.table.items = (λ j. record { kind = c.args.problem.now.kind; reads = c.reads.ensures j; writes = c.writes.ensures j; table = c.in_ok-table.table.items }) in
    let machine : IsMachine (machine_of c.args.problem.now c.in_ok-table.table.items) = is_machine c.args.problem.now c.as_slice-values.result.now c.in_ok-table.table.items c.requires.problem.some c.in_ok-table.ensures.rows in
    never_refused given c.in_default.field-0 (subst IsMachine (sym is) machine) ((c.new.ensures.refused c.in_default.field-0).0 c.in_default.is)

pub returns-clause-machine : goal.returns-clause-machine
returns-clause-machine c =
    (outcome c.args.problem.now c.as_slice-values.result.now c.args.assignment.now.values.items c.in_ok-table.table.items c.in-Ok.machine c.in_ok-numbers.numbers.items c.joined_is_reached.ensures c.requires.problem (subst IsAutomaton c.deref.ensures c.states-states.ensures.kept)
    c.requires.met c.as_slice-values.ensures.value c.in_ok-table.ensures.rows (c.in-Ok.ensures.parts ∙ (λ j. record { kind = c.args.problem.now.kind; reads = c.reads.ensures j; writes = c.writes.ensures j; table = c.in_ok-table.table.items })) c.in_ok-numbers.ensures).looked_for

pub returns-clause-made : goal.returns-clause-made
returns-clause-made c =
    (outcome c.args.problem.now c.as_slice-values.result.now c.args.assignment.now.values.items c.in_ok-table.table.items c.in-Ok.machine c.in_ok-numbers.numbers.items c.joined_is_reached.ensures c.requires.problem (subst IsAutomaton c.deref.ensures c.states-states.ensures.kept)
    c.requires.met c.as_slice-values.ensures.value c.in_ok-table.ensures.rows (c.in-Ok.ensures.parts ∙ (λ j. record { kind = c.args.problem.now.kind; reads = c.reads.ensures j; writes = c.writes.ensures j; table = c.in_ok-table.table.items })) c.in_ok-numbers.ensures).made

pub returns-clause-decoded : goal.returns-clause-decoded
returns-clause-decoded c =
    (outcome c.args.problem.now c.as_slice-values.result.now c.args.assignment.now.values.items c.in_ok-table.table.items c.in-Ok.machine c.in_ok-numbers.numbers.items c.joined_is_reached.ensures c.requires.problem (subst IsAutomaton c.deref.ensures c.states-states.ensures.kept)
    c.requires.met c.as_slice-values.ensures.value c.in_ok-table.ensures.rows (c.in-Ok.ensures.parts ∙ (λ j. record { kind = c.args.problem.now.kind; reads = c.reads.ensures j; writes = c.writes.ensures j; table = c.in_ok-table.table.items })) c.in_ok-numbers.ensures).decoded

pub returns-clause-valid : goal.returns-clause-valid
returns-clause-valid c =
    (outcome c.args.problem.now c.as_slice-values.result.now c.args.assignment.now.values.items c.in_ok-table.table.items c.in-Ok.machine c.in_ok-numbers.numbers.items c.joined_is_reached.ensures c.requires.problem (subst IsAutomaton c.deref.ensures c.states-states.ensures.kept)
    c.requires.met c.as_slice-values.ensures.value c.in_ok-table.ensures.rows (c.in-Ok.ensures.parts ∙ (λ j. record { kind = c.args.problem.now.kind; reads = c.reads.ensures j; writes = c.writes.ensures j; table = c.in_ok-table.table.items })) c.in_ok-numbers.ensures).valid

pub returns-clause-accepted : goal.returns-clause-accepted
returns-clause-accepted c =
    (outcome c.args.problem.now c.as_slice-values.result.now c.args.assignment.now.values.items c.in_ok-table.table.items c.in-Ok.machine c.in_ok-numbers.numbers.items c.joined_is_reached.ensures c.requires.problem (subst IsAutomaton c.deref.ensures c.states-states.ensures.kept)
    c.requires.met c.as_slice-values.ensures.value c.in_ok-table.ensures.rows (c.in-Ok.ensures.parts ∙ (λ j. record { kind = c.args.problem.now.kind; reads = c.reads.ensures j; writes = c.writes.ensures j; table = c.in_ok-table.table.items })) c.in_ok-numbers.ensures).accepted
