use Rattle.std.proofs.Common.{◌≡◌, ◌≢◌, ◌/◌, ◌^◌, ◌<◌, ◌%◌, [], length, arith}
use Rattle.std.proofs.lemmas.Grind.{common_steps}
use Rattle.std.specs.Prelude.{All}
use Rattle.machine_model.specs.Machine.{MachineModel, HasShape, size_of}
use Rattle.machine_model.proofs.Tables.{rows_all, by_state, by_letter, shape_of}
use Rattle.machine_model.proofs.machines.table_fault.Goals as goal
use Rattle.machine_model.proofs.machines.table_fault.Goals.{In-Moore}

kept : (c : In-Moore) → All (λ row. row.next < length c.args.table.now / 2 ^ c.args.reads) c.args.table.now
kept c = rw c.letter_count-letters.ensures.value at c.if-has_next_out.ensures.none

written : (c : In-Moore) → All (λ row. row.writes < 2 ^ c.args.writes) c.args.table.now
written c = rw c.letter_count-written.ensures.value at c.if-has_write_out.ensures.none

whole : (c : In-Moore) → length c.args.table.now % 2 ^ c.args.reads ≡ 0
whole c = rw c.letter_count-letters.ensures.value at c.if-table-letters-ne0.false

some : (c : In-Moore) → c.args.table.now ≢ []
some c = grind (arith, common_steps)

pub returns-then-writes_by_letter-clause-some : goal.returns-then-writes_by_letter-clause-some
returns-then-writes_by_letter-clause-some c =
    let m : MachineModel = record { kind = c.args.kind; reads = c.args.reads; writes = c.args.writes; table = c.args.table.now } in
    let d = (goal.at.returns-then-writes_by_letter-clause-some c).In-Moore in
    let shape : HasShape m = shape_of m (some d) (whole d) in
    let found = rw c.letter_count-letters.ensures.value at c.if-writes_by_letter.ensures.some in
    (shape, rows_all (λ row. row.next < size_of m) m shape (kept d), rows_all (λ row. row.writes < 2 ^ m.writes) m shape (written d), c.in-Moore.is, by_letter m found.0 shape found.1 found.2)

pub returns-else-writes_by_letter-clause-none : goal.returns-else-writes_by_letter-clause-none
returns-else-writes_by_letter-clause-none c =
    let m : MachineModel = record { kind = c.args.kind; reads = c.args.reads; writes = c.args.writes; table = c.args.table.now } in
    let d = (goal.at.returns-else-writes_by_letter-clause-none c).In-Moore in
    let shape : HasShape m = shape_of m (some d) (whole d) in
    record {
      shape = shape;
      nexts = rows_all (λ row. row.next < size_of m) m shape (kept d);
      letters = rows_all (λ row. row.writes < 2 ^ m.writes) m shape (written d);
      moore = λ e. by_state m shape (rw c.letter_count-letters.ensures.value at c.if-writes_by_letter.ensures.none);
    }
