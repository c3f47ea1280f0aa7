use Rattle.std.proofs.Common.{◌≡◌, ◌*◌, ◌^◌, ◌<◌, ◌+◌, length, arith}
use Rattle.std.proofs.lemmas.List.{get_or_read}
use Rattle.machine_model.specs.Machine.{MachineModel, size_of, row_of}
use Rattle.machine_model.proofs.Tables.{no_row, place_in}
use Rattle.machine_model.proofs.machines.Machine.row.Goals as goal
use Rattle.machine_model.proofs.machines.Machine.row.Goals.{After-letter_count}

-- the row's place is in the table
in_table : (c : After-letter_count) → c.args.t * c.letter_count.result + c.args.letter < length c.self.inside.table.items
in_table c =
    let m : MachineModel = record { kind = c.self.inside.kind; reads = c.self.inside.reads; writes = c.self.inside.writes; table = c.self.inside.table.items } in
    rw c.letter_count.ensures.value
    (place_in m c.args.t c.args.letter c.self.invariant.machine.shape (rw (← c.self.view_is) at c.requires.state) (rw (← c.self.view_is) at c.requires.letter))

pub index-requires : goal.index-requires
index-requires c = let h : c.args.t * c.letter_count.result + c.args.letter < length c.self.inside.table.items = in_table c in omega (arith, c.self.inside.table.ok.0)

pub returns : goal.returns
returns c =
    let d = (goal.at.returns c).After-letter_count in
    let m : MachineModel = record { kind = c.self.inside.kind; reads = c.self.inside.reads; writes = c.self.inside.writes; table = c.self.inside.table.items } in
    let read : c.index.result.now ≡ row_of m c.args.t c.args.letter =
    rw c.letter_count.ensures.value at (get_or_read m.table (c.args.t * c.letter_count.result + c.args.letter) c.index.result.now (in_table d) c.index.ensures no_row) in
    let state : c.args.t < size_of m = rw (← c.self.view_is) at c.requires.state in
    let letter : c.args.letter < 2 ^ m.reads = rw (← c.self.view_is) at c.requires.letter in
    rw (← c.self.view_is) (record {
      value = read;
      next = rw read (c.self.invariant.machine.nexts c.args.t c.args.letter state letter);
      writes = rw read (c.self.invariant.machine.letters c.args.t c.args.letter state letter);
    })
