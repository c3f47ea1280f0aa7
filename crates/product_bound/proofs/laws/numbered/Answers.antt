use Rattle.std.proofs.Common.{◌≡◌, ◌<◌, ◌^◌, ap, ◌∙◌, sym, subst, arith, length}
use Rattle.std.proofs.lemmas.List.FromFn.{length-map-range_with_len}
use Rattle.machine_model.specs.Machine.{MachineModel, IsMachine}
use Rattle.machine_model.proofs.Tables.{never_refused}
use Rattle.product_bound.specs.Laws.{IsNumberedForm}
use Rattle.product_bound.specs.Numbered.{numbered_of, numbered_row}
use Rattle.product_bound.proofs.Numbering.{numbered_form}
use Rattle.product_bound.proofs.laws.numbered.Goals as goal

pub new-requires-clause-rows : goal.new-requires-clause-rows
new-requires-clause-rows c =
    let rows : length c.args.machine.now.table < 2 ^ 32 = c.kind.ensures.kept.rows in
    let same : length c.in_ok-table.table.items ≡ length c.args.machine.now.table = ap length c.in_ok-table.ensures ∙ length-map-range_with_len (numbered_row c.args.machine.now) 0 (length c.args.machine.now.table) in
    omega (arith, rows, same)

pub unreachable-requires : goal.unreachable-requires
unreachable-requires c =
    let m : MachineModel = c.args.machine.now in
    let given : MachineModel = record { kind = c.kind.result; reads = c.reads.result; writes = c.writes.result; table = c.in_ok-table.table.items } in
    let is : given ≡ numbered_of m = λ i. record { kind = c.kind.ensures.value i; reads = c.reads.ensures.value i; writes = c.writes.ensures.value i; table = c.in_ok-table.ensures i } in
    let machine : IsMachine given = subst IsMachine (sym is) (numbered_form m c.kind.ensures.kept.machine).machine in
    never_refused given c.in_default.field-0 machine ((c.new.ensures.refused c.in_default.field-0).0 c.in_default.is)

pub returns-clause-form : goal.returns-clause-form
returns-clause-form c =
    let m : MachineModel = c.args.machine.now in
    let is : c.in-Ok.new ≡ numbered_of m = c.in-Ok.ensures.parts ∙ (λ i. record { kind = c.kind.ensures.value i; reads = c.reads.ensures.value i; writes = c.writes.ensures.value i; table = c.in_ok-table.ensures i }) in
    subst (IsNumberedForm m) (sym is) (numbered_form m c.kind.ensures.kept.machine)
