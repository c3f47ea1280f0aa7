use Rattle.std.proofs.Common.{◌≡◌}
use Rattle.machine_model.specs.Machine.{MachineModel, IsMachine, IsRefused}
use Rattle.machine_model.proofs.Tables.{refusals_apart, never_refused}
use Rattle.machine_model.proofs.machines.Machine.new.Goals as goal

pub returns-in-Some-clause-refused : goal.returns-in-Some-clause-refused
returns-in-Some-clause-refused c fault =
    let m : MachineModel = record { kind = c.args.kind; reads = c.args.reads; writes = c.args.writes; table = c.args.table.items } in
    let found : IsRefused m c.in-Some.fault = rw c.deref.ensures.value at c.in-Some.ensures.some in
    (λ e. let same : c.in-Some.fault ≡ fault = cc in rw same at found, λ other. let same : c.in-Some.fault ≡ fault = refusals_apart m c.in-Some.fault fault found other in cc)

pub returns-in-None-clause-refused : goal.returns-in-None-clause-refused
returns-in-None-clause-refused c fault =
    let m : MachineModel = record { kind = c.args.kind; reads = c.args.reads; writes = c.args.writes; table = c.args.table.items } in
    let made : IsMachine m = rw c.deref.ensures.value at c.in-None.ensures.none in
    (λ e. cc, λ other. absurd (never_refused m fault made other))
