use Rattle.std.proofs.Common.{◌≡◌, arith, subst}
use Rattle.annotation_encode.specs.BaseClauses.{row_count}
use Rattle.machine_decode.specs.Written.{AreRows}
use Rattle.machine_decode.proofs.Parts.{more_rows, no_rows}
use Rattle.machine_decode.proofs.decoding.decoded_table.Goals as goal

pub loop-place-init : goal.loop-place-init
loop-place-init c = no_rows c.args.problem.now c.args.values.now c.in_ok-table.table.items c.in_ok-table.ensures.items

pub loop-place-preserved : goal.loop-place-preserved
loop-place-preserved c = more_rows c.args.problem.now c.args.values.now c.loop-place.place c.loop-place.table.items c.push.new.self.items c.decoded_row-row.result c.in_ok-push.ensures.items c.loop-place.invariant c.decoded_row-row.ensures

pub returns-clause-rows : goal.returns-clause-rows
returns-clause-rows c =
    let end : c.loop-place.place ≡ row_count c.args.problem.now = omega (arith, c.row_count-rows.ensures.value) in
    subst (λ n. AreRows c.args.problem.now c.args.values.now n c.loop-place.table.items) end c.loop-place.invariant

pub returns-clause-few : goal.returns-clause-few
returns-clause-few c = omega (arith, c.loop-place.invariant.places, c.row_count-rows.ensures.small)
