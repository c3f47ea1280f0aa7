use Rattle.std.proofs.Common.{◌≡◌, ◌+◌, ◌<◌, ◌≤◌, length, ap, arith}
use Rattle.truth_witness.specs.Variables.{occurring}
use Rattle.witness_bounds.proofs.Occurring.{few_occur}
use Rattle.witness_bounds.proofs.bounds.truth_count.Goals as goal

pub overflow_cast-result : goal.overflow_cast-result
overflow_cast-result c =
    let same : length c.in_ok-ids.ids.items ≡ length (occurring c.args.formulas.now c.args.form) = ap length c.in_ok-ids.ensures in
    let few : length (occurring c.args.formulas.now c.args.form) ≤ c.args.form.0 + 1 = few_occur c.args.formulas.now c.args.form in
    let stands : c.args.form.0 < length c.args.formulas.now = c.requires in
    let most : length c.args.formulas.now ≤ 16384 = c.len-nodes.ensures.list.most in
    let long : length c.in_ok-ids.ids.items ≤ 16384 = omega (arith, same, few, stands, most) in
    let count : c.len.result ≡ length c.in_ok-ids.ids.items = omega (arith, c.len.ensures, c.in_ok-ids.ids.ok.0) in
    omega (arith, count, long)

pub returns-clause-few : goal.returns-clause-few
returns-clause-few c =
    let same : length c.in_ok-ids.ids.items ≡ length (occurring c.args.formulas.now c.args.form) = ap length c.in_ok-ids.ensures in
    let few : length (occurring c.args.formulas.now c.args.form) ≤ c.args.form.0 + 1 = few_occur c.args.formulas.now c.args.form in
    let stands : c.args.form.0 < length c.args.formulas.now = c.requires in
    let most : length c.args.formulas.now ≤ 16384 = c.len-nodes.ensures.list.most in
    let long : length c.in_ok-ids.ids.items ≤ 16384 = omega (arith, same, few, stands, most) in
    let count : c.len.result ≡ length c.in_ok-ids.ids.items = omega (arith, c.len.ensures, c.in_ok-ids.ids.ok.0) in
    omega (arith, count, long)
