use Rattle.std.proofs.Common.{◌≡◌, ◌-ℤ◌, FitsSigned, arith, of_z, rules, to_z, w64}
use Rattle.std.proofs.lemmas.Int.{ints, to_z-of_z}
use mir.Syntax.{w128}
use Rattle.tlsf_values.proofs.StepLemmas.{laid_more, step_some}
use Rattle.tlsf_values.proofs.steps.laid_out.Goals as goal

pub following-next-requires-clause-some : goal.following-next-requires-clause-some
following-next-requires-clause-some c =
    let f = c.ranges.first in
    let s = c.ranges.second in
    let b : FitsSigned w128 c.step-by.result = record { sfits = c.step-by.type_inv } in
    let e : c.step-by.result ≡ c.args.second -ℤ c.args.first = omega (arith, ints) in
    rw (to_z-of_z w128 c.step-by.result b, e) (step_some c.args.first c.args.second c.requires)

pub loop-next-preserved : goal.loop-next-preserved
loop-next-preserved c = laid_more _ c.loop-next.numbers.items _ (to_z w64 (of_z w64 c.in-Some.number)) (to_z w128 (of_z w128 c.step-by.result)) (to_z w64 (of_z w64 c.args.last)) c.following-next.result (search rules) (search rules) (search rules)
