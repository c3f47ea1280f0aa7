use Rattle.std.proofs.Common.{◌+ℤ◌, FitsSigned, w64, arith}
use Rattle.std.proofs.lemmas.Int.{ints, to_z-of_z}
use mir.Syntax.{w128}
use Rattle.tlsf_values.proofs.steps.following.Goals as goal

pub returns : goal.returns
returns c =
    let n : FitsSigned w64 c.args.number = c.ranges.number in
    let b : FitsSigned w128 c.args.by = c.ranges.by in
    let l : FitsSigned w64 c.args.last = c.ranges.last in
    let s : FitsSigned w128 (c.args.number +ℤ c.args.by) = omega (arith, ints) in
    let e = c.from.ensures in
    grind (arith, ints, to_z-of_z)
