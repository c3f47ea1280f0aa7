use Rattle.std.proofs.Common.{◌≡◌, false, FitsSigned, w64, arith}
use Rattle.std.proofs.lemmas.Int.{ints, to_z-of_z}
use mir.Syntax.{w128}
use Rattle.tlsf_values.specs.Steps.{passes}
use Rattle.tlsf_values.proofs.StepLemmas.{rest_step}
use Rattle.tlsf_values.proofs.steps.unless_passed.Goals as goal

pub returns : goal.returns
returns c =
    let f : FitsSigned w128 c.args.number = c.ranges.number in
    let b : FitsSigned w128 c.args.by = c.ranges.by in
    let l : FitsSigned w64 c.args.last = c.ranges.last in
    let here : passes c.args.number c.args.by c.args.last ≡ false = grind (arith, ints, to_z-of_z) in
    let g : FitsSigned w64 c.args.number = c.requires.fits here in
    rw (to_z-of_z w128 c.args.number f, to_z-of_z w64 c.args.number g) (rest_step c.args.number c.args.by c.args.last c.requires.some here)
