use Rattle.std.proofs.Common.{◌<◌, ◌≤◌, arith}
use Rattle.machine_model.specs.Machine.{size_of}
use Rattle.product_bound.proofs.Exists.{has_annotation}
use Rattle.product_bound.proofs.Valid.{never_accepted}
use Rattle.product_bound.proofs.laws.accepted_is_annotated.Goals as goal

pub returns : goal.returns
returns c = λ p m problem made machine fits.
    let size : 1 ≤ p.size = problem.some in
    let some : 0 < size_of m = rw fits.size (omega arith) in (
      has_annotation p m c.components_are_classes.ensures made machine fits some,
      λ annotation w run. never_accepted p m annotation.numbers w run.0 c.joined_is_reached.ensures made machine fits some annotation.valid run.1,
    )
